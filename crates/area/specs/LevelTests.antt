-- Laws: soundness of the levels as the code tests it, level by level, and that this is what Area says of them.
use Rattle.std.specs.Prelude.{◌≡◌, refl, Bool, true, not, ◌||◌, ◌&&◌, List, [], ◌∷◌, ℕ, zero, suc, ◌+◌, ◌*◌, ◌/◌, eqb, ltb, take, drop, replicate}
use Rattle.std.proofs.Common.{sym, ap, ◌∙◌, zero-add, eq-eqb}
use Rattle.std.proofs.Math.Dec.{leb-zero, leb-suc-suc, eqb-suc-zero}
use Rattle.bits.specs.Bits.{bits_of}
use Rattle.tree.specs.Tree.{block_bits, sequential_bits, output_bits}
use Rattle.calls.specs.Area.{all_false, done_blocks, held_bits, held_parallel, held_sequential, parallel_hold, sequential_hold, holds_above, open_holds, holds_for, clean, clean_all, levels_from}
use Rattle.calls.proofs.SoundParts.{empty_from, all_empty, clean-empty}

-- a sequential level after c compressions of it, with some bits held
abbrev pub sound_sequential : ℕ → ℕ → List ℕ → Bool
sound_sequential c held ws = (not (eqb c 0) || all_false (take output_bits (bits_of 64 ws))) && empty_from (output_bits + held) ws

-- the levels above level 1, when i outputs came to the first of them; n levels from it up may be parallel
abbrev pub sound_above : ℕ → ℕ → List (List ℕ) → Bool
sound_above n i [] = true
sound_above zero i (ws ∷ up) = sound_sequential (i / 3) (output_bits * held_sequential i) ws && all_empty up
sound_above (suc n) i (ws ∷ up) = empty_from (output_bits * held_parallel i) ws && sound_above n (i / 4) up

-- all levels of an open area
abbrev pub sound_open : ℕ → ℕ → List (List ℕ) → Bool
sound_open limit T [] = true
sound_open zero T (ws ∷ up) = sound_sequential (done_blocks sequential_bits T) (held_bits sequential_bits T) ws && all_empty up
sound_open (suc n) T (ws ∷ up) = empty_from (held_bits block_bits T) ws && sound_above n (done_blocks block_bits T) up

-- ---- they are Area's

clean-parallel : (n : ℕ) (ws : List ℕ) → clean (parallel_hold n) ws ≡ empty_from n ws
clean-parallel n ws = ap (λ (k : ℕ). all_false (drop k (bits_of 64 ws))) (zero-add n)

some : (c : ℕ) → ltb 0 c ≡ not (eqb c 0)
some zero = refl
some (suc c) = leb-suc-suc 0 c ∙ leb-zero c ∙ sym (ap not (eqb-suc-zero c))

clean-sequential : (c n : ℕ) (ws : List ℕ) → clean (sequential_hold c n) ws ≡ sound_sequential c n ws
clean-sequential c n ws = ap (λ (b : Bool). ((b || all_false (take output_bits (bits_of 64 ws))) && empty_from (output_bits + n) ws)) (some c)

clean-above : (area : List ℕ) (m n i k : ℕ) → clean_all (holds_above m n i) (levels_from area m k) ≡ sound_above n i (levels_from area m k)
clean-above area zero n i k = refl
clean-above area (suc m) zero i k = rw (clean-empty area m (suc k), clean-sequential) refl
clean-above area (suc m) (suc n) i k = rw (clean-above area m n (i / 4) (suc k), clean-parallel) refl

pub clean_open : (area : List ℕ) (m limit T k : ℕ) → clean_all (open_holds m limit T) (levels_from area m k) ≡ sound_open limit T (levels_from area m k)
clean_open area zero limit T k = refl
clean_open area (suc m) zero T k = rw (clean-empty area m (suc k), clean-sequential) refl
clean_open area (suc m) (suc n) T k = rw (clean-above area m n (done_blocks block_bits T) (suc k), clean-parallel) refl

-- which holds an area has goes by its phase
pub holds-ended : (k phase limit T : ℕ) → phase ≡ 2 → holds_for k phase limit T ≡ replicate k (parallel_hold 0)
holds-ended k phase limit T h = rw (eq-eqb phase 2 h, holds_for)

pub holds_open : (k phase limit T : ℕ) → phase ≡ 1 → holds_for k phase limit T ≡ open_holds k limit T
holds_open k phase limit T h = rw (h, holds_for)
