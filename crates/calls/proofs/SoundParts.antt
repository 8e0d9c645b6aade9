-- Laws: soundness in parts: the words before the levels, and the levels; of levels that hold nothing it asks that no bit of their words is
-- set.
use Rattle.std.specs.Prelude.{◌≡◌, refl, Bool, true, ◌&&◌, List, [], ◌∷◌, ℕ, zero, suc, ◌+◌, ◌*◌, ◌≤◌, take, drop, replicate}
use Rattle.std.proofs.Common.{sym, ap, ◌∙◌, arith, drop-drop, take-add}
use Rattle.std.proofs.Math.Bool.{and_assoc}
use Rattle.bits.specs.Bits.{bits_of}
use Rattle.bits.specs.BitsLaws.{bits_of-append}
use Rattle.calls.specs.Area.{block_words, level_start, levels_from, parallel_hold, all_false, clean_all, sound_phase, sound_params, sound_key, sound_count, sound_last, sound_levels, sound}
use Rattle.calls.proofs.AreaLaws.{all_false-append}

-- ---- levels that hold nothing

-- no bit of a level's words is set from its bit n on
abbrev pub empty_from : ℕ → List ℕ → Bool
empty_from n ws = all_false (drop n (bits_of 64 ws))

abbrev pub all_empty : List (List ℕ) → Bool
all_empty [] = true
all_empty (ws ∷ up) = empty_from 0 ws && all_empty up

-- as many levels as holds, none of which holds anything
pub clean-empty : (area : List ℕ) (n k : ℕ) → clean_all (replicate n (parallel_hold 0)) (levels_from area n k) ≡ all_empty (levels_from area n k)
clean-empty area zero k = refl
clean-empty area (suc n) k = rw (clean-empty area n (suc k)) refl

pub empty-levels : (area : List ℕ) (m k : ℕ) → 1 ≤ k → all_empty (levels_from area m k) ≡ empty_from 0 (take (block_words * m) (drop (level_start k) area))
empty-levels area zero k h = refl
empty-levels area (suc m) k h =
    let D : List ℕ = drop (level_start k) area in
    let e : block_words * suc m ≡ block_words + block_words * m = omega arith in
    let f : level_start k + block_words ≡ level_start (suc k) = omega arith in
    rw (e, take-add block_words (block_words * m) D, bits_of-append, all_false-append, drop-drop block_words (level_start k) area, f, empty-levels area m (suc k) (omega arith))

-- ---- the words before the levels

-- all that soundness asks of the words before the levels
unfoldable pub sound_head : List ℕ → Bool
sound_head area = sound_phase area && (sound_params area && (sound_key area && (sound_count area && sound_last area)))

-- the tests of the head, and one more
pub parts-joined : (area : List ℕ) (levels : Bool)
    → (sound_phase area && (sound_params area && (sound_key area && (sound_count area && (sound_last area && levels))))) ≡ (sound_head area && levels)
unfolding sound_head
parts-joined area f =
    let a = sound_phase area in
    let b = sound_params area in
    let c = sound_key area in
    let d = sound_count area in
    let e = sound_last area in
    sym
    (and_assoc a (b && (c && (d && e))) f
    ∙ ap (◌&&◌ a) (and_assoc b (c && (d && e)) f ∙ ap (◌&&◌ b) (and_assoc c (d && e) f ∙ ap (◌&&◌ c) (and_assoc d e f))))

pub sound-parts : (area : List ℕ) → sound area ≡ (sound_head area && sound_levels area)
unfolding sound
sound-parts area = parts-joined area (sound_levels area)
