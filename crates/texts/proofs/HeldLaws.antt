-- Laws: what soundness says of an area, as far as its text needs it: words 0 to 5 fit their digits, and a level without a line holds
-- nothing.
use Rattle.std.specs.Prelude.{◌≡◌, refl, Bool, true, false, not, ◌||◌, List, [], ◌∷◌, map, ℕ, zero, suc, ◌+◌, ◌^◌, ◌≤◌, eqb, length, take, drop, get_or}
use Rattle.std.proofs.Common.{sym, ◌∙◌, arith, eqb-true}
use Rattle.std.proofs.lemmas.List.{length-replicate}
use Rattle.lists.specs.Below.{Below}
use Rattle.lists.specs.BelowLaws.{below-zeros}
use Rattle.bits.specs.Bits.{bits_of}
use Rattle.bits.specs.BitsLaws.{length-bits_of, bits_of-zeros, bits_of_inj}
use Rattle.tree.specs.Tree.{most_key_bytes, most_digest_bits, most_limit, most_rounds}
use Rattle.calls.specs.Area.{Hold, block_words, phase_of, total_of, key_bytes_of, levels_of, params_of, own_levels, empty_level, holds_for, all_false, clean, clean_all, sound, sound_levels}
use Rattle.calls.proofs.AreaLaws.{all_false_is}
use Rattle.lists.specs.And.{and_parts}
use Rattle.calls.proofs.Rows.{AllLen}
use Rattle.calls.proofs.Moved.{sound-tests, sound-valid, length-key, Words, cons}
use Rattle.texts.specs.Text.{has_line, held_of}

-- ---- words 0 to 5 and word 15

pub record Ranges (area : List ℕ) : Type 0 where
  pub phase : phase_of area ≤ 2
  pub key_bytes : key_bytes_of area ≤ most_key_bytes
  pub d : get_or area 3 0 ≤ most_digest_bits
  pub limit : get_or area 4 0 ≤ most_limit
  pub rounds : get_or area 5 0 ≤ most_rounds
  pub last : get_or area 15 0 ≡ 0
  pub levels : sound_levels area ≡ true

phase-range : (p : ℕ) → eqb p 1 || eqb p 2 ≡ true → p ≤ 2
phase-range p e = by (eqb p 1) (eqb p 2) refl refl e
  where
    by : (s t : Bool) → eqb p 1 ≡ s → eqb p 2 ≡ t → s || t ≡ true → p ≤ 2
    by true t f g e = omega (arith, eqb-true p 1 f)
    by false true f g e = omega (arith, eqb-true p 2 g)
    by false false f g e = let z : ◌≡◌ {A = ℕ} 0 1 = cc in absurd (omega arith)

pub ranges : (area : List ℕ) → sound area ≡ true → Ranges area
unfolding params_of
ranges area e =
    let t = sound-tests area e in
    let v = sound-valid area e in
    record {
      phase = phase-range (phase_of area) t.phase;
      key_bytes = rw (length-key area) at v.key_bytes;
      d = v.d_high;
      limit = v.limit_high;
      rounds = v.rounds_high;
      last = eqb-true (get_or area 15 0) 0 t.last;
      levels = t.levels;
    }

-- ---- a level whose bits are all false

pub empty-level : (ws : List ℕ) → length ws ≡ block_words → Below (2 ^ 64) ws → all_false (bits_of 64 ws) ≡ true → ws ≡ empty_level
unfolding empty_level
empty-level ws h b e =
    bits_of_inj 64 b (below-zeros (2 ^ 64) 64 (omega arith)) (h ∙ sym (length-replicate {A = ℕ} 64 0))
    (all_false_is (bits_of 64 ws) e ∙ rw (length-bits_of 64 ws, h) (sym (bits_of-zeros 64 64)))

all-parts : (n : ℕ) (bs : List Bool) → all_false (take n bs) ≡ true → all_false (drop n bs) ≡ true → all_false bs ≡ true
all-parts zero bs e f = f
all-parts (suc n) [] e f = refl
all-parts (suc n) (true ∷ bs) e f = e
all-parts (suc n) (false ∷ bs) e f = all-parts n bs e f

-- ---- levels that hold nothing where they have no line

pub data Fit : List Bool → List (List ℕ) → Type 0 where
  none : Fit [] []
  line : {hs : List Bool} {ls : List (List ℕ)} {ws : List ℕ} → length ws ≡ block_words → Below (2 ^ 64) ws → Fit hs ls → Fit (true ∷ hs) (ws ∷ ls)
  bare : {hs : List Bool} {ls : List (List ℕ)} {ws : List ℕ} → ws ≡ empty_level → Fit hs ls → Fit (false ∷ hs) (ws ∷ ls)

-- one level that is clean for what it holds
fit-one : (h : Hold) (ws : List ℕ) {hs : List Bool} {ls : List (List ℕ)} → length ws ≡ block_words → Below (2 ^ 64) ws → clean h ws ≡ true
    → Fit hs ls → Fit (has_line h ∷ hs) (ws ∷ ls)
fit-one h ws {hs} {ls} l b e f =
    by h.output (eqb h.bits 0) refl
    (and_parts (h.output || all_false (take h.reserved (bits_of 64 ws))) (all_false (drop (h.reserved + h.bits) (bits_of 64 ws))) e)
  where
    by : (o t : Bool) → eqb h.bits 0 ≡ t
        → (o || all_false (take h.reserved (bits_of 64 ws)) ≡ true) × (all_false (drop (h.reserved + h.bits) (bits_of 64 ws)) ≡ true)
        → Fit ((o || not t) ∷ hs) (ws ∷ ls)
    by true t g p = line l b f
    by false false g p = line l b f
    by false true g p =
        let z : h.reserved + h.bits ≡ h.reserved = omega (arith, eqb-true h.bits 0 g) in
        bare (empty-level ws l b (all-parts h.reserved (bits_of 64 ws) p.0 (rw z at p.1))) f

fit_all : (holds : List Hold) (ls : List (List ℕ)) → length holds ≡ length ls → AllLen block_words ls → Words ls → clean_all holds ls ≡ true → Fit (map has_line holds) ls
fit_all [] [] n a w e = none
fit_all [] (ws ∷ ls) n a w e = absurd (omega arith)
fit_all (h ∷ hs) [] n a w e = absurd (omega arith)
fit_all (h ∷ hs) (ws ∷ ls) n a (cons b w) e =
    let p = and_parts (clean h ws) (clean_all hs ls) e in
    fit-one h ws a.0 b p.0 (fit_all hs ls (omega arith) a.1 w p.1)

-- the levels of a sound area
pub fit-levels : (area : List ℕ) → length (holds_for (own_levels area) (phase_of area) (params_of area).limit (total_of area)) ≡ length (levels_of area)
    → AllLen block_words (levels_of area) → Words (levels_of area) → sound_levels area ≡ true → Fit (held_of area) (levels_of area)
fit-levels area n a w e = fit_all (holds_for (own_levels area) (phase_of area) (params_of area).limit (total_of area)) (levels_of area) n a w e
