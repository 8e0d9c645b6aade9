-- Laws: the widths of an area's levels; levels written again, and words of the head written beside them.
use Rattle.std.specs.Prelude.{◌≡◌, refl, ℕ, zero, suc, ◌+◌, ◌≤◌, ◌<◌, length, take, drop, set}
use Rattle.std.proofs.Common.{◌∙◌, arith, length-take-le, drop-set-lt}
use mathlib.Core.List.{List, ◌++◌, flatten}
use Rattle.std.proofs.Math.Seq.{take-set-lt}
use Rattle.std.proofs.lemmas.List.{set-append_left}
use Rattle.calls.specs.Area.{head_words, block_words, params_of, own_levels, own_words, levels_from, levels_of, with_levels, Long}
use Rattle.calls.proofs.Rows.{AllLen}
use Rattle.calls.proofs.AreaLaws.{length-level_words, head-with_levels, params-with_levels, params-set, tail-with_levels}

-- ---- the levels of an area

levels-widths : (area : List ℕ) (n k : ℕ) → Long area → n + k ≤ own_levels area + 1 → AllLen block_words (levels_from area n k)
levels-widths area zero k h g = tt
levels-widths area (suc n) k h g = (length-level_words area k h (omega arith), levels-widths area n (suc k) h (omega arith))

pub levels_of-widths : (area : List ℕ) → Long area → AllLen 64 (levels_of area)
unfolding levels_of
levels_of-widths area h = levels-widths area (own_levels area) 1 h (omega arith)

-- ---- levels written again, and words of the head beside them

with_levels-parts : (x y : List ℕ) (st : List (List ℕ)) → take head_words x ≡ take head_words y → params_of x ≡ params_of y →
    drop (own_words y) x ≡ drop (own_words y) y → with_levels x st ≡ with_levels y st
unfolding with_levels
with_levels-parts x y st p e q = rw (p, e, q) refl

pub with_levels_again : (area : List ℕ) (one two : List (List ℕ)) → Long area → AllLen 64 one → length one ≡ own_levels area →
    with_levels (with_levels area one) two ≡ with_levels area two
with_levels_again area one two h a n =
    with_levels-parts (with_levels area one) area two (head-with_levels area one h a n) (params-with_levels area one h a n) (tail-with_levels area one h a n)

-- a word of the head that is none of the parameters', before or after the levels
pub set-with_levels : (area : List ℕ) (i v : ℕ) (st : List (List ℕ)) → i < head_words → (2 ≤ i → 14 ≤ i) → head_words ≤ length area →
    set (with_levels area st) i v ≡ with_levels (set area i v) st
unfolding with_levels
set-with_levels area i v st h g l =
    set-append_left (take 16 area) (flatten st ++ drop (own_words area) area) i v (rw (length-take-le 16 area l) h)
    ∙ rw (params-set area i v g, take-set-lt 16 area i v h, drop-set-lt (own_words area) area i v (omega arith)) refl
