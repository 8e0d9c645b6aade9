-- Laws: the lines of an area's levels, one level after the other, as the code goes through them.
use Rattle.std.specs.Prelude.{◌≡◌, refl, Bool, List, [], ◌∷◌, ◌++◌, ℕ, suc, ◌+◌, ◌-◌, ◌*◌, ◌≤◌, ◌<◌, length, drop, get_or}
use Rattle.std.proofs.Common.{sym, ap, ◌∙◌, append_assoc, add-one, arith, length-append, drop_of_length-le, drop-cons}
use Rattle.std.proofs.Math.Bool.{true, false}
use Rattle.calls.specs.Area.{head_words, own_levels, Long, level_words, levels_from, levels_of}
use Rattle.texts.specs.Text.{rounds_bytes, line1_fields, line1, line2, level_line, held_of, level_lines, text_with, level_bytes, head_bytes}
use Rattle.calls.proofs.AreaLaws.{length-level_words}
use Rattle.texts.proofs.LengthLaws.{length-line1, length-line2, length-level_line, length-held, text-most}

-- whether a level of an area has a line
unfoldable pub has_line_at : List ℕ → ℕ → Bool
has_line_at area level = get_or (held_of area) (level - 1) false

-- the lines of the levels from one on
unfoldable pub lines_from : List ℕ → ℕ → List ℕ
lines_from area level = level_lines level (drop (level - 1) (held_of area)) (levels_from area (own_levels area - (level - 1)) level)

-- ---- one level more

-- the line of a level, if it has one
line_of : Bool → ℕ → List ℕ → List ℕ
line_of true level ws = level_line level ws
line_of false level ws = []

-- the lines of the levels above the first k
above : List ℕ → ℕ → List ℕ
above area k = level_lines (suc k) (drop k (held_of area)) (levels_from area (own_levels area - k) (suc k))

above-next : (area : List ℕ) (k : ℕ) → k < own_levels area
    → above area k ≡ line_of (get_or (held_of area) k false) (suc k) (level_words area (suc k)) ++ above area (suc k)
unfolding above line_of
above-next area k h =
    let e : own_levels area - k ≡ suc (own_levels area - suc k) = omega arith in
    rw (e, drop-cons (held_of area) k false (omega (arith, length-held area))) (by (get_or (held_of area) k false))
  where
    by : (b : Bool) → level_lines (suc k) (b ∷ drop (suc k) (held_of area)) (level_words area (suc k) ∷ levels_from area (own_levels area - suc k) (suc (suc k)))
        ≡ line_of b (suc k) (level_words area (suc k)) ++ level_lines (suc (suc k)) (drop (suc k) (held_of area)) (levels_from area (own_levels area - suc k) (suc (suc k)))
    by true = refl
    by false = refl

module _ (area : List ℕ) (level : ℕ) where
  after_is : lines_from area (level + 1) ≡ above area level
  unfolding lines_from above
  after_is =
      let e : level + 1 - 1 ≡ level = omega arith in
      ap (λ (k : ℕ). level_lines (level + 1) (drop k (held_of area)) (levels_from area (own_levels area - k) (level + 1))) e
      ∙ ap (λ (m : ℕ). level_lines m (drop level (held_of area)) (levels_from area (own_levels area - level) m)) (add-one level)

  pub from-end : own_levels area < level → lines_from area level ≡ []
  unfolding lines_from
  from-end h = rw (drop_of_length-le (held_of area) {i = level - 1} (omega (arith, length-held area)))

  module _ (lo : 1 ≤ level) (hi : level ≤ own_levels area) where
    one-more : suc (level - 1) ≡ level
    one-more = omega arith

    from_is : lines_from area level ≡ above area (level - 1)
    unfolding lines_from above
    from_is = ap (λ (m : ℕ). level_lines m (drop (level - 1) (held_of area)) (levels_from area (own_levels area - (level - 1)) m)) (sym one-more)

    from-next : lines_from area level ≡ line_of (has_line_at area level) level (level_words area level) ++ lines_from area (level + 1)
    unfolding has_line_at
    from-next =
        let b : Bool = get_or (held_of area) (level - 1) false in
        from_is ∙ above-next area (level - 1) (omega arith)
        ∙ ap (λ (m : ℕ). line_of b m (level_words area m) ++ above area m) one-more
        ∙ ap (λ (x : List ℕ). line_of b level (level_words area level) ++ x) (sym after_is)

    from-by : (b : Bool) → has_line_at area level ≡ b → lines_from area level ≡ line_of b level (level_words area level) ++ lines_from area (level + 1)
    from-by b e = from-next ∙ ap (λ (t : Bool). line_of t level (level_words area level) ++ lines_from area (level + 1)) e

    pub from-yes : has_line_at area level ≡ true → lines_from area level ≡ level_line level (level_words area level) ++ lines_from area (level + 1)
    unfolding line_of
    from-yes e = from-by true e

    pub from-no : has_line_at area level ≡ false → lines_from area level ≡ lines_from area (level + 1)
    unfolding line_of
    from-no e = from-by false e

    pub length-yes : Long area → has_line_at area level ≡ true → length (lines_from area level) ≡ level_bytes + length (lines_from area (level + 1))
    length-yes l e =
        ap length (from-yes e)
        ∙ rw (length-append, length-level_line level (level_words area level) (length-level_words area level l hi))

-- ---- the whole text

pub text-lines : (w : ℕ) (area : List ℕ) → text_with w area ≡ (line1 (line1_fields w) area ++ line2 area) ++ lines_from area 1
unfolding text_with lines_from levels_of
text-lines w area =
    let e : own_levels area - 0 ≡ own_levels area = omega arith in
    rw e (sym (append_assoc (line1 (line1_fields w) area) (line2 area) (level_lines 1 (held_of area) (levels_of area))))

pub length-head : (w : ℕ) (area : List ℕ) → head_words ≤ length area → length (line1 (line1_fields w) area ++ line2 area) ≡ head_bytes w
length-head w area h = rw (length-append (line1 (line1_fields w) area) (line2 area), length-line1 (line1_fields w) area, length-line2 area h)

pub length-text : (w : ℕ) (area : List ℕ) → head_words ≤ length area → length (text_with w area) ≡ head_bytes w + length (lines_from area 1)
length-text w area h =
    ap length (text-lines w area) ∙ rw (length-append (line1 (line1_fields w) area ++ line2 area) (lines_from area 1), length-head w area h)

pub lines-most : (area : List ℕ) → Long area → length (lines_from area 1) ≤ own_levels area * level_bytes
lines-most area h = omega (arith, length-text rounds_bytes area (omega arith), text-most rounds_bytes area h)
