-- Laws: the two forms of a text, with r in two bytes and in one: line 1 ends at another byte, so that no text is of both; and how the
-- one is made from the other.
use Rattle.std.specs.Prelude.{◌≡◌, refl, Bool, true, false, ℕ, zero, suc, ◌+◌, ◌/◌, ◌%◌, ◌^◌, ◌≤◌, ◌<◌, ltb, length, drop, get_or}
use Rattle.std.proofs.Common.{sym, ap, ◌∙◌, arith, ltb-true, ltb-false, take_at, get_or-take}
use mathlib.Core.List.{List, [], ◌∷◌, ◌++◌, append_assoc, flatten}
use Rattle.std.proofs.lemmas.List.{get_or_at}
use Rattle.digits.specs.Hex.{hex_digit}
use Rattle.digits.proofs.HexLaws.{hex_low, hex_high}
use Rattle.calls.specs.Area.{levels_of}
use Rattle.digits.specs.Digits.{hex_digits}
use Rattle.digits.proofs.DigitLaws.{length_digits, take_digits, drop_digits}
use Rattle.texts.specs.Text.{Field, rounds_bytes, old_rounds_bytes, line1_fields, digits_of, field_digits, line2, held_of, level_lines, text_with, text_of, old_text_of, digits_in}
use Rattle.texts.proofs.FieldLaws.{length_fields}
use Rattle.texts.specs.Vocabulary.{old_most_rounds, widened}

-- ---- every byte of line 1 is a digit, at least 48, up to its end, which is 10

digit-least : (n : ℕ) → 48 ≤ hex_digit n
digit-least n = by (ltb n 10) refl
  where
    by : (t : Bool) → ltb n 10 ≡ t → 48 ≤ hex_digit n
    by true e = rw (hex_low n (ltb-true n 10 e)) (omega arith)
    by false e = rw (hex_high n (ltb-false n 10 e)) (omega arith)

-- an entry of the first of two joined lists
pub in_front : (xs ys : List ℕ) (n i : ℕ) → length xs ≡ n → i < n → get_or (xs ++ ys) i 0 ≡ get_or xs i 0
in_front xs ys n i e h = sym (get_or-take n (xs ++ ys) i 0 h) ∙ ap (λ (l : List ℕ). get_or l i 0) (take_at xs ys n e)

digits_least : (n x i : ℕ) → i < n → 48 ≤ get_or (hex_digits n x) i 0
unfolding hex_digits
digits_least zero x i h = absurd (omega arith)
digits_least (suc n) x zero h = digit-least (x / 16 ^ n % 16)
digits_least (suc n) x (suc i) h = digits_least n x i (omega arith)

-- digits joined are digits
joined-least : (xs ys : List ℕ) (i : ℕ) → ((j : ℕ) → j < length xs → 48 ≤ get_or xs j 0) → ((j : ℕ) → j < length ys → 48 ≤ get_or ys j 0)
    → i < length xs + length ys → 48 ≤ get_or (xs ++ ys) i 0
joined-least [] ys i f g h = g i (omega arith)
joined-least (x ∷ xs) ys zero f g h = f 0 (omega arith)
joined-least (x ∷ xs) ys (suc i) f g h = joined-least xs ys i (λ j l. f (suc j) (omega arith)) g (omega arith)

fields-least : (fs : List Field) (area : List ℕ) (i : ℕ) → i < digits_in fs → 48 ≤ get_or (field_digits fs area) i 0
unfolding flatten
fields-least [] area i h = absurd (omega arith)
fields-least (f ∷ fs) area i h =
    let x : ℕ = get_or area f.word 0 in
    let n = length_digits (digits_of f) x in
    let m = length_fields fs area in
    joined-least (hex_digits (digits_of f) x) (field_digits fs area) i (λ j l. digits_least (digits_of f) x j (omega (arith, n, l)))
    (λ j l. fields-least fs area j (omega (arith, m, l))) (omega (arith, n, m, h))

-- what follows line 1
abbrev rest : List ℕ → List ℕ
rest area = line2 area ++ level_lines 1 (held_of area) (levels_of area)

module _ (w : ℕ) (area : List ℕ) where
  as_digits : text_with w area ≡ field_digits (line1_fields w) area ++ (10 ∷ rest area)
  unfolding text_with
  as_digits = append_assoc (field_digits (line1_fields w) area) (10 ∷ []) (rest area)

  pub line1-digit : (i : ℕ) → i < digits_in (line1_fields w) → 48 ≤ get_or (text_with w area) i 0
  line1-digit i h =
      rw (as_digits, in_front (field_digits (line1_fields w) area) (10 ∷ rest area) (digits_in (line1_fields w)) i (length_fields (line1_fields w) area) h)
      (fields-least (line1_fields w) area i h)

  pub line1-end : get_or (text_with w area) (digits_in (line1_fields w)) 0 ≡ 10
  line1-end =
      rw as_digits (get_or_at (field_digits (line1_fields w) area) 10 (rest area) 0 (digits_in (line1_fields w)) (length_fields (line1_fields w) area))

-- "46 digits", and 44 before
pub line1_digits : (digits_in (line1_fields rounds_bytes) ≡ 46) × (digits_in (line1_fields old_rounds_bytes) ≡ 44)
line1_digits = (refl, refl)

-- where line 1 ended before M-108
abbrev pub old_end : ℕ
old_end = digits_in (line1_fields old_rounds_bytes)

pub new-digit : (area : List ℕ) → 48 ≤ get_or (text_of area) old_end 0
new-digit area = line1-digit rounds_bytes area old_end (omega arith)

pub old_end_lem : (area : List ℕ) → get_or (old_text_of area) old_end 0 ≡ 10
old_end_lem area = line1-end old_rounds_bytes area

-- no text is of both forms, whatever the areas
pub not-both : (a b : List ℕ) → text_of a ≡ old_text_of b → ⊥
not-both a b e = omega (arith, new-digit a, old_end_lem b, ap (λ (l : List ℕ). get_or l old_end 0) e)

-- ---- the new form of an old text

-- the digits of r in two bytes are 0, 0 and those in one
wider : (r : ℕ) → r ≤ old_most_rounds → hex_digits 4 r ≡ 48 ∷ 48 ∷ hex_digits 2 r
unfolding hex_digits
wider r h =
    let a : r / 16 ^ 3 % 16 ≡ 0 = omega arith in
    let b : r / 16 ^ 2 % 16 ≡ 0 = omega arith in
    rw (a, b)

-- "Old lines of 44 digits are still read; writing gives the new form"
pub old_widened : (area : List ℕ) → get_or area 5 0 ≤ old_most_rounds → text_of area ≡ widened (old_text_of area)
unfolding text_with flatten
old_widened area h =
    let p : List ℕ = hex_digits 2 (get_or area 0 0) in
    let r : ℕ = get_or area 5 0 in
    let after : List ℕ = field_digits (drop 2 (line1_fields old_rounds_bytes)) area ++ (10 ∷ rest area) in
    let new : text_of area ≡ p ++ (hex_digits 4 r ++ after) = simp append_assoc in
    let old : old_text_of area ≡ p ++ (hex_digits 2 r ++ after) = simp append_assoc in
    let x : ℕ = get_or area 0 0 in
    let y : List ℕ = hex_digits 2 r ++ after in
    new
    ∙ ap (λ (l : List ℕ). p ++ (l ++ after)) (wider r h)
    ∙ sym (ap widened old ∙ rw (take_digits 2 x y, drop_digits 2 x y))
