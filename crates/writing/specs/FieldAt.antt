-- Laws: the fields of line 1, one after the other, as the code goes through them.
use Rattle.std.specs.Prelude.{◌≡◌, ℕ, zero, suc, ◌+◌, ◌≤◌, ◌<◌, length, take, get_or}
use Rattle.std.proofs.Common.{sym, ap, ◌∙◌, add-one, arith, length-append}
use mathlib.Core.List.{List, [], ◌∷◌, ◌++◌, append-nil, flatten}
use Rattle.std.proofs.Math.Seq.{take-suc}
use Rattle.lists.specs.Flatten.{flatten-append, map-append}
use Rattle.digits.specs.Digits.{hex_digits}
use Rattle.digits.proofs.DigitLaws.{length_digits}
use Rattle.texts.specs.Text.{Field, field_of, digits_of, field_digits, digits_in}
use Rattle.texts.proofs.FieldLaws.{length_fields}

pub digits_some : (fs : List Field) (i : ℕ) → digits_in (take i fs) ≤ digits_in fs
digits_some fs zero = omega arith
digits_some [] (suc i) = omega arith
digits_some (f ∷ fs) (suc i) = omega (arith, digits_some fs i)

-- field i, after those before it
abbrev pub field_at : List Field → ℕ → Field
field_at fs i = get_or fs i (field_of 0 0)

module _ (fs : List Field) (i : ℕ) (h : i < length fs) where
  pub field-more : (area : List ℕ) → field_digits (take (i + 1) fs) area
      ≡ field_digits (take i fs) area ++ hex_digits (digits_of (field_at fs i)) (get_or area (field_at fs i).word 0)
  unfolding flatten
  field-more area = rw (add-one i, take-suc fs i (field_of 0 0) h, map-append, flatten-append, append-nil)

  pub digits_more : digits_in (take (i + 1) fs) ≡ digits_in (take i fs) + digits_of (field_at fs i)
  digits_more =
      sym (length_fields (take (i + 1) fs) []) ∙ ap length (field-more [])
      ∙ rw (length-append, length_fields (take i fs) [], length_digits (digits_of (field_at fs i)) (get_or {A = ℕ} [] (field_at fs i).word 0))

  -- its digits end within the line's
  pub digits_end : digits_in (take i fs) + digits_of (field_at fs i) ≤ digits_in fs
  digits_end = omega (arith, digits_more, digits_some fs (i + 1))
