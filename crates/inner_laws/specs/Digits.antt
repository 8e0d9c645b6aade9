-- Laws: of digits and numbers read by a verdict of their own, in place of an option: what they say is what the definitions say. And of
-- words put as digits, 16 each, one after the other.
use Rattle.std.specs.Prelude.{Option, Some, None, option_and_then, ◌≡◌, refl, List, ◌∷◌, ◌++◌, ℕ, ◌+◌, ◌-◌, ◌*◌, ◌≤◌, ◌<◌, length, take, drop, get_or}
use Rattle.std.proofs.Common.{sym, ap, ◌∙◌, arith, length-append, length-drop, length-take-le}
use mathlib.Core.List.{append-nil}
use Rattle.std.proofs.Math.Seq.{drop-length}
use borrow.Rule.Slice.PartMut.{mid_of, put_mid}
use Rattle.digits.specs.Hex.{digit_of}
use Rattle.digits.specs.Digits.{hex_digits, word_digits, spelt}
use Rattle.digits.proofs.DigitLaws.{length-word_digits}
use Rattle.digits.proofs.Loops.{digits_step, digits-all}

-- a digit has a value, and every other byte is refused
pub data Digit : Type 0 where
  Value : (v : ℕ) → Digit
  Refused : Digit

-- what digits read are: a number, or no digits
pub data Reading : Type 0 where
  Number : (x : ℕ) → Reading
  NoDigit : Reading

-- "digits 0 to 9 and a to f; a capital is refused": what follows a digit goes on with its value, and a refused digit refuses
abbrev pub with_digit : Digit → (ℕ → Option ℕ) → Option ℕ
with_digit (Value v) go = go v
with_digit Refused go = None

-- what the answer of a reading says
abbrev pub reading_number : Reading → Option ℕ
reading_number (Number x) = Some x
reading_number NoDigit = None

abbrev pub digit_in : Option ℕ → Digit
digit_in (Some v) = Value v
digit_in None = Refused

abbrev pub reading_in : Option ℕ → Reading
reading_in (Some x) = Number x
reading_in None = NoDigit

pub digit-goes-on : (o : Option ℕ) (go : ℕ → Option ℕ) → with_digit (digit_in o) go ≡ option_and_then go o
digit-goes-on (Some v) go = refl
digit-goes-on None go = refl

-- the number that digits spell, by the digit that comes first
pub spelt-digit : (x b : ℕ) (bs : List ℕ) → spelt x (b ∷ bs) ≡ with_digit (digit_in (digit_of b)) (λ (v : ℕ). spelt (x * 16 + v) bs)
spelt-digit x b bs = sym (digit-goes-on (digit_of b) (λ (v : ℕ). spelt (x * 16 + v) bs))

pub reading-says : (o : Option ℕ) → reading_number (reading_in o) ≡ o
reading-says (Some x) = refl
reading-says None = refl

-- ---- words as digits

-- word i comes after the digits of those before it
pub words_step : (ws p l ys : List ℕ) (i : ℕ) → i < length ws → length p ≡ 16 * length ws → l ≡ word_digits (take i ws) ++ drop (16 * i) p
    → ys ≡ hex_digits (length (mid_of (16 * i) (16 * i + 16 - 16 * i) l)) (get_or ws i 0)
    → put_mid (16 * i) (16 * i + 16 - 16 * i) l ys ≡ word_digits (take (i + 1) ws) ++ drop (16 * (i + 1)) p
words_step ws p l ys i h g is d = digits_step 16 ws p i l ys h (omega (arith, g)) is d

pub words-length : (ws p : List ℕ) (i : ℕ) → i ≤ length ws → length p ≡ 16 * length ws → length (word_digits (take i ws) ++ drop (16 * i) p) ≡ length p
words-length ws p i h g = rw (length-append, length-word_digits (take i ws), length-take-le i ws h, length-drop) (omega (arith, g))

pub words-all : (ws p : List ℕ) (i : ℕ) → i ≡ length ws → length p ≡ 16 * length ws → word_digits (take i ws) ++ drop (16 * i) p ≡ word_digits ws
words-all ws p i e g =
    digits-all 16 ws p i e ∙ ap (λ (m : ℕ). word_digits ws ++ drop m p) (sym g) ∙ ap (λ (q : List ℕ). word_digits ws ++ q) (drop-length p) ∙ append-nil (word_digits ws)
