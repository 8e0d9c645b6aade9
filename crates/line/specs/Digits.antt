-- Laws: the test for a decimal digit.
use Rattle.std.specs.Prelude.{◌≡◌, refl, Bool, true, false, ◌&&◌, ℕ, ◌≤◌, leb}
use Rattle.std.proofs.lemmas.Bool.{false≢true}
use Rattle.std.proofs.Common.{leb-true}
use Rattle.line.specs.Line.{is_decimal}

pub decimal-at-least : (b : ℕ) → is_decimal b ≡ true → 48 ≤ b
decimal-at-least b e = by (leb 48 b) (leb b 57) refl e
  where
    by : (s t : Bool) → leb 48 b ≡ s → s && t ≡ true → 48 ≤ b
    by true t p q = leb-true 48 b p
    by false t p q = absurd (false≢true q)

pub decimal-at-most : (b : ℕ) → is_decimal b ≡ true → b ≤ 57
decimal-at-most b e = by (leb 48 b) (leb b 57) refl e
  where
    by : (s t : Bool) → leb b 57 ≡ t → s && t ≡ true → b ≤ 57
    by true true p q = leb-true b 57 p
    by true false p q = absurd (false≢true q)
    by false t p q = absurd (false≢true q)
