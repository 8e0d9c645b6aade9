-- Laws: a digit's value and a value's digit are inverse, both ways.
use Rattle.std.specs.Prelude.{Some, None, Bool, true, false, cond, ◌≡◌, refl, ℕ, ◌+◌, ◌-◌, ◌≤◌, ◌<◌, ltb, leb}
use Rattle.std.proofs.Common.{arith, lt-ltb, le-ltb, le-leb, ltb-true, ltb-false, leb-true}
use Rattle.std.proofs.lemmas.Bool.{lt-leb}
use Rattle.digits.specs.Hex.{digit_of, hex_digit}

-- the two ranges in which `digit_of` gives a value
pub digit_low : (b : ℕ) → 48 ≤ b → b ≤ 57 → digit_of b ≡ Some (b - 48)
digit_low b h g = simp (le-ltb b 48 h, le-leb b 57 g)

pub digit_high : (b : ℕ) → 97 ≤ b → b ≤ 102 → digit_of b ≡ Some (b - 97 + 10)
digit_high b h g = simp (le-ltb b 48 (omega arith), lt-leb b 57 (omega arith), le-ltb b 97 h, le-leb b 102 g)

-- the two ranges of `hex_digit`
pub hex_low : (n : ℕ) → n < 10 → hex_digit n ≡ 48 + n
hex_low n h = simp (lt-ltb n 10 h)

pub hex_high : (n : ℕ) → 10 ≤ n → hex_digit n ≡ 97 + (n - 10)
hex_high n h = simp (le-ltb n 10 h)

-- the digit of a value has that value
pub digit_of_hex : (n : ℕ) → n < 16 → digit_of (hex_digit n) ≡ Some n
digit_of_hex n h = by (ltb n 10) refl
  where
    by : (t : Bool) → ltb n 10 ≡ t → digit_of (hex_digit n) ≡ Some n
    by true e =
        let k : n < 10 = ltb-true n 10 e in
        let m : 48 + n - 48 ≡ n = omega arith in
        rw (hex_low n k, digit_low (48 + n) (omega arith) (omega arith), m)
    by false e =
        let k : 10 ≤ n = ltb-false n 10 e in
        let m : 97 + (n - 10) - 97 + 10 ≡ n = omega arith in
        rw (hex_high n k, digit_high (97 + (n - 10)) (omega arith) (omega arith), m)

-- a byte that has a value is the digit of that value, which is below 16
pub hex_of_digit : (b n : ℕ) → digit_of b ≡ Some n → (n < 16) × (hex_digit n ≡ b)
hex_of_digit b n e = by (ltb b 48) (leb b 57) (ltb b 97) (leb b 102) refl refl refl refl e
  where
    by : (s t u v : Bool) → ltb b 48 ≡ s → leb b 57 ≡ t → ltb b 97 ≡ u → leb b 102 ≡ v
        → cond s None (cond t (Some (b - 48)) (cond u None (cond v (Some (b - 97 + 10)) None))) ≡ Some n
        → (n < 16) × (hex_digit n ≡ b)
    by true t u v p q r s e = cc
    by false true u v p q r s e =
        let m : b - 48 ≡ n = cc in
        let lo : 48 ≤ b = ltb-false b 48 p in
        let hi : b ≤ 57 = leb-true b 57 q in
        (omega arith, rw (hex_low n (omega arith)) (omega arith))
    by false false true v p q r s e = cc
    by false false false true p q r s e =
        let m : b - 97 + 10 ≡ n = cc in
        let lo : 97 ≤ b = ltb-false b 97 r in
        let hi : b ≤ 102 = leb-true b 102 s in
        (omega arith, rw (hex_high n (omega arith)) (omega arith))
    by false false false false p q r s e = cc
