-- Definitions: hexadecimal digits. Document 01: "digits 0 to 9 and a to f; a capital is refused".
use Rattle.std.specs.Prelude.{Option, Some, None, cond, ℕ, ◌+◌, ◌-◌, leb, ltb}

-- what a byte is as a digit: 0 to 9 are the bytes 48 to 57, a to f the bytes 97 to 102; every other byte is none
abbrev pub digit_of : ℕ → Option ℕ
digit_of b =
    cond (ltb b 48) None
    (cond (leb b 57) (Some (b - 48))
    (cond (ltb b 97) None
    (cond (leb b 102) (Some (b - 97 + 10)) None)))

-- the digit of a number below 16
abbrev pub hex_digit : ℕ → ℕ
hex_digit n = cond (ltb n 10) (48 + n) (97 + (n - 10))
