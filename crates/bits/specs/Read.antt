-- Laws: what the filler's own steps read: names for their contracts. The contract of `fill` cites none of them.
use Rattle.std.specs.Prelude.{false, List, ◌++◌, ℕ, ◌+◌, ◌*◌, ◌^◌, take, drop, get_or, replicate}
use Rattle.bits.specs.Bits.{bits_of, spell}

-- eight bytes from byte j on as a number, the first byte highest; a byte past the end is 0
unfoldable pub eight_from : List ℕ → ℕ → ℕ
eight_from bytes j =
    get_or bytes j 0 * 2 ^ 56 + get_or bytes (j + 1) 0 * 2 ^ 48 + get_or bytes (j + 2) 0 * 2 ^ 40 + get_or bytes (j + 3) 0 * 2 ^ 32
    + get_or bytes (j + 4) 0 * 2 ^ 24 + get_or bytes (j + 5) 0 * 2 ^ 16 + get_or bytes (j + 6) 0 * 2 ^ 8 + get_or bytes (j + 7) 0

-- the 64 bits from bit `start` on as a number; a bit past the end is 0
unfoldable pub word_from : List ℕ → ℕ → ℕ
word_from bytes start = spell 0 (take 64 (drop start (bits_of 8 bytes ++ replicate 72 false)))
