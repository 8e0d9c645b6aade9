-- Definitions: the round constants and their table. Document 01, "Compression"; the report, section 2.5; document 02, M-108. A word is a
-- number below 2 ^ 64.
use Rattle.std.specs.Prelude.{◌≡◌, List, ℕ, zero, suc, ◌+◌, ◌*◌, ◌/◌, ◌%◌, ◌^◌, ◌<◌, length, get_or}
use Rattle.std.specs.Int.Bits.{bit_and, bit_or, bit_xor}

-- a word shifted right, and shifted left, by k bits
abbrev pub shr : ℕ → ℕ → ℕ
shr x k = x / 2 ^ k

abbrev pub shl : ℕ → ℕ → ℕ
shl x k = x * 2 ^ k % 2 ^ 64

-- "Round 0 has 0x0123456789abcdef. The next is S rotated left by 1, xor (S and 0x7311c2812425cfa0)."
unfoldable pub next_s : ℕ → ℕ
next_s s = bit_xor (bit_or (shl s 1) (shr s 63)) (bit_and s 0x7311c2812425cfa0)

unfoldable pub S : ℕ → ℕ
S zero = 0x0123456789abcdef
S (suc j) = next_s (S j)

-- M-108: "The constants become a table of 4,095 entries, its rule shown once over all": of a table that begins with the constant of
-- round `from`, entry j is S of round from + j
pub record RoundTable (from : ℕ) (table : List ℕ) : Type 0 where
  pub rule : (j : ℕ) → j < length table → get_or table j 0 ≡ S (from + j)

-- the entries of the whole table, and the parts in which it stands, of so many entries each
abbrev pub table_entries : ℕ
table_entries = 4095

abbrev pub table_parts : ℕ
table_parts = 15

abbrev pub part_entries : ℕ
part_entries = 273
