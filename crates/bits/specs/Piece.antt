-- Definitions: a piece of a message: bytes, a start bit, and how many bits from there on. Document 01: "feed (piece bytes, bit count)"; document
-- 02, M-104: "A piece now names a start bit, 0 to 7, in its first byte." A whole message is given so too.
use Rattle.std.specs.Prelude.{Bool, ◌||◌, List, ℕ, ◌+◌, ◌-◌, ◌*◌, ◌/◌, ◌%◌, ltb, length, take, drop}
use Rattle.bits.specs.Bits.{bits_of}

pub record Piece : Type 0 where
  pub bytes : List ℕ
  pub start : ℕ
  pub count : ℕ

abbrev pub piece_of : List ℕ → ℕ → ℕ → Piece
piece_of bytes start n = record { bytes = bytes; start = start; count = n }

-- its bits: of the bytes' bits, from the start bit on, as many as the count says; "bits into bytes high bit first"
abbrev pub piece_bits : Piece → List Bool
piece_bits piece = take piece.count (drop piece.start (bits_of 8 piece.bytes))

-- "a start bit, 0 to 7"
abbrev pub most_start : ℕ
most_start = 7

-- "Number 5 is also given for a start bit above 7 or where start and count together pass the bytes' bits"; with start 0 this is
-- document 01's "bit count over 8 times the bytes given". These are numbers, and their sum does not wrap.
abbrev pub refused_bits : Piece → Bool
refused_bits piece = ltb most_start piece.start || ltb (8 * length piece.bytes) (piece.start + piece.count)

abbrev pub bits_test : Piece → Bool × ℕ
bits_test piece = (refused_bits piece, 5)

-- ---- a piece cut in two

-- "Cuts within a byte fall under the cutting rule as others do": after its first m bits; the second part begins in the byte where the
-- first ended, which both have if the cut is inside it
abbrev pub first_part : Piece → ℕ → Piece
first_part piece m = piece_of (take ((piece.start + m + 7) / 8) piece.bytes) piece.start m

abbrev pub second_part : Piece → ℕ → Piece
second_part piece m = piece_of (drop ((piece.start + m) / 8) piece.bytes) ((piece.start + m) % 8) (piece.count - m)
