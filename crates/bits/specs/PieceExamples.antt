-- Examples: the bits of pieces, and which pieces number 5 refuses, by computing. Document 02, M-104.
use Rattle.std.specs.Prelude.{◌≡◌, refl, true, false, List, [], ◌∷◌, map, ℕ, ◌-◌, ◌^◌, replicate}
use Rattle.bits.specs.Piece.{piece_of, piece_bits, refused_bits, first_part, second_part}

-- two bytes, 1010 0101 and 1100 0011
abbrev two : List ℕ
two = 0xa5 ∷ 0xc3 ∷ []

-- a header of 3 bits left out; the last bit of a byte; a bit of each byte; the first 3 bits; no bits
pub bits-hold : map piece_bits (piece_of two 3 5 ∷ piece_of two 7 1 ∷ piece_of two 7 2 ∷ piece_of two 0 3 ∷ piece_of two 5 0 ∷ [])
    ≡ (false ∷ false ∷ true ∷ false ∷ true ∷ []) ∷ (true ∷ []) ∷ (true ∷ true ∷ []) ∷ (true ∷ false ∷ true ∷ []) ∷ [] ∷ []
bits-hold = refl

-- 13 bits from bit 3 on, cut after 7 of them: the second part begins at bit 2 of the byte where the first ended
pub parts-hold : first_part (piece_of two 3 13) 7 ∷ second_part (piece_of two 3 13) 7 ∷ [] ≡ piece_of two 3 7 ∷ piece_of (0xc3 ∷ []) 2 6 ∷ []
parts-hold = refl

-- cut after 5 bits, at the end of a byte: they share none
pub parts-apart : first_part (piece_of two 3 13) 5 ∷ second_part (piece_of two 3 13) 5 ∷ [] ≡ piece_of (0xa5 ∷ []) 3 5 ∷ piece_of (0xc3 ∷ []) 0 8 ∷ []
parts-apart = refl

-- not refused: no bits of no bytes; up to the last bit, from bit 0, 7 and 3 on; no bits from bit 7 on
pub taken : map refused_bits (piece_of [] 0 0 ∷ piece_of two 0 16 ∷ piece_of two 7 9 ∷ piece_of two 3 13 ∷ piece_of two 7 0 ∷ []) ≡ replicate 5 false
taken = refl

-- refused: a start bit in no byte; a bit too many; a start bit above 7, whatever the count; sums that would wrap to 6 and 0, and one that
-- is 2^64 - 1
pub refused : map refused_bits
    (piece_of [] 3 0 ∷ piece_of two 0 17 ∷ piece_of two 7 10 ∷ piece_of two 8 0 ∷ piece_of two 8 8 ∷ piece_of two (2 ^ 64 - 1) 1
    ∷ piece_of two 7 (2 ^ 64 - 1) ∷ piece_of two 7 (2 ^ 64 - 8) ∷ piece_of two 1 (2 ^ 64 - 1) ∷ []) ≡ replicate 9 true
refused = refl
