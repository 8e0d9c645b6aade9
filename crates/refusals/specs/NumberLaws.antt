-- Laws: for the code that works out numbers: the start bit first, and then 8 times the bytes are compared with start and count by
-- division.
use Rattle.std.specs.Prelude.{◌≡◌, refl, Bool, true, false, ℕ, ◌+◌, ◌*◌, ◌/◌, ◌%◌, ◌≤◌, ◌<◌, ltb, length}
use Rattle.std.proofs.Common.{arith, ltb-true, ltb-false, lt-ltb, le-ltb}
use Rattle.bits.specs.Piece.{Piece, most_start, refused_bits}

over-by_division : (start bits bytes : ℕ) → ltb bytes (bits / 8 + (start + bits % 8 + 7) / 8) ≡ ltb (8 * bytes) (start + bits)
over-by_division start bits bytes = go (ltb (8 * bytes) (start + bits)) refl
  where
    go : (b : Bool) → ltb (8 * bytes) (start + bits) ≡ b → ltb bytes (bits / 8 + (start + bits % 8 + 7) / 8) ≡ b
    go true e = let h = ltb-true (8 * bytes) (start + bits) e in lt-ltb bytes (bits / 8 + (start + bits % 8 + 7) / 8) (omega arith)
    go false e = let h = ltb-false (8 * bytes) (start + bits) e in le-ltb bytes (bits / 8 + (start + bits % 8 + 7) / 8) (omega arith)

pub start-refused : (piece : Piece) → most_start < piece.start → true ≡ refused_bits piece
start-refused piece h = rw (lt-ltb most_start piece.start h)

pub count-decides : (piece : Piece) → piece.start ≤ most_start
    → ltb (length piece.bytes) (piece.count / 8 + (piece.start + piece.count % 8 + 7) / 8) ≡ refused_bits piece
count-decides piece h = rw (le-ltb most_start piece.start h) (over-by_division piece.start piece.count (length piece.bytes))
