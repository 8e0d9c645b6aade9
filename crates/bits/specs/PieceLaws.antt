-- Laws: of Piece: a piece whose bits are there has as many as its count says, and cut in two it has the same bits.
use Rattle.std.specs.Prelude.{◌≡◌, Bool, false, List, ◌++◌, ℕ, ◌+◌, ◌-◌, ◌*◌, ◌/◌, ◌%◌, ◌≤◌, ltb, length, take, drop}
use Rattle.std.proofs.Common.{sym, ap, ◌∙◌, arith, ltb-false, le-ltb, length-take, length-drop, take-add, drop-drop}
use Rattle.lists.specs.And.{or_parts}
use Rattle.lists.specs.Take.{take-drop-take}
use Rattle.bits.specs.Bits.{bits_of}
use Rattle.bits.specs.BitsLaws.{length-bits_of, bits_of-take, bits_of-drop}
use Rattle.bits.specs.Piece.{Piece, piece_of, piece_bits, most_start, refused_bits, first_part, second_part}
use Rattle.bits.specs.declared.Span.{Span}

-- the piece that a span names in lent bytes
abbrev pub spanned : List ℕ → Span → Piece
spanned bytes span = piece_of bytes span.start span.bits

-- and its bits
abbrev pub span_bits : List ℕ → Span → List Bool
span_bits bytes span = piece_bits (spanned bytes span)

-- the bits are there: what a piece that number 5 does not refuse says
pub record Fits (piece : Piece) : Type 0 where
  pub low : piece.start ≤ most_start
  pub inside : piece.start + piece.count ≤ 8 * length piece.bytes

pub length-piece_bits : (piece : Piece) → Fits piece → length (piece_bits piece) ≡ piece.count
length-piece_bits piece h = simp (length-take, length-drop, length-bits_of) (omega (arith, h.inside))

pub bits-there : (piece : Piece) → refused_bits piece ≡ false → Fits piece
bits-there piece e =
    let n = or_parts (ltb most_start piece.start) (ltb (8 * length piece.bytes) (piece.start + piece.count)) e in
    record { low = ltb-false _ _ n.0; inside = ltb-false _ _ n.1 }

pub there-bits : (piece : Piece) → Fits piece → refused_bits piece ≡ false
there-bits piece h = rw (le-ltb _ _ h.low, le-ltb _ _ h.inside)

-- ---- a piece cut in two

-- the parts' bits, joined, are the piece's
pub cut-bits : (piece : Piece) (m : ℕ) → m ≤ piece.count → piece_bits (first_part piece m) ++ piece_bits (second_part piece m) ≡ piece_bits piece
cut-bits piece m h =
    let B : List Bool = bits_of 8 piece.bytes in
    let from : ℕ = piece.start in
    let n : ℕ = piece.count - m in
    let first : piece_bits (first_part piece m) ≡ take m (drop from B) =
    ap (λ (x : List Bool). take m (drop from x)) (sym (bits_of-take 8 ((from + m + 7) / 8) piece.bytes))
    ∙ take-drop-take ((from + m + 7) / 8 * 8) from m B (omega arith) in
    let place : (from + m) / 8 * 8 + (from + m) % 8 ≡ from + m = omega arith in
    let second : piece_bits (second_part piece m) ≡ take n (drop m (drop from B)) =
    ap (λ (x : List Bool). take n (drop ((from + m) % 8) x)) (sym (bits_of-drop 8 ((from + m) / 8) piece.bytes))
    ∙ ap (take n) (drop-drop ((from + m) % 8) ((from + m) / 8 * 8) B ∙ ap (λ (k : ℕ). drop k B) place ∙ sym (drop-drop m from B)) in
    let all : m + n ≡ piece.count = omega arith in
    rw (first, second, ← take-add m n (drop from B), all)

-- number 5 refuses neither part of a piece that it does not refuse
pub cut-there : (piece : Piece) (m : ℕ) → refused_bits piece ≡ false → m ≤ piece.count
    → (refused_bits (first_part piece m) ≡ false) × (refused_bits (second_part piece m) ≡ false)
cut-there piece m e h =
    let f = bits-there piece e in (
      there-bits (first_part piece m) record { low = f.low; inside = simp length-take (omega (arith, f.inside)) },
      there-bits (second_part piece m) record { low = omega arith; inside = simp length-drop (omega (arith, f.inside)) },
    )
