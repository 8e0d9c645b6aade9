-- Laws: of `fed_bits` in Calls: what the code reads from an open area, and what it leaves there.
use Rattle.std.specs.Prelude.{◌≡◌, refl, Bool, List, ℕ, zero, suc, ◌+◌, ◌*◌, ◌/◌, ◌^◌, ◌≤◌, ◌<◌, length, get_or, set}
use Rattle.std.proofs.Common.{ap, ◌∙◌, arith, length-set}
use Rattle.bits.specs.Piece.{Piece, piece_bits}
use Rattle.bits.specs.PieceLaws.{length-piece_bits}
use Rattle.tree.specs.Tree.{block_bits, logged}
use Rattle.calls.specs.Area.{Long, total_of, compressions_of, params_of, with_levels, done_blocks, open_count}
use Rattle.calls.proofs.AreaLaws.{limit-word}
use Rattle.calls.specs.Calls.{Made, fed_bits, fed_area}
use Rattle.calls.proofs.CallLaws.{FeedPassed}
use Rattle.calls.proofs.WriteLaws.{set-with_levels}
use Rattle.area.specs.CountLaws.{open_above_le}
use Rattle.node.specs.Words.{tree_params}
use Rattle.climb.specs.ReceiveLaws.{log-written}
use Rattle.climb.specs.Left.{Left}
use Rattle.climb.specs.OpenArea.{OpenArea, keyed_of, open_done}
use Rattle.calls.proofs.Accepts.{fed-count}
use Rattle.piece.specs.ChunkLaws.{Part, fed_whole}

-- the nodes that n bits make, and those made before
pub made-count : {area : List ℕ} → OpenArea area → (n : ℕ) (Y : List Bool) → length Y ≡ n → total_of area + n < 2 ^ 64
    → length (fed_bits area Y).nodes + compressions_of area ≡ open_count (get_or area 4 0) (total_of area + n)
made-count {area} o n Y l g =
    let c = rw (l, limit-word area) at (fed-count area Y (rw l g)) in
    ap (λ (x : ℕ). length (fed_bits area Y).nodes + x) (open_done o) ∙ c

-- ---- what the code reads

-- what the code feeds is what the definition feeds
pub fed-read : (area : List ℕ) (piece : Piece)
    → fed_whole (keyed_of area) (total_of area) piece area ≡ fed_bits area (piece_bits piece)
unfolding fed_bits tree_params params_of
fed-read area piece = refl

-- its bits are there
pub whole_part : {area log : List ℕ} {piece : Piece} → FeedPassed area piece log → Part area piece
whole_part p = record { long = p.opened.long; bits = p.bits }

-- ---- what it leaves

-- words 1 and 14 are stored after the levels
fed-written : (area : List ℕ) (n count : ℕ) (made : Made) → Long area → count ≡ length made.nodes
    → set (set (with_levels area made.levels) 1 (total_of area + n)) 14 (compressions_of area + count) ≡ fed_area area n made
unfolding fed_area
fed-written area n count made long e =
    let T : ℕ = total_of area + n in
    ap (λ (x : List ℕ). set x 14 (compressions_of area + count)) (set-with_levels area 1 T made.levels (omega arith) (λ h. omega arith) (omega (arith, long)))
    ∙ set-with_levels (set area 1 T) 14 (compressions_of area + count) made.levels (omega arith) (λ h. omega arith) (rw length-set (omega (arith, long)))
    ∙ ap (λ (x : ℕ). with_levels (set (set area 1 T) 14 (compressions_of area + x)) made.levels) e

-- two words for each node that was made are at most as many as the bits
pub open_count_le : (limit T : ℕ) → 2 * open_count limit T ≤ T
open_count_le zero T = omega arith
open_count_le (suc n) T = omega (arith, open_above_le n (done_blocks block_bits T))

-- a piece that was fed: the area, the log, and how many nodes it made
pub record FedPiece (area : List ℕ) (piece : Piece) (log area' log' : List ℕ) (count : ℕ) : Type 0 where
  pub left : area' ≡ fed_area area piece.count (fed_bits area (piece_bits piece))
  pub written : log' ≡ logged (fed_bits area (piece_bits piece)).nodes log
  pub made : count ≡ length (fed_bits area (piece_bits piece)).nodes

module _ {area log : List ℕ} {piece : Piece} (p : FeedPassed area piece log) {area' log' : List ℕ} {words : ℕ}
    (l : Left (fed_bits area (piece_bits piece)) area log 0 area' log' words) where
  half : words / 2 ≡ length (fed_bits area (piece_bits piece)).nodes
  half = omega (arith, l.next)

  -- the count that word 14 gets fits
  pub count_fits : compressions_of area + words / 2 < 2 ^ 64
  count_fits =
      fits (compressions_of area) half (made-count p.opened piece.count (piece_bits piece) (length-piece_bits piece p.bits) p.total) (open_count_le (get_or area 4 0) (total_of area + piece.count)) p.total
    where
      fits : (a : ℕ) {b c d t : ℕ} → b ≡ d → d + a ≡ c → 2 * c ≤ t → t < 2 ^ 64 → a + b < 2 ^ 64
      fits a e m l h = omega arith

  pub fed-piece : FedPiece area piece log (set (set area' 1 (total_of area + piece.count)) 14 (compressions_of area + words / 2)) log' (words / 2)
  fed-piece = record {
    left = ap (λ (x : List ℕ). set (set x 1 (total_of area + piece.count)) 14 (compressions_of area + words / 2)) l.levels
        ∙ fed-written area piece.count (words / 2) (fed_bits area (piece_bits piece)) p.opened.long half;
    written = l.logged ∙ log-written (fed_bits area (piece_bits piece)).nodes log p.room;
    made = half;
  }
