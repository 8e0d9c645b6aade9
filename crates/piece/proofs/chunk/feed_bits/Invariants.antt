-- `piece::chunk::feed_bits` meets its contract.
use Prim.Native.Nat.{◌-◌}
use Rattle.bits.specs.Piece.{piece_bits}
use Rattle.bits.specs.PieceLaws.{spanned}
use Rattle.node.specs.Words.{tree_params}
use Rattle.piece.specs.ChunkLaws.{Feeding}
use Rattle.piece.proofs.chunk.feed_bits.Given as goal

abbrev pub invariant-loop-done : goal.invariant-loop-done
invariant-loop-done l = Feeding (tree_params l.with.keyed) l.total (piece_bits (spanned l.piece l.span)) l.initial.area l.initial.log l.area l.log l.at l.done

abbrev pub decreases-loop-done : goal.decreases-loop-done
decreases-loop-done l = l.span.bits - l.done
