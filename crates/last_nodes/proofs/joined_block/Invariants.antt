-- `last_nodes::joined_block`: the words before the place are those of the level.
use Rattle.std.proofs.Common.{◌≡◌, take, length}
use Rattle.last_nodes.proofs.joined_block.Given as goal

abbrev pub invariant-loop-i : goal.invariant-loop-i
invariant-loop-i l = (length l.block ≡ 64) × (take l.i l.block ≡ take l.i l.held)
