-- `climb::level::make_level` meets its contract.
use native.Mathlib.Omega.{arith}
use Rattle.climb.proofs.level.make_level.Goals as goal

pub make_node-requires : goal.make_node-requires
make_node-requires c = (rw c.full_place-place.ensures (omega arith), omega arith)

pub returns : goal.returns
returns c = rw (c.full_place-place.ensures, c.level-part.ensures.level_part.words) at c.make_node.ensures
