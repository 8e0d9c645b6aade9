-- `last_nodes::first_node` meets its contract.
use native.Mathlib.Omega.{arith}
use Rattle.last_nodes.proofs.first_node.Goals as goal

pub make_node-requires : goal.make_node-requires
make_node-requires c = (omega arith, omega arith)

pub returns : goal.returns
returns c = rw (← c.held_bits.ensures, ← c.done_blocks-index.ensures) c.make_node.ensures
