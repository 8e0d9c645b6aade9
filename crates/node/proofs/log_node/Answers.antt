-- `node::log_node` meets its contract.
use native.Mathlib.Numerals.{add-one}
use Rattle.node.proofs.log_node.Goals as goal

pub returns : goal.returns
returns c = rw (add-one, c.node_u.ensures, c.node_v.ensures)
