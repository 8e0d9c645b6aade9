-- `numbers::nodes_left` meets its contract.
use native.Mathlib.Omega.{arith}
use Rattle.climb.specs.OpenArea.{open_range}
use Rattle.numbers.specs.NumberLaws.{count_left}
use Rattle.numbers.proofs.nodes_left.Goals as goal

pub tree_nodes-requires : goal.tree_nodes-requires
tree_nodes-requires c = (open_range c.requires).limit_high

pub overflow_sub-result : goal.overflow_sub-result
overflow_sub-result c = omega (arith, count_left c.requires (omega (arith, c.type_inv.area 1)), c.tree_nodes.ensures)

pub returns : goal.returns
returns c = omega (arith, count_left c.requires (omega (arith, c.type_inv.area 1)), c.tree_nodes.ensures)
