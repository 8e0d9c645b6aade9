-- `ending::end_area` meets its contract.
use Rattle.ending.specs.EndLaws.{count_fits}
use native.Mathlib.Omega.{arith}
use Rattle.ending.proofs.end_area.Goals as goal

pub overflow_add-all : goal.overflow_add-all
overflow_add-all c = omega (arith, c.nodes_left-nodes.ensures, count_fits c.requires (omega (arith, c.type_inv.area 1)))
