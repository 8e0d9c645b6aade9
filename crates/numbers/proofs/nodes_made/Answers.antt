-- `numbers::nodes_made` meets its contract.
use native.Mathlib.Omega.{arith}
use Rattle.numbers.specs.NumberLaws.{count-made}
use Rattle.numbers.proofs.nodes_made.Goals as goal

pub overflow_sub-result : goal.overflow_sub-result
overflow_sub-result c = omega (arith, count-made c.requires, c.open_count.ensures)

pub returns : goal.returns
returns c = omega (arith, count-made c.requires, c.open_count.ensures)
