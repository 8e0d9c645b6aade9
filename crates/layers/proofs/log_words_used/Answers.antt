-- `log_words_used` meets its contract: twice the nodes of a tree are below 2 ^ 64.
use native.Mathlib.Omega.{arith}
use Rattle.tree.proofs.Count.{tree_nodes_bound}
use Rattle.layers.proofs.log_words_used.Goals as goal

pub overflow_mul-result : goal.overflow_mul-result
overflow_mul-result c = record { fits = omega (arith, c.tree_nodes.ensures, tree_nodes_bound c.args.limit c.args.bits (omega (arith, c.ranges.bits))) }
