-- `shape::nodes_at` meets its contract. The loop's invariant: the nodes of the level that is reached.
use Rattle.tree.proofs.Count.{level_nodes}
use mathlib.Core.Path.{◌≡◌}
use Rattle.shape.proofs.nodes_at.Given as goal

abbrev pub invariant-loop-at : goal.invariant-loop-at
invariant-loop-at l = l.nodes ≡ level_nodes l.bits l.at
