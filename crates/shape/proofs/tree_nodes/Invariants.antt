-- `shape::tree_nodes` meets its contract. The loop's invariant: the sum, with the nodes from this level up, is the tree's number.
use Rattle.tree.specs.Sizes.{nodes_from, tree_nodes}
use Prim.Native.Nat.{◌+◌, ◌-◌, ◌*◌, ◌^◌, ◌≤◌, ◌<◌}
use mathlib.Core.Path.{◌≡◌}
use Rattle.shape.proofs.tree_nodes.Given as goal

abbrev pub invariant-loop-level : goal.invariant-loop-level
invariant-loop-level l = (0 < l.nodes) × (l.sum + 2 * l.nodes ≤ 2 ^ 54) × (l.sum + nodes_from (l.limit - l.level) l.nodes ≡ tree_nodes l.limit l.bits)
