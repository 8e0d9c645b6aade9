-- `shape::top_level` meets its contract. The loop's invariant: the top is looked for from this level on.
use Rattle.tree.proofs.Count.{level_nodes}
use Rattle.shape.specs.Shape.{top_from, top_level}
use Prim.Native.Nat.{◌+◌, ◌-◌}
use mathlib.Core.Path.{◌≡◌}
use Rattle.shape.proofs.top_level.Given as goal

abbrev pub invariant-loop-level : goal.invariant-loop-level
invariant-loop-level l = (l.nodes ≡ level_nodes l.bits l.level) × (top_from l.bits (l.limit + 1 - l.level) l.level ≡ top_level l.limit l.bits)
