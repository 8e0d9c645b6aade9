-- `put_levels` meets its contract. The loop's invariant: so many levels are done, and the next can be made.
use mathlib.Core.Path.{◌≡◌}
use Prim.Native.Nat.{◌*◌, ◌<◌}
use Rattle.bits.specs.PieceLaws.{spanned}
use Rattle.tree.specs.Tree.{output_bits}
use Rattle.layers.proofs.Steps.{Going}
use Rattle.layers.proofs.put_levels.Given as goal

abbrev pub invariant-loop-levels : goal.invariant-loop-levels
invariant-loop-levels l = Going l.with.keyed (spanned l.message l.span) l.initial.words l.initial.log l.top l.levels l.words l.log l.at l.bits × (0 < l.levels → l.bits ≡ output_bits * l.nodes)
