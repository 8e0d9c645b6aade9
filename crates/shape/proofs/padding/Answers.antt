-- `shape::padding` meets its contract.
use Rattle.shape.specs.ShapeLaws.{leaf-index, child_index, padding-leaf, padding-above}
use Rattle.shape.specs.Shape.{taken}
use Prim.Native.Nat.{ℕ, ◌-◌, ◌*◌}
use mathlib.Core.Path.{◌∙◌, ap}
use native.Mathlib.Omega.{arith}
use Rattle.shape.proofs.padding.Goals as goal

pub taken-requires : goal.taken-requires
taken-requires c = leaf-index c.args.bits c.args.index (rw c.if-level-eq1.true at c.requires.1)

pub returns-then-level-eq1 : goal.returns-then-level-eq1
returns-then-level-eq1 c = (ap (λ (n : ℕ). 4096 - n) c.taken.ensures ∙ padding-leaf c.args.bits c.args.level c.args.index c.if-level-eq1.true, omega (arith, c.taken.ensures))

pub taken-requires-2 : goal.taken-requires-2
taken-requires-2 c = rw c.nodes_at.ensures (child_index c.args.bits c.args.level c.args.index (omega (arith, c.requires.0, c.if-level-eq1.false)) c.requires.1)

pub returns : goal.returns
returns c = (ap (λ (n : ℕ). 1024 * (4 - n)) (c.taken-2.ensures ∙ ap (λ (m : ℕ). taken 4 m c.args.index) c.nodes_at.ensures) ∙ padding-above c.args.bits c.args.level c.args.index (omega (arith, c.requires.0, c.if-level-eq1.false)), omega (arith, c.taken-2.ensures))
