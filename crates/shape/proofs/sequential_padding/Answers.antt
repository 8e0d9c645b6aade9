-- `shape::sequential_padding` meets its contract.
use Rattle.shape.specs.ShapeLaws.{message-index, third-index, padding-message, padding_children}
use Rattle.shape.specs.Shape.{taken}
use Prim.Native.Nat.{ℕ, ◌-◌, ◌*◌}
use mathlib.Core.Path.{◌∙◌, ap}
use native.Mathlib.Omega.{arith}
use Rattle.shape.proofs.sequential_padding.Goals as goal

pub taken-requires : goal.taken-requires
taken-requires c = message-index c.args.bits c.args.index (rw c.if-limit-eq0.true at c.requires)

pub returns-then-limit-eq0 : goal.returns-then-limit-eq0
returns-then-limit-eq0 c = (ap (λ (n : ℕ). 3072 - n) c.taken.ensures ∙ padding-message c.args.limit c.args.bits c.args.index c.if-limit-eq0.true, omega (arith, c.taken.ensures))

pub nodes_at-requires : goal.nodes_at-requires
nodes_at-requires c = omega (arith, c.if-limit-eq0.false)

pub taken-requires-2 : goal.taken-requires-2
taken-requires-2 c = rw c.nodes_at.ensures (third-index c.args.limit c.args.bits c.args.index (omega (arith, c.if-limit-eq0.false)) c.requires)

pub returns : goal.returns
returns c = (ap (λ (n : ℕ). 1024 * (3 - n)) (c.taken-2.ensures ∙ ap (λ (m : ℕ). taken 3 m c.args.index) c.nodes_at.ensures) ∙ padding_children c.args.limit c.args.bits c.args.index c.if-limit-eq0.false, omega (arith, c.taken-2.ensures))
