-- `shape::blocks_of` meets its contract.
use mathlib.Core.Path.{ap, ◌∙◌}
use Prim.Native.Nat.{ℕ, ◌+◌, ◌/◌}
use Rattle.shape.specs.ShapeLaws.{blocks_less}
use Rattle.shape.proofs.blocks_of.Goals as goal

pub returns : goal.returns
returns c = ap (λ (n : ℕ). n / c.args.size + 1) c.saturating_sub.ensures ∙ blocks_less c.args.size c.args.m c.requires
