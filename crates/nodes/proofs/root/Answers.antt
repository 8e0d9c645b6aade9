-- `nodes::root` meets its contract.
use Rattle.shape.specs.ShapeLaws.{top_some}
use Rattle.nodes.specs.SequentialLaws.{root-chain, root-parallel}
use Rattle.node.specs.Words.{tree_params}
use Rattle.nodes.specs.Value as spec
use Rattle.bits.specs.PieceLaws.{spanned, span_bits}
use Prim.Native.Nat.{ℕ, ◌<◌}
use mathlib.Core.Path.{◌∙◌, ap}
use native.Mathlib.Omega.{arith}
use Rattle.nodes.proofs.root.Goals as goal

pub returns-then-limit-top : goal.returns-then-limit-top
returns-then-limit-top c =
    let a = c.args in
    c.sequential.ensures
    ∙ root-chain (tree_params a.with.now.keyed) a.with.now.keyed.params.limit (spanned a.message.now a.span) c.requires
    (omega (arith, c.top_level-top.ensures.0, c.if-limit-top.true))

pub top_value-requires : goal.top_value-requires
top_value-requires c =
    let e = c.top_level-top.ensures.0 in
    let some : 0 < c.top_level-top.result = omega (arith, e, top_some c.args.span.bits c.args.with.now.keyed.params.limit 1) in
    (some, omega (arith, c.if-limit-top.false, c.args.with.now.ready.range.limit_high))

pub returns : goal.returns
returns c =
    let a = c.args in
    let e = c.top_level-top.ensures.0 in
    c.top_value.ensures
    ∙ ap (λ (l : ℕ). spec.value (tree_params a.with.now.keyed) (span_bits a.message.now a.span) l 0 1) e
    ∙ root-parallel (tree_params a.with.now.keyed) a.with.now.keyed.params.limit (spanned a.message.now a.span) c.requires
    (omega (arith, e, c.if-limit-top.false))
