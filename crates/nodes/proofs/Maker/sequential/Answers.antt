-- `nodes::Maker::sequential` meets its contract. The loop's invariant: the chain after i nodes.
use Rattle.std.proofs.Common.{◌≡◌, ℕ, suc, refl, sym, ap, ◌∙◌, arith}
use Rattle.std.specs.Prelude.{eqb}
use Rattle.bits.specs.Bits.{digit}
use Rattle.bits.specs.PieceLaws.{spanned}
use Rattle.shape.specs.Shape.{sequential_nodes}
use Rattle.nodes.specs.ValueLaws.{chain-zero}
use Rattle.nodes.specs.SequentialLaws.{chain_more, chain-all}
use Rattle.nodes.specs.Making.{maker_params, maker_limit, maker_bits}
use Rattle.nodes.proofs.Maker.sequential.Goals as goal

pub loop-i-init : goal.loop-i-init
loop-i-init c =
    let self = c.args.self.now in
    (sym (chain-zero (maker_params self) (maker_bits self) (maker_limit self)), refl)

pub loop-i-preserved : goal.loop-i-preserved
loop-i-preserved c =
    let self = c.args.self.now in
    let flag = c.last_flag-z in
    let ez : flag.result ≡ digit (eqb (suc c.loop-i.i) (sequential_nodes (maker_limit self) self.span.bits)) =
    flag.ensures.0 ∙ ap (λ (n : ℕ). digit (eqb (suc c.loop-i.i) n)) c.sequential_nodes-nodes.ensures in (
      c.sequential_value-last.ensures
          ∙ chain_more (maker_params self) (maker_limit self) (spanned self.message.now self.span) c.loop-i.i flag.result c.loop-i.last self.fits ez c.loop-i.invariant.0,
      omega (arith, c.sequential_value-last.type_inv),
    )

pub returns : goal.returns
returns c =
    let self = c.args.self.now in
    let all : c.loop-i.i ≡ sequential_nodes (maker_limit self) self.span.bits =
    omega (arith, c.loop-i.auto.i-end, c.loop-i-test.false, c.sequential_nodes-nodes.ensures) in
    chain-all (maker_params self) (maker_limit self) (spanned self.message.now self.span) c.loop-i.i c.loop-i.last self.fits all c.loop-i.invariant.0
