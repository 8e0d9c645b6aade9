-- `nodes::Maker::top_value` meets its contract.
use Rattle.shape.specs.Shape.{taken}
use Rattle.shape.specs.ShapeLaws.{first-node}
use Rattle.nodes.specs.BlockLaws.{leaf-made, block-above, value_made}
use Rattle.nodes.specs.Value as spec
use Rattle.nodes.specs.Making.{maker_params}
use Rattle.bits.specs.PieceLaws.{spanned, span_bits}
use Prim.Native.Nat.{ℕ}
use mathlib.Core.Path.{sym, refl, ap, ◌∙◌}
use native.Mathlib.Omega.{arith}
use Rattle.nodes.proofs.Maker.top_value.Goals as goal

pub one_value-requires : goal.one_value-requires
one_value-requires c = (omega arith, omega arith, first-node c.args.self.now.span.bits 1 (omega arith), omega arith)

pub returns-then-level-eq1 : goal.returns-then-level-eq1
returns-then-level-eq1 c =
    let a = c.args in
    let P = maker_params a.self.now in
    c.one_value.ensures
    ∙ leaf-made P (spanned a.self.now.message.now a.self.now.span) 0 1 _ _ a.self.now.fits refl c.message_words-block.ensures
    ∙ ap (λ (l : ℕ). spec.value P (span_bits a.self.now.message.now a.self.now.span) l 0 1) (sym c.if-level-eq1.true)

pub one_value-requires-2 : goal.one_value-requires-2
one_value-requires-2 c = (c.requires.0, c.requires.1, first-node c.args.self.now.span.bits c.args.level c.requires.0, omega arith)

pub returns : goal.returns
returns c =
    let a = c.args in
    let P = maker_params a.self.now in
    let m = spanned a.self.now.message.now a.self.now.span in
    c.one_value-2.ensures
    ∙ value_made P m a.level 0 1 c.values-block.result c.requires.0 a.self.now.fits
    (c.values-block.ensures
    ∙ block-above P m a.level 0 c.taken-n.result (omega (arith, c.requires.0, c.if-level-eq1.false))
    a.self.now.fits (c.taken-n.ensures ∙ ap (λ (c : ℕ). taken 4 c 0) c.nodes_at.ensures))
