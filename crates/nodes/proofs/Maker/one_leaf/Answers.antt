-- `nodes::Maker::one_leaf` meets its contract.
use Rattle.std.proofs.Common.{refl, ◌∙◌, arith}
use Rattle.bits.specs.PieceLaws.{spanned}
use Rattle.shape.specs.ShapeLaws.{leaf-index}
use Rattle.nodes.specs.BlockLaws.{leaf-made}
use Rattle.nodes.specs.Making.{maker_params}
use Rattle.nodes.proofs.Maker.one_leaf.Goals as goal

pub message_words-block-requires : goal.message_words-block-requires
message_words-block-requires c = (omega arith, (omega arith, leaf-index c.args.self.now.span.bits c.args.index c.requires))

pub returns : goal.returns
returns c =
    let self = c.args.self.now in
    c.one_value.ensures
    ∙ leaf-made (maker_params self) (spanned self.message.now self.span) c.args.index 0 _ _ self.fits refl c.message_words-block.ensures
