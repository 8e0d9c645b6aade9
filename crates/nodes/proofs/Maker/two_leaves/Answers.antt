-- `nodes::Maker::two_leaves` meets its contract.
use Rattle.std.proofs.Common.{◌+◌, refl, ◌∙◌, arith}
use Rattle.bits.specs.PieceLaws.{spanned}
use Rattle.shape.specs.ShapeLaws.{leaf-index}
use Rattle.nodes.specs.BlockLaws.{leaf-made}
use Rattle.nodes.specs.Making.{maker_params}
use Rattle.nodes.proofs.Maker.two_leaves.Goals as goal

pub message_words-one-requires : goal.message_words-one-requires
message_words-one-requires c = (omega arith, (omega arith, leaf-index c.args.self.now.span.bits c.args.index (omega (arith, c.requires))))

pub message_words-other-requires : goal.message_words-other-requires
message_words-other-requires c = (omega arith, (omega arith, leaf-index c.args.self.now.span.bits (c.args.index + 1) c.requires))

pub returns-clause-first : goal.returns-clause-first
returns-clause-first c =
    let self = c.args.self.now in
    let P = maker_params self in
    c.compress_two.ensures.first
    ∙ rw c.place-here.ensures.place (leaf-made P (spanned self.message.now self.span) c.args.index 0 _ _ self.fits refl c.message_words-one.ensures)

pub returns-clause-second : goal.returns-clause-second
returns-clause-second c =
    let self = c.args.self.now in
    let P = maker_params self in
    c.compress_two.ensures.second
    ∙ rw c.place-there.ensures.place (leaf-made P (spanned self.message.now self.span) (c.args.index + 1) 0 _ _ self.fits refl c.message_words-other.ensures)
