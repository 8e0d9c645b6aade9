-- `nodes::Maker::message_words` meets its contract.
use Rattle.std.proofs.Common.{◌∙◌, arith}
use Rattle.std.proofs.lemmas.List.{length-replicate}
use Rattle.bits.specs.PieceLaws.{spanned}
use Rattle.nodes.specs.BlockLaws.{bytes-before, message-filled}
use Rattle.nodes.proofs.Maker.message_words.Goals as goal

pub fill-requires : goal.fill-requires
fill-requires g c =
    let self = c.args.self.now in
    let n = c.taken-n.ensures in (
      omega (arith, self.fits.low),
      rw length-replicate (omega (arith, n)),
      omega (arith, bytes-before g.row.N c.args.index, c.requires.1, n, self.fits.inside),
    )

pub returns : goal.returns
returns g c =
    let self = c.args.self.now in
    c.fill.ensures
    ∙ message-filled (spanned self.message.now self.span) g.row.N c.args.index c.taken-n.result self.fits c.requires.1 c.taken-n.ensures
