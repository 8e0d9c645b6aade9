-- `piece::feed_nodes` meets its contract.
use Rattle.std.proofs.Common.{rules, arith}
use Rattle.lists.specs.Slices.{words-below}
use Rattle.bits.specs.PieceLaws.{spanned}
use Rattle.calls.proofs.AreaLaws.{limit-word}
use Rattle.climb.specs.OpenArea.{open_ready}
use Rattle.piece.specs.PieceLaws.{fed-read}
use Rattle.piece.proofs.feed_nodes.Goals as goal

pub new-with-requires : goal.new-with-requires
new-with-requires c =
    rw c.keyed_of.ensures (open_ready c.requires.opened c.first_part-first.result (words-below c.args.area.now (search rules)) c.first_part-first.ensures (omega arith))

pub feed_bits-requires : goal.feed_bits-requires
feed_bits-requires c =
    let a = c.args in
    let area = a.area.now in
    rw (c.new-with.ensures, c.keyed_of.ensures)
    record { long = c.requires.opened.long; own = limit-word area; bits = c.requires.bits; total = c.requires.total; room = rw (fed-read area (spanned a.piece.now a.span)) c.requires.room }

pub returns : goal.returns
returns c =
    let a = c.args in
    rw (c.new-with.ensures, c.keyed_of.ensures, fed-read a.area.now (spanned a.piece.now a.span)) at c.feed_bits.ensures
