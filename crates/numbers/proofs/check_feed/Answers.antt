-- `numbers::check_feed` meets its contract.
use mathlib.Core.Path.{sym, ◌∙◌}
use native.Mathlib.Omega.{arith}
use Rattle.std.proofs.lemmas.Grind.{common_steps}
use Rattle.bits.specs.PieceLaws.{spanned}
use Rattle.calls.specs.Calls.{feed_number}
use Rattle.calls.proofs.LogWords.{piece-nodes}
use Rattle.numbers.proofs.check_feed.Goals as goal

pub returns : goal.returns
unfolding feed_number
returns c =
    let a = c.args in
    let nodes = piece-nodes a.area.now (spanned a.piece.now a.span) (sym c.refused_bits.ensures ∙ c.if-refused_bits.false) in
    grind (arith, common_steps)
