-- `area::empty::or_all` meets its contract.
use Rattle.std.proofs.Common.{◌∙◌, arith}
use Rattle.area.specs.EmptyLaws.{or-more}
use Rattle.area.proofs.empty.or_all.Goals as goal

pub loop-word-preserved : goal.loop-word-preserved
loop-word-preserved c =
    let i = c.loop-word.word-index in
    or-more c.loop-word.all i c.args.words.now c.loop-word-test.true (omega (arith, c.type_inv.words i)) ∙ c.loop-word.invariant
