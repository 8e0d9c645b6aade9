-- `digits::spell_words` spells words, 16 digits at a time, until a byte is refused.
use Rattle.std.proofs.Common.{length, sym, arith}
use Rattle.digits.specs.Digits.{spelt_words}
use Rattle.digits.proofs.DigitLaws.{length-spelt_words, all-at}
use Rattle.digits.proofs.Loops.{turn, word_more, word-all}
use Rattle.digits.proofs.spell_words.Goals as goal

pub loop-i-preserved : goal.loop-i-preserved
loop-i-preserved c =
    let t = c.args.part.now in
    let k = length c.args.words.now in
    word_more (spelt_words k t) c.loop-i.words c.loop-i.i _ (omega (arith, length-spelt_words k t)) (omega arith) c.loop-i.invariant
    (turn k c.loop-i.i t _ (omega arith) c.in_ok-word.ensures)

pub returns-in_err-word : goal.returns-in_err-word
returns-in_err-word c =
    let t = c.args.part.now in
    let k = length c.args.words.now in
    rw c.from_residual.ensures
    (sym (all-at (spelt_words k t) c.loop-i.i (omega (arith, length-spelt_words k t)) (turn k c.loop-i.i t _ (omega arith) c.in_err-word.ensures)))

pub returns : goal.returns
returns c =
    let k = length c.args.words.now in
    word-all (spelt_words k c.args.part.now) c.loop-i.words c.loop-i.i (omega (arith, length-spelt_words k c.args.part.now)) (omega arith) c.loop-i.invariant
