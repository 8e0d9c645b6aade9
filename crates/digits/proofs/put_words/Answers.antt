-- `digits::put_words` writes the digits of words, 16 at a time.
use Rattle.std.proofs.Common.{refl, ◌∙◌, append-nil, arith}
use Rattle.std.proofs.Math.Seq.{drop-length}
use Rattle.digits.specs.Digits.{word_digits}
use Rattle.digits.proofs.Loops.{digits_step, digits-all}
use Rattle.digits.proofs.put_words.Goals as goal

pub loop-i-init : goal.loop-i-init
unfolding mathlib.Core.List.flatten
loop-i-init c = refl

pub loop-i-preserved : goal.loop-i-preserved
loop-i-preserved c =
    digits_step 16 c.args.words.now c.args.part.now c.loop-i.i c.loop-i.part c.put_digits.new.part (omega arith) (omega arith) c.loop-i.invariant c.put_digits.ensures

pub returns : goal.returns
returns c =
    let p = c.args.part.now in
    let ws = c.args.words.now in
    c.loop-i.invariant ∙ digits-all 16 ws p c.loop-i.i (omega arith)
    ∙ rw (← c.requires, drop-length p) (append-nil (word_digits ws))
