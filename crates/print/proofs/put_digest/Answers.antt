-- `print::put_digest` puts the line of a digest, byte after byte.
use Rattle.std.proofs.Common.{refl, ◌∙◌, arith}
use Rattle.digits.proofs.Loops.{digits_step, digits-all}
use Rattle.print.specs.PrintLaws.{digest-stored}
use Rattle.print.proofs.put_digest.Goals as goal

pub loop-i-init : goal.loop-i-init
unfolding mathlib.Core.List.flatten
loop-i-init c = refl

pub loop-i-preserved : goal.loop-i-preserved
loop-i-preserved c =
    digits_step 2 c.args.digest.now c.args.text.now c.loop-i.i c.loop-i.text c.put_digits.new.part (omega arith) (omega arith) c.loop-i.invariant
    (rw c.from.ensures at c.put_digits.ensures)

pub returns : goal.returns
returns c =
    let d = c.args.digest.now in
    let t = c.args.text.now in
    digest-stored t d c.loop-i.text c.requires (c.loop-i.invariant ∙ digits-all 2 d t c.loop-i.i (omega arith))
