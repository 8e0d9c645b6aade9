-- `digits::put_digits` writes the digits of a number, one after the other.
use Rattle.std.proofs.Common.{◌<◌, ◌≡◌, sym, ◌∙◌, length, arith}
use Rattle.digits.specs.Digits.{hex_digits}
use Rattle.digits.proofs.DigitLaws.{length_digits}
use Rattle.digits.proofs.Loops.{copy_more, copy_all, get_d_digits}
use Rattle.digits.proofs.put_digits.Goals as goal

pub loop-i-preserved : goal.loop-i-preserved
loop-i-preserved c =
    let p = c.args.part.now in
    let x = c.args.x in
    let i = c.loop-i.i in
    let n = length p in
    let h : i < n = omega arith in
    let e = c.value_digit.ensures ∙ sym (get_d_digits n x i h) in
    rw (e, c.loop-i.invariant) (copy_more (hex_digits n x) p i (rw (length_digits n x) h) h)

pub returns : goal.returns
returns c =
    let p = c.args.part.now in
    let x = c.args.x in
    let e : c.loop-i.i ≡ length p = omega arith in
    c.loop-i.invariant ∙ copy_all (hex_digits (length p) x) p c.loop-i.i (e ∙ sym (length_digits (length p) x)) e
