-- `digits::number` spells a number, digit by digit, until a byte is refused.
use Rattle.std.proofs.Common.{sym, arith}
use Rattle.digits.proofs.Loops.{digit-more}
use Rattle.digits.proofs.number.Goals as goal

pub loop-b-preserved : goal.loop-b-preserved
loop-b-preserved c = digit-more c.args.part.now c.loop-b.b-index c.loop-b.x (omega arith) c.loop-b.invariant _ (sym c.in_ok-x.ensures)
