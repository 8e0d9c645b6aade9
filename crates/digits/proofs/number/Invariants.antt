-- `digits::number` spells a number, digit by digit, until a byte is refused.
use Rattle.std.proofs.Common.{◌≡◌, take, Some}
use Rattle.digits.specs.Digits.{spelt}
use Rattle.digits.proofs.number.Given as goal

abbrev pub invariant-loop-b : goal.invariant-loop-b
invariant-loop-b l = spelt 0 (take l.b-index l.part) ≡ Some l.x
