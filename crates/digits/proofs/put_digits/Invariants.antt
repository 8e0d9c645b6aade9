-- `digits::put_digits` writes the digits of a number, one after the other.
use Rattle.std.proofs.Common.{◌≡◌, ◌++◌, take, drop}
use Rattle.digits.specs.Digits.{hex_digits}
use Rattle.digits.proofs.put_digits.Given as goal

abbrev pub invariant-loop-i : goal.invariant-loop-i
invariant-loop-i l = l.part ≡ take l.i (hex_digits l.n l.x) ++ drop l.i l.initial.part
