-- `print::put_digest` puts the line of a digest, byte after byte.
use Rattle.std.proofs.Common.{◌≡◌, ◌*◌, ◌++◌, take, drop}
use Rattle.print.specs.Print.{byte_digits}
use Rattle.print.proofs.put_digest.Given as goal

abbrev pub invariant-loop-i : goal.invariant-loop-i
invariant-loop-i l = l.text ≡ byte_digits (take l.i l.digest) ++ drop (2 * l.i) l.initial.text
