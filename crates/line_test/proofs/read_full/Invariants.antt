-- `line_test::read_full` reads into the text alone. The invariant: what was read lies within it.
use Rattle.std.proofs.Common.{◌≤◌, length}
use Rattle.line_test.proofs.read_full.Given as goal

abbrev pub invariant-loop : goal.invariant-loop
invariant-loop g l = l.n ≤ length l.text
