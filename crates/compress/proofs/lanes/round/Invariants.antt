-- `round` meets its contract: after j turns the first j words of the round are written in every lane.
use mathlib.Core.Path.{◌≡◌}
use lib.ListN.{length}
use Rattle.compress.specs.Buffer.{put_round, Lanes}
use Rattle.compress.proofs.Laws.{AreShifts}
use Rattle.compress.proofs.lanes.round.Given as goal

abbrev pub invariant-loop-j : goal.invariant-loop-j
invariant-loop-j g l = (length l.a ≡ length l.fn.a) × Lanes g.row.LANES (put_round l.j l.i l.s) l.fn.a l.a × AreShifts l.shifts

abbrev pub invariant-loop-j-2 : goal.invariant-loop-j-2
invariant-loop-j-2 g l = (length l.a ≡ length l.fn.a) × Lanes g.row.LANES (put_round l.j l.i l.s) l.fn.a l.a × AreShifts l.shifts
