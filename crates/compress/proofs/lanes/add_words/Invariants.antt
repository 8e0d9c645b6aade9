-- `add_words` meets its contract: after j turns word i is made in the first j lanes, and the others are as they were.
use mathlib.Core.Path.{◌≡◌}
use Prim.Native.Nat.{ℕ, ◌≤◌, ◌<◌}
use lib.ListN.{length}
use Rattle.compress.specs.Buffer.{put_at, lane}
use Rattle.compress.proofs.lanes.add_words.Given as goal

abbrev pub invariant-loop-j : goal.invariant-loop-j
invariant-loop-j g l =
    (length l.a ≡ length l.initial.a)
    × ((k : ℕ) → k < l.j → k < g.row.LANES → lane g.row.LANES k l.a ≡ put_at l.i l.s l.by.r l.by.l (lane g.row.LANES k l.initial.a))
    × ((k : ℕ) → l.j ≤ k → k < g.row.LANES → lane g.row.LANES k l.a ≡ lane g.row.LANES k l.initial.a)
