-- `put_window` meets its contract: after i turns the lane begins with the first i words of the window, and the others are as they were.
use mathlib.Core.Path.{◌≡◌}
use mathlib.Core.Logic.{◌≢◌}
use Prim.Native.Nat.{ℕ, ◌<◌}
use lib.Seq.{paste}
use Rattle.compress.specs.Buffer.{lane}
use Rattle.compress.proofs.buffer.Buffer.put_window.Given as goal

abbrev pub invariant-loop-i : goal.invariant-loop-i
invariant-loop-i g l =
    (lane g.row.LANES l.j l.self.words ≡ paste (lane g.row.LANES l.j l.initial.self.words) 0 l.window l.i)
    × ((k : ℕ) → k < g.row.LANES → k ≢ l.j → lane g.row.LANES k l.self.words ≡ lane g.row.LANES k l.initial.self.words)
    × (l.self.at ≡ l.initial.self.at)
