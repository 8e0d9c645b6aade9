-- `some_rounds` meets its contract: after k turns the first k constants of the part have had their rounds.
use Prim.Native.Nat.{ℕ, ◌+◌}
use Rattle.constants.specs.Constants.{RoundTable}
use Rattle.compress.specs.Buffer.{Placed, Advances}
use Rattle.compress.proofs.buffer.Buffer.some_rounds.Given as goal

abbrev pub invariant-loop-s : goal.invariant-loop-s
invariant-loop-s g l =
    Placed g.row.LANES l.self.words l.place
    × ((q : ℕ) → RoundTable q l.part → Advances g.row.LANES q (q + l.s-index) l.fn.self.at l.fn.self.words l.place l.self.words)
