-- `later_rounds` meets its contract: before part p is fetched, the rounds of the parts below it are done, or all.
use Prim.Native.Nat.{◌*◌, min}
use Rattle.constants.specs.Constants.{part_entries}
use Rattle.compress.specs.Buffer.{Advances}
use Rattle.compress.proofs.buffer.Buffer.later_rounds.Given as goal

abbrev pub invariant-loop-part : goal.invariant-loop-part
invariant-loop-part g l =
    Advances g.row.LANES (min l.rounds part_entries) (min l.rounds (part_entries * l.part)) l.fn.self.at l.fn.self.words l.self.at l.self.words
