-- `writing::put::put_levels`: the loop keeps `Putting`.
use Rattle.writing.proofs.PutLevels.{Putting}
use Rattle.writing.proofs.put.put_levels.Given as goal

abbrev pub invariant-loop-level : goal.invariant-loop-level
invariant-loop-level l = Putting l.area l.part l.at l.level
