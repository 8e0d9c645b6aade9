-- `move_to_front`: after m turns the last m of the first n words are moved, and the others are as they were.
use Rattle.std.proofs.Common.{◌≡◌, length, drop, ◌+◌, ◌-◌}
use lib.Seq.{paste}
use Rattle.compress.proofs.lanes.move_to_front.Given as goal

abbrev pub invariant-loop-m : goal.invariant-loop-m
invariant-loop-m l = (l.a ≡ paste l.initial.a (l.n - l.m) (drop (l.b + (l.n - l.m)) l.initial.a) l.m) × (length l.a ≡ length l.initial.a)
