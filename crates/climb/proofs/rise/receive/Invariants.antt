-- `climb::rise::receive` meets its contract.
use Rattle.climb.specs.ReceiveLaws.{received, Climb}
use Rattle.climb.proofs.rise.receive.Given as goal

abbrev pub invariant-loop-k : goal.invariant-loop-k
invariant-loop-k l = Climb l.with.keyed (received l.with.keyed 2 l.outputs l.initial.out l.initial.area) l.initial.area l.initial.log 0 l.k l.i l.out l.area l.log l.at
