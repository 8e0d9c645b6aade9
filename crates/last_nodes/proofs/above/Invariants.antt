-- `last_nodes::above` meets its contract.
use Rattle.last_nodes.specs.LastLaws.{last_up, LastLoop}
use Rattle.last_nodes.proofs.above.Given as goal

abbrev pub invariant-loop-k : goal.invariant-loop-k
invariant-loop-k l = LastLoop l.with.keyed (last_up l.with.keyed 2 l.outputs l.initial.out l.area) l.area l.initial.log 2 l.k l.i l.out l.log l.at
