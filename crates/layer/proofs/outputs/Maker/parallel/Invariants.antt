-- `outputs::Maker::parallel` meets its contract. The loop's invariant: the outputs of so many pairs of nodes are written.
use Prim.Native.Nat.{◌*◌}
use Rattle.node.specs.Words.{tree_params}
use Rattle.layer.specs.OverLaws.{Written}
use Rattle.layer.proofs.outputs.Maker.parallel.Given as goal

abbrev pub invariant-loop-pair : goal.invariant-loop-pair
invariant-loop-pair l = Written (tree_params l.self.with.now.keyed) l.self.message.now l.initial.words l.self.layer (2 * l.pair) l.words
