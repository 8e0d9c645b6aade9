-- `outputs::Maker::sequential` meets its contract. The loop's invariant: the outputs of i nodes are written, and the chain is that of the next.
use mathlib.Core.Path.{◌≡◌}
use Prim.Native.Nat.{◌<◌}
use lib.ListN.{length}
use Rattle.node.specs.Words.{tree_params}
use Rattle.layer.specs.OneLayer.{source, nodes_in}
use Rattle.layer.specs.OverLaws.{Written, ChainAt}
use Rattle.layer.proofs.outputs.Maker.sequential.Given as goal

abbrev pub invariant-loop-i : goal.invariant-loop-i
invariant-loop-i l =
    Written (tree_params l.self.with.now.keyed) l.self.message.now l.initial.words l.self.layer l.i l.words
    × (l.i < nodes_in l.self.layer → ChainAt (tree_params l.self.with.now.keyed) l.self.layer (source l.self.message.now l.initial.words l.self.layer) l.i l.chain)
    × (length l.chain ≡ 16)
