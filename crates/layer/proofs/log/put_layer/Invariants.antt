-- `log::put_layer` meets its contract. The loop's invariant: U and V of i nodes are written.
use mathlib.Core.Path.{◌≡◌}
use mathlib.Core.Bool.{Bool}
use mathlib.Core.List.{List}
use Prim.Native.Nat.{ℕ, ◌+◌, ◌*◌}
use lib.ListN.{length}
use Rattle.tree.specs.Tree as tree
use Rattle.node.specs.Words.{sized}
use Rattle.layer.specs.OneLayer.{layer_nodes}
use Rattle.layer.specs.LogLaws.{log_up_to}
use Rattle.layer.proofs.log.put_layer.Given as goal

abbrev pub invariant-loop-i : goal.invariant-loop-i
invariant-loop-i l =
    (l.to ≡ l.at + 2 * l.i) × (length l.log ≡ length l.initial.log)
    × ((P : tree.Params) (X : List Bool) → ((z p : ℕ) → tree.node_v (sized l.params) z p ≡ tree.node_v P z p) → length X ≡ l.layer.span.bits
    → l.log ≡ log_up_to l.at l.initial.log (layer_nodes P l.layer X) l.i)
