-- `shape::nodes_at` meets its contract. The loop's invariant: the nodes of the level that is reached.
use Rattle.shape.specs.ShapeLaws.{level_nodes-more}
use Rattle.tree.proofs.Count.{level_nodes-one}
use Rattle.tree.specs.Tree.{blocks}
use mathlib.Core.Path.{◌∙◌, ap, sym}
use native.Mathlib.Omega.{arith}
use Rattle.shape.proofs.nodes_at.Goals as goal

pub loop-at-init : goal.loop-at-init
loop-at-init c = c.blocks_of-nodes.ensures ∙ sym (level_nodes-one c.args.bits)

pub loop-at-preserved : goal.loop-at-preserved
loop-at-preserved c =
    c.blocks_of-nodes-in-loop-at.ensures ∙ ap (blocks 4) c.loop-at.invariant ∙ sym (level_nodes-more c.args.bits c.loop-at.at (omega arith))
