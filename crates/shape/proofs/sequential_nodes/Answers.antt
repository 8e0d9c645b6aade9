-- `shape::sequential_nodes` meets its contract.
use Rattle.shape.specs.ShapeLaws.{sequential_nodes-zero, sequential_nodes-more}
use Rattle.tree.specs.Tree.{blocks}
use mathlib.Core.Path.{◌∙◌, ap}
use Rattle.shape.proofs.sequential_nodes.Goals as goal

pub returns-then-limit-eq0 : goal.returns-then-limit-eq0
returns-then-limit-eq0 c = c.blocks_of.ensures ∙ sequential_nodes-zero c.args.limit c.args.bits c.if-limit-eq0.true

pub returns : goal.returns
returns c = c.blocks_of-2.ensures ∙ ap (blocks 3) c.nodes_at.ensures ∙ sequential_nodes-more c.args.limit c.args.bits c.if-limit-eq0.false
