-- `print::put_nodes` puts the lines of nodes, one after the other.
use Rattle.std.proofs.Common.{refl, ap, ◌∙◌, ◌*◌, ◌++◌, ℕ, drop, arith}
use Rattle.print.specs.Print.{line_bytes, node_lines}
use Rattle.print.specs.PrintLaws.{nodes-step}
use Rattle.print.proofs.put_nodes.Goals as goal

pub loop-i-init : goal.loop-i-init
unfolding node_lines
loop-i-init c = refl

pub loop-i-preserved : goal.loop-i-preserved
loop-i-preserved c =
    nodes-step c.loop-i.i c.args.log.now c.args.text.now c.loop-i.text c.put_node.new.part (omega arith) c.loop-i.invariant c.put_node.ensures

pub returns : goal.returns
returns c =
    c.loop-i.invariant
    ∙ ap (λ (n : ℕ). node_lines n c.args.log.now ++ drop (line_bytes * n) c.args.text.now) (omega arith)
