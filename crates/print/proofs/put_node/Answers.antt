-- `print::put_node` puts the line of a node.
use Rattle.print.specs.PrintLaws.{node-stored}
use Rattle.print.proofs.put_node.Goals as goal

pub returns : goal.returns
returns c =
    node-stored c.args.u c.args.v c.args.part.now c.put_digits.new.part c.put_digits-2.new.part c.requires c.put_digits.ensures c.put_digits-2.ensures
