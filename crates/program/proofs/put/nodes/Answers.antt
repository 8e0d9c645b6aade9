-- `program::put::nodes` meets its contract: the lines are as long as their text.
use Rattle.program.specs.PutLaws.{nodes-put}
use Rattle.program.proofs.put.nodes.Goals as goal

pub returns : goal.returns
returns c = nodes-put c.args.log.now c.args.out.now c.put_nodes.ensures
