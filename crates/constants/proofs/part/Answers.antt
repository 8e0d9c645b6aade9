-- `part` meets its contract: its part of the table has the table's rule from there on.
use Rattle.constants.proofs.Laws.{part}
use Rattle.constants.proofs.part.Goals as goal

pub returns : goal.returns
returns c = part c.round_constants.result.now c.round_constants.ensures c.args.number c.requires
