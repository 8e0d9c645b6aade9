-- `nodes::Maker::place` meets its contract.
use Rattle.shape.specs.ShapeLaws.{node-index}
use Rattle.nodes.proofs.Maker.place.Goals as goal

pub returns-clause-fits : goal.returns-clause-fits
returns-clause-fits c = (node-index c.args.self.now.span.bits c.args.level c.args.index c.args.self.now.counted c.requires.0 c.requires.1, c.padding-p.ensures.1)
