-- `nodes::Maker::sequential_value` meets its contract.
use Rattle.shape.specs.ShapeLaws.{sequential-index}
use Rattle.nodes.specs.SequentialLaws.{chained-made}
use Rattle.nodes.specs.Making.{maker_params, maker_limit}
use Rattle.bits.specs.PieceLaws.{spanned}
use mathlib.Core.Path.{◌∙◌}
use native.Mathlib.Omega.{arith}
use borrow.Author.Rules.{rules}
use Rattle.nodes.proofs.Maker.sequential_value.Goals as goal

pub compress_node-requires : goal.compress_node-requires
compress_node-requires c =
    let self = c.args.self.now in (
      omega (arith, self.with.now.ready.range.limit_high),
      sequential-index (maker_limit self) self.span.bits c.args.index self.counted c.requires.0,
      c.requires.1,
      c.sequential_padding-p.ensures.1,
      search rules,
    )

pub returns : goal.returns
returns c =
    let self = c.args.self.now in
    c.compress_node.ensures
    ∙ chained-made (maker_params self) (maker_limit self) (spanned self.message.now self.span) c.args.index c.args.z _ c.args.before.now c.sequential_block-block.result
    self.fits c.sequential_padding-p.ensures.0 c.sequential_block-block.ensures
