-- Definitions: what a Maker makes values of: the parameters of the tree, the limit among them, and the bits of the message.
use Rattle.std.specs.Prelude.{Bool, List, ℕ}
use Rattle.bits.specs.PieceLaws.{span_bits}
use Rattle.tree.specs.Tree.{Params}
use Rattle.node.specs.Words.{tree_params}
use Rattle.nodes.specs.declared.Maker.{Maker}

abbrev pub maker_params : Maker → Params
maker_params maker = tree_params maker.with.now.keyed

abbrev pub maker_limit : Maker → ℕ
maker_limit maker = maker.with.now.keyed.params.limit

abbrev pub maker_bits : Maker → List Bool
maker_bits maker = span_bits maker.message.now maker.span
