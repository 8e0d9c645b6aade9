-- `node::Compressor::compress_node` meets its contract: what the compression makes of its window are the words of the node.
use mathlib.Core.Path.{◌∙◌}
use Rattle.lists.specs.Slices.{words-below}
use Rattle.node.specs.WordLaws.{words-made}
use Rattle.node.proofs.Compressor.compress_node.Goals as goal

pub returns : goal.returns
returns c =
    let a = c.args in
    c.compress.ensures
    ∙ words-made a.self.now.ready a.place a.block.now _ c.requires (words-below a.block.now c.type_inv.block) c.fill_window.ensures
