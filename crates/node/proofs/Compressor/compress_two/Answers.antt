-- `node::Compressor::compress_two` meets its contract: what the compression makes of the windows are the words of the nodes.
use mathlib.Core.Path.{◌∙◌}
use Rattle.lists.specs.Slices.{words-below}
use Rattle.node.specs.WordLaws.{words-made}
use Rattle.node.proofs.Compressor.compress_two.Goals as goal

pub returns : goal.returns
returns c =
    let a = c.args in record {
      first = c.compress_two.ensures.0
          ∙ words-made a.self.now.ready a.one a.one_block.now _ c.requires.0
          (words-below a.one_block.now c.type_inv.one_block) c.fill_window.ensures;
      second = c.compress_two.ensures.1
          ∙ words-made a.self.now.ready a.other a.other_block.now _ c.requires.1
          (words-below a.other_block.now c.type_inv.other_block) c.fill_window-2.ensures;
    }
