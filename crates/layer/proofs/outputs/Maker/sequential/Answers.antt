-- `outputs::Maker::sequential` meets its contract. The loop's invariant: the outputs of i nodes are written, and the chain is that of the next.
use mathlib.Core.Path.{◌≡◌, refl, ap, ◌∙◌}
use Prim.Native.Nat.{suc, ◌<◌}
use native.Mathlib.Numerals.{add-one}
use native.Mathlib.Omega.{arith}
use lib.ListN.{length}
use Rattle.tree.proofs.OutputLaws.{length-out_words}
use Rattle.node.specs.Words.{tree_params}
use Rattle.layer.specs.OneLayer.{source, nodes_in}
use Rattle.layer.specs.IndexLaws.{length-source}
use Rattle.layer.specs.OverLaws.{Makes, chain_first, chain_next}
use Rattle.layer.specs.OverLaws.{written_none, written-more, written_all, sequential_turn}
use Rattle.layer.proofs.outputs.Maker.sequential.Goals as goal

pub loop-i-init : goal.loop-i-init
loop-i-init c =
    let a = c.args in
    let P = tree_params a.self.now.with.now.keyed in (
      written_none P a.self.now.message.now a.words.now a.self.now.layer c.requires.source.0 c.requires.source.1,
      λ _. chain_first P a.self.now.layer (source a.self.now.message.now a.words.now a.self.now.layer),
      refl,
    )

pub loop-i-preserved : goal.loop-i-preserved
loop-i-preserved c =
    let a = c.args in
    let P = tree_params a.self.now.with.now.keyed in
    let X = source a.self.now.message.now a.words.now a.self.now.layer in
    let i = c.loop-i.i in
    let w = c.loop-i.invariant.0 in
    let output = c.one_node-chain.result in
    let below : i < nodes_in a.self.now.layer = rw c.nodes-i-end.ensures at c.loop-i-test.true in
    let makes : Makes P a.self.now.layer X i output =
    sequential_turn w c.loop-i.chain c.chained_block-block.result output below c.requires.size (c.loop-i.invariant.1 below)
    c.chained_block-block.ensures c.one_node-chain.ensures.output in (
      rw c.one_node-chain.ensures.words (written-more w output below makes),
      λ h.
          let next : suc i < nodes_in a.self.now.layer = omega (arith, c.nodes-i-end.ensures, h) in
          let bits : length X ≡ a.self.now.layer.span.bits = length-source a.self.now.message.now a.words.now a.self.now.layer c.requires.source.0 in
          rw add-one (chain_next P a.self.now.layer X bits i output c.requires.size next makes),
      ap length makes.is ∙ length-out_words P makes.made,
    )

pub returns : goal.returns
returns c =
    let w = c.loop-i.invariant.0 in
    written_all w (omega (arith, c.nodes-i-end.ensures, w.most, c.loop-i-test.false))
