-- `put_levels` meets its contract. The loop's invariant: so many levels are done, and the next can be made.
use mathlib.Core.Path.{◌≡◌, refl, ◌∙◌}
use native.Mathlib.Omega.{arith}
use lib.ListN.{length}
use Rattle.bits.specs.PieceLaws.{spanned, span_bits}
use Rattle.tree.specs.Tree.{tree}
use Rattle.node.specs.Words.{tree_params}
use Rattle.node.specs.WordLaws.{v-made}
use Rattle.layer.specs.OneLayer.{source}
use Rattle.layer.specs.IndexLaws.{length-source}
use Rattle.layers.proofs.Steps.{done_none, done_all, top_is, Turn, going}
use Rattle.layers.proofs.put_levels.Goals as goal

pub loop-levels-init : goal.loop-levels-init
loop-levels-init c =
    let a = c.args in
    let m = spanned a.message.now a.span in
    let none = done_none (tree_params a.with.now.keyed) m a.words.now a.log.now c.requires.fits in (
      going a.with.now.keyed m a.words.now a.log.now c.top_level-top.result 0 a.words.now a.log.now 0 a.span.bits
          c.requires.fits (omega arith) c.requires.room c.top_level-top.ensures none,
      λ h. absurd (omega arith),
    )

pub loop-levels-preserved : goal.loop-levels-preserved
loop-levels-preserved c =
    let top = c.top_level-top in
    let a = c.args in
    let m = spanned a.message.now a.span in
    let layer = c.above-layer.result in
    let ws = c.loop-levels.words in
    let X = source a.message.now ws layer in
    let t : Turn a.with.now.keyed m a.words.now a.log.now c.loop-levels.levels ws c.loop-levels.log c.loop-levels.at layer =
    rw c.above-layer.ensures (c.loop-levels.invariant.0.next c.loop-levels-test.true) in
    let bits : length X ≡ layer.span.bits = length-source a.message.now ws layer t.there in
    let put = c.put_layer-at.ensures.1 (tree_params a.with.now.keyed) X (v-made c.args.with.now.ready) bits in (
      going a.with.now.keyed m a.words.now a.log.now top.result _ _ _ _ _
          c.requires.fits (omega arith) c.requires.room top.ensures
          (rw (c.put_layer-at.ensures.0, c.nodes-nodes.ensures) (t.more _ _ c.make.ensures put c.put_layer-at.auto.log)),
      λ h. refl,
    )

pub returns : goal.returns
returns c =
    let a = c.args in
    let P = tree_params a.with.now.keyed in
    let m = spanned a.message.now a.span in
    let d = c.loop-levels.invariant.0.done in
    let last = c.top_level-top in
    let top : last.result ≡ length (tree P (span_bits a.message.now a.span)) =
    last.ensures.0 ∙ top_is a.with.now.keyed m c.requires.fits in
    done_all P m a.words.now a.log.now c.loop-levels.levels c.loop-levels.words c.loop-levels.log c.loop-levels.at c.loop-levels.bits d
    (omega (arith, top, d.most, c.loop-levels-test.false)) c.requires.room.words c.loop-levels.nodes c.loop-levels.invariant.1
