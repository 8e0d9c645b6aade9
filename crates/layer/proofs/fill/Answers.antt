-- `layer::fill` meets its contract.
use mathlib.Core.Path.{refl, ◌∙◌}
use native.Mathlib.Omega.{arith}
use Rattle.lists.specs.Slices.{words-below}
use Rattle.layer.specs.IndexLaws.{fill_message, fill_above}
use Rattle.layer.proofs.fill.Goals as goal

pub returns-then-layer-eq1 : goal.returns-then-layer-eq1
returns-then-layer-eq1 c =
    let a = c.args in
    c.fill.ensures
    ∙ fill_message a.message.now a.words.now a.part.now a.layer a.index c.taken-n.result
    c.requires.source.0 c.requires.source.1 c.requires.part.0 c.requires.part.1 c.taken-n.ensures _ refl c.if-layer-eq1.true

pub returns : goal.returns
returns c =
    let a = c.args in
    fill_above a.message.now a.words.now a.part.now a.layer a.index c.taken-n.result
    c.requires.source.0 c.requires.source.1 c.requires.part.0 c.requires.part.1 c.taken-n.ensures _ _ _ c.copy_from_slice.ensures.after refl (omega arith)
    c.if-layer-eq1.false (words-below a.words.now c.type_inv.words)
