-- `text::read` meets its contract.
use mathlib.Core.Path.{sym, ◌∙◌}
use Rattle.std.proofs.lemmas.Result.{err_from_is_err_and}
use Rattle.texts.proofs.ReadLaws.{read-refused}
use Rattle.text.proofs.CallLaws.{told-none, told-some, read-text, read-area, read_done}
use native.Mathlib.Omega.{arith}
use Rattle.text.proofs.read.Goals as goal

pub returns-in_err-ok_or : goal.returns-in_err-ok_or
returns-in_err-ok_or c =
    let a = c.args in
    let told = told-none _ _ c.spell_text.result _ _ (sym c.ok_or.ensures.value ∙ c.in_err-ok_or.was) c.spell_text.ensures in
    let p = err_from_is_err_and c.from_residual.result c.from_residual.ensures.1 in
    rw (p.1, p.2, told.0) (read-refused a.area.now a.text.now 11 (read-text a.area.now a.text.now told.1) (omega arith))

pub returns-then-area-n : goal.returns-then-area-n
returns-then-area-n c =
    let a = c.args in
    let told = told-some _ _ c.spell_text.result _ _ (sym c.ok_or.ensures.value ∙ c.in_ok-ok_or.was) c.spell_text.ensures in
    read-refused a.area.now a.text.now 7
    (read-area a.area.now a.text.now c.spell_text.new.area c.words-n.result c.words-n.ensures (omega (arith, c.words-n.ensures)) told c.if-area-n.true)
    (omega arith)

pub returns : goal.returns
returns c =
    let a = c.args in
    let told = told-some _ _ c.spell_text.result _ _ (sym c.ok_or.ensures.value ∙ c.in_ok-ok_or.was) c.spell_text.ensures in
    read_done a.area.now a.text.now c.spell_text.new.area c.words-n.result c.words-n.ensures (omega (arith, c.words-n.ensures)) told
    c.copy_from_slice.new.self c.copy_from_slice.ensures.after c.if-area-n.false
