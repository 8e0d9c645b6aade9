-- `text::spell::spell_text` answers by the tests of Readable.
use mathlib.Core.Path.{sym, ap, ◌∙◌}
use lib.ListN.{length}
use Rattle.text.proofs.Readable.{not-read, other_text, decided}
use native.Mathlib.Omega.{arith}
use Rattle.text.proofs.spell.spell_text.Goals as goal

pub returns-in_err-spell_area : goal.returns-in_err-spell_area
returns-in_err-spell_area c =
    let f = c.form_by_end-form in
    rw c.from_residual.ensures (not-read f.result.width c.args.text.now f.ensures c.in_err-spell_area.ensures)

pub returns-then-not-writes : goal.returns-then-not-writes
returns-then-not-writes c =
    let f = c.form_by_end-form in
    let s = c.spell_area in
    other_text f.result.width c.args.text.now f.ensures s.new.area (omega (arith, ap length c.requires)) c.in_ok-spell_area.ensures.0
    (sym c.if-not-writes.true ∙ c.writes.ensures)

pub returns : goal.returns
returns c =
    let f = c.form_by_end-form in
    let s = c.spell_area in
    rw c.then_some.ensures
    (decided f.result.width c.args.text.now f.ensures s.new.area (omega (arith, ap length c.requires)) c.in_ok-spell_area.ensures.0
    c.is_sound-fits.result c.is_sound-fits.ensures (sym c.if-not-writes.false ∙ c.writes.ensures))
