-- `text::write` meets its contract.
use mathlib.Core.Path.{sym, ap, ◌∙◌}
use lib.Seq.{length-take-le}
use Rattle.std.proofs.lemmas.Result.{err_from_is_err_and}
use Rattle.refusals.specs.Refusals.{told_number}
use Rattle.refusals.specs.RefusalLaws.{number_not0}
use Rattle.area.specs.SoundLaws.{sound-passed}
use Rattle.texts.proofs.ReadLaws.{write-refused}
use Rattle.text.proofs.CallLaws.{write_unsound, write-output, write_done}
use native.Mathlib.Omega.{arith}
use Rattle.text.proofs.write.Goals as goal

pub returns-in_err-check_sound : goal.returns-in_err-check_sound
returns-in_err-check_sound c =
    let a = c.args in
    let number = sym (ap told_number c.in_err-check_sound.was) ∙ c.check_sound.ensures in
    let p = err_from_is_err_and c.from_residual.result c.from_residual.ensures.1 in
    rw (p.1, p.2) (write-refused a.area.now a.text.now _ (write_unsound a.area.now a.text.now number (number_not0 _)) (number_not0 _))

pub text_bytes-bytes-requires : goal.text_bytes-bytes-requires
text_bytes-bytes-requires c = (sound-passed c.args.area.now c.check_sound.ensures (ap told_number c.in_ok-check_sound.was)).long

pub returns-then-text-bytes : goal.returns-then-text-bytes
returns-then-text-bytes c =
    let a = c.args in
    let s = sound-passed a.area.now c.check_sound.ensures (ap told_number c.in_ok-check_sound.was) in
    write-refused a.area.now a.text.now 9 (write-output a.area.now a.text.now s (omega (arith, c.text_bytes-bytes.ensures, c.if-text-bytes.true))) (omega arith)

pub put_text-requires : goal.put_text-requires
put_text-requires c =
    let a = c.args in
    let s = sound-passed a.area.now c.check_sound.ensures (ap told_number c.in_ok-check_sound.was) in
    (s.long, length-take-le c.text_bytes-bytes.result a.text.now c.if-text-bytes.false ∙ c.text_bytes-bytes.ensures)

pub returns : goal.returns
returns c =
    let a = c.args in
    let s = sound-passed a.area.now c.check_sound.ensures (ap told_number c.in_ok-check_sound.was) in
    write_done a.area.now a.text.now c.text_bytes-bytes.result c.put_text.new.part s c.text_bytes-bytes.ensures c.if-text-bytes.false c.put_text.ensures
