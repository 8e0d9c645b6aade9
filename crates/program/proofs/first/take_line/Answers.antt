-- `program::first::take_line` meets its contract, by where byte 10 ends the line.
use Rattle.std.proofs.Common.{sym, ap, ◌∙◌}
use Rattle.program.specs.Steps.{Step}
use Rattle.program.specs.Taken.{took_of}
use Rattle.program.specs.StepLaws.{no_text}
use Rattle.program.specs.ScanLaws.{scan_ended, scan_goes_on}
use Rattle.program.proofs.first.take_line.Goals as goal

pub returns-in_default : goal.returns-in_default
returns-in_default c =
    let a = c.args in
    rw c.steps.ensures
    (no_text _ a.area.now a.out.now
    ∙ ap (λ (s : Step). took_of s a.out.now) (scan_goes_on a.line a.area.now a.bytes.now (sym c.in_default.ensures)))

pub returns : goal.returns
returns c =
    let a = c.args in
    let e = scan_ended a.line a.area.now a.bytes.now c.in-Some.end (sym c.in-Some.ensures) in
    c.open_line.ensures ∙ ap (λ (s : Step). took_of s a.out.now) (rw c.steps-2.ensures e)
