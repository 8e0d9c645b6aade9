-- `program::first::open_line` meets its contract: a line that cannot be read is refused, and another opens a stream.
use Rattle.std.proofs.Common.{refl, sym, ap, ◌∙◌, unwrap_or}
use Rattle.line.specs.FoldLaws.{within}
use Rattle.refusals.specs.RefusalLaws.{number_not0}
use Rattle.program.specs.Steps.{Step}
use Rattle.program.specs.Taken.{took_of}
use Rattle.program.specs.StepLaws.{open_refuses, open_gives, line_refuses, said_params, line-opens}
use Rattle.program.proofs.first.open_line.Goals as goal

pub returns-in_default : goal.returns-in_default
returns-in_default c = line_refuses c.args.line c.args.area.now c.args.rest.now c.args.out.now (sym c.in_default.ensures) c.refused_line.ensures

pub shared_ref_as_front-key : goal.shared_ref_as_front-key
shared_ref_as_front-key c = within c.args.line c.in-Some.said (sym c.in-Some.ensures)

pub returns-in-Err : goal.returns-in-Err
returns-in-Err c =
    let a = c.args in
    let P = said_params c.in-Some.said a.line.key.bytes c.unwrap_or-rounds.result in
    let e = c.unwrap_or-rounds.ensures ∙ ap (unwrap_or c.in-Some.said.rounds) c.rounds_by_default.ensures in
    let r = c.refuse.ensures in
    rw r.0
    (open_refuses a.area.now P a.rest.now c.in-Err.ensures a.out.now (number_not0 c.in-Err.refusal) r.1
    ∙ line-opens a.line a.area.now a.rest.now a.out.now c.in-Some.said c.in-Some.ensures e)

pub returns-in-Ok : goal.returns-in-Ok
returns-in-Ok c =
    let a = c.args in
    let P = said_params c.in-Some.said a.line.key.bytes c.unwrap_or-rounds.result in
    let e = c.unwrap_or-rounds.ensures ∙ ap (unwrap_or c.in-Some.said.rounds) c.rounds_by_default.ensures in
    c.feed.ensures
    ∙ ap (λ (s : Step). took_of s a.out.now) (open_gives a.area.now P a.rest.now c.in-Ok.ensures refl)
    ∙ line-opens a.line a.area.now a.rest.now a.out.now c.in-Some.said c.in-Some.ensures e
