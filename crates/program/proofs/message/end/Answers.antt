-- `program::message::end` meets its contract, by what `stream::end` answers.
use Rattle.std.proofs.Common.{refl, sym, arith, length-take-le}
use Rattle.refusals.specs.RefusalLaws.{number_not0}
use Rattle.program.specs.StepLaws.{end-room, end-size, end_refuses, end-gives}
use Rattle.program.proofs.message.end.Goals as goal

pub returns-in-Err : goal.returns-in-Err
returns-in-Err c =
    end_refuses c.args.area.now c.in-Err.ensures c.args.out.now (number_not0 c.in-Err.refusal) (rw c.number.ensures at c.refused_number.ensures)

pub digest_bytes-n-requires : goal.digest_bytes-n-requires
digest_bytes-n-requires c =
    let s = end-size c.args.area.now c.in-Ok.ensures refl in
    omega arith

pub overflow_mul-log : goal.overflow_mul-log
overflow_mul-log c =
    let r = end-room c.args.area.now c.in-Ok.ensures refl in
    record { fits = omega arith }

pub slice_bounds-log-end : goal.slice_bounds-log-end
slice_bounds-log-end c =
    let r = end-room c.args.area.now c.in-Ok.ensures refl in
    omega arith

pub slice_bounds-last-end : goal.slice_bounds-last-end
slice_bounds-last-end c =
    let r = end-room c.args.area.now c.in-Ok.ensures refl in
    sym (length-take-le _ _ (omega arith))

pub slice_bounds-digest-end : goal.slice_bounds-digest-end
slice_bounds-digest-end c =
    let s = end-size c.args.area.now c.in-Ok.ensures refl in
    omega (arith, c.digest_bytes-n.ensures)

pub slice_bounds-last-end-in-Ok : goal.slice_bounds-last-end-in-Ok
slice_bounds-last-end-in-Ok c =
    let s = end-size c.args.area.now c.in-Ok.ensures refl in
    sym (length-take-le _ _ (omega (arith, c.digest_bytes-n.ensures)))

pub returns-in-Ok : goal.returns-in-Ok
returns-in-Ok c =
    end-gives c.args.area.now c.in-Ok.ensures c.args.out.now refl (omega arith) c.digest_bytes-n.ensures c.last.ensures
