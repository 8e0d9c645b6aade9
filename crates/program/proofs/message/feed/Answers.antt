-- `program::message::feed` meets its contract, by what `stream::feed` answers.
use Rattle.std.proofs.Common.{refl, sym, arith, length-take-le}
use Rattle.refusals.specs.RefusalLaws.{number_not0}
use Rattle.program.specs.StepLaws.{feed-room, feed_refuses, feed-gives}
use Rattle.program.proofs.message.feed.Goals as goal

pub returns-in-Err : goal.returns-in-Err
returns-in-Err c =
    let r = c.refuse.ensures in
    rw r.0 (feed_refuses c.args.area.now c.args.bytes.now c.in-Err.ensures c.args.out.now (number_not0 c.in-Err.refusal) r.1)

pub overflow_mul-log : goal.overflow_mul-log
overflow_mul-log c =
    let r = feed-room c.args.area.now c.args.bytes.now c.in-Ok.ensures refl in
    record { fits = omega arith }

pub slice_bounds-log-end : goal.slice_bounds-log-end
slice_bounds-log-end c =
    let r = feed-room c.args.area.now c.args.bytes.now c.in-Ok.ensures refl in
    omega arith

pub slice_bounds-nodes-end : goal.slice_bounds-nodes-end
slice_bounds-nodes-end c =
    let r = feed-room c.args.area.now c.args.bytes.now c.in-Ok.ensures refl in
    sym (length-take-le _ _ (omega arith))

pub returns-in-Ok : goal.returns-in-Ok
returns-in-Ok c =
    feed-gives c.args.area.now c.args.bytes.now c.in-Ok.ensures c.args.out.now refl (omega arith) c.nodes.ensures
