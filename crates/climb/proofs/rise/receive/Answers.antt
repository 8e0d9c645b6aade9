-- `climb::rise::receive` meets its contract.
use Rattle.std.proofs.Common.{false, refl, arith}
use Rattle.climb.specs.MakeLaws.{length-log_rest, logged_rest}
use Rattle.climb.specs.ReceiveLaws.{coming-joins, coming_rest, climbed_rest, joined-level, climb-start, climb-coming, climb-end, climb-part, climb-room, climb-more, climb_none}
use Rattle.climb.proofs.rise.receive.Goals as goal

pub loop-k-init : goal.loop-k-init
loop-k-init c = climb-start c.requires

pub receive_last-requires : goal.receive_last-requires
receive_last-requires c = record { coming = coming_rest (climb-coming c.loop-k.invariant (omega arith)); sequential = c.if-with-k.true }

pub overflow_add-result : goal.overflow_add-result
overflow_add-result c = omega (arith, c.loop-k.invariant.room, c.receive_last.ensures.next)

pub returns-then-with-k : goal.returns-then-with-k
returns-then-with-k c = climb-end c.loop-k.invariant (climbed_rest c.loop-k.at c.loop-k.invariant.room c.receive_last.ensures refl)

pub join-requires : goal.join-requires
join-requires c = coming-joins (climb-coming c.loop-k.invariant (omega arith)) false c.output_place.ensures

pub returns-then-i-ne3 : goal.returns-then-i-ne3
returns-then-i-ne3 c = climb-part c.loop-k.invariant c.if-with-k.false (omega arith) c.output_place.ensures c.join.ensures c.if-i-ne3.true

pub make_level-out-requires : goal.make_level-out-requires
make_level-out-requires c =
    let here = joined-level (coming-joins (climb-coming c.loop-k.invariant (omega arith)) false c.output_place.ensures) c.join.ensures in
    (here, omega (arith, c.loop-k.invariant.small), omega (arith, climb-room c.loop-k.invariant c.if-with-k.false (omega arith) c.if-i-ne3.false, length-log_rest c.loop-k.at c.loop-k.log))

pub clear_level-requires : goal.clear_level-requires
clear_level-requires c = joined-level (coming-joins (climb-coming c.loop-k.invariant (omega arith)) false c.output_place.ensures) c.join.ensures

pub overflow_add-at : goal.overflow_add-at
overflow_add-at c = omega (arith, climb-room c.loop-k.invariant c.if-with-k.false (omega arith) c.if-i-ne3.false)

pub loop-k-preserved : goal.loop-k-preserved
loop-k-preserved c =
    let room = climb-room c.loop-k.invariant c.if-with-k.false (omega arith) c.if-i-ne3.false in
    climb-more c.loop-k.invariant c.if-with-k.false (omega arith) c.output_place.ensures c.join.ensures
    c.if-i-ne3.false (logged_rest _ c.loop-k.at c.loop-k.log room c.make_level-out.ensures refl) c.clear_level.ensures

pub returns : goal.returns
returns c = climb_none c.loop-k.invariant (omega arith)
