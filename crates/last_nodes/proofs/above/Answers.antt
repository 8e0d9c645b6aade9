-- `last_nodes::above` meets its contract.
use native.Mathlib.Omega.{arith}
use Rattle.std.proofs.Common.{refl}
use lib.Dec.{ltb}
use Rattle.climb.specs.MakeLaws.{length-log_rest, logged_rest}
use Rattle.last_nodes.specs.LastLaws.{last_fits, loop_start, loop_joins, loop_room, loop_root, loop_more, loop_never}
use Rattle.last_nodes.proofs.above.Goals as goal

pub loop-k-init : goal.loop-k-init
loop-k-init c = loop_start c.requires

pub joined_block-requires : goal.joined_block-requires
joined_block-requires c = loop_joins c.loop-k.invariant (omega arith) c.output_place.ensures

pub make_node-requires : goal.make_node-requires
make_node-requires c =
    let fits = last_fits (ltb c.args.with.now.keyed.params.limit c.loop-k.k) c.loop-k.k c.loop-k.i c.joined_block.new.block (omega arith) c.loop-k.invariant.fits (omega arith) in
    (rw c.last_place-last.ensures fits, omega (arith, loop_room c.loop-k.invariant (omega arith), length-log_rest c.loop-k.at c.loop-k.log))

pub returns-then-last-eq1 : goal.returns-then-last-eq1
returns-then-last-eq1 c =
    loop_root c.loop-k.invariant (omega arith) c.output_place.ensures
    c.joined_block.ensures
    c.last_place-last.ensures (logged_rest _ c.loop-k.at c.loop-k.log (loop_room c.loop-k.invariant (omega arith)) c.make_node.ensures refl) c.if-last-eq1.true

pub overflow_add-at : goal.overflow_add-at
overflow_add-at c = omega (arith, loop_room c.loop-k.invariant (omega arith), c.loop-k.invariant.log-length)

pub loop-k-preserved : goal.loop-k-preserved
loop-k-preserved c =
    loop_more c.loop-k.invariant (omega arith) c.output_place.ensures c.joined_block.ensures
    c.last_place-last.ensures
    (logged_rest _ c.loop-k.at c.loop-k.log (loop_room c.loop-k.invariant (omega arith)) c.make_node.ensures refl) c.if-last-eq1.false

pub returns : goal.returns
returns c = absurd (loop_never c.loop-k.invariant (omega arith))
