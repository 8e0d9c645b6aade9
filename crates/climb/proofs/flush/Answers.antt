-- `climb::flush` meets its contract.
use native.Mathlib.Omega.{arith}
use Rattle.area.specs.CountLaws.{done-fits}
use Rattle.climb.specs.FlushLaws.{flush_room, flush_chained, flush_passing, flush_passed}
use Rattle.climb.proofs.flush.Goals as goal

pub make_level-last-requires : goal.make_level-last-requires
make_level-last-requires c = omega (arith, flush_room c.requires c.if-with-lt1.true, c.done_blocks-done.ensures, (done-fits c.args.total c.ranges.total.fits).1)

pub returns-then-with-lt1 : goal.returns-then-with-lt1
returns-then-with-lt1 c = flush_chained c.requires c.if-with-lt1.true c.done_blocks-done.ensures c.make_level-last.ensures c.chain_level.ensures

pub compress_node-made-requires : goal.compress_node-made-requires
compress_node-made-requires c = rw c.full_place.ensures (omega (arith, c.done_blocks-done-2.ensures, (done-fits c.args.total c.ranges.total.fits).0))

pub pass_on-requires : goal.pass_on-requires
pass_on-requires c =
    flush_passing c.requires c.if-with-lt1.false c.done_blocks-done-2.ensures c.full_place.ensures
    c.level.ensures.level_part.words
    c.compress_node-made.ensures c.ranges.total.fits

pub returns : goal.returns
returns c =
    flush_passed c.requires c.if-with-lt1.false c.done_blocks-done-2.ensures
    c.full_place.ensures
    c.level.ensures.level_part.words c.compress_node-made.ensures c.pass_on.ensures.passed
