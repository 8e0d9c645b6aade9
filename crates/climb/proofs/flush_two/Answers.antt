-- `climb::flush_two` meets its contract: the second output is passed on where the first has left the log.
use native.Mathlib.Omega.{arith}
use Rattle.area.specs.CountLaws.{done-fits}
use Rattle.std.proofs.Common.{refl}
use Rattle.climb.specs.MakeLaws.{length-log_rest}
use Rattle.climb.specs.Left.{left_rest}
use Rattle.climb.specs.PassLaws.{passing_rest}
use Rattle.climb.specs.FlushLaws.{first-passing, second-passing, second-passed}
use Rattle.climb.proofs.flush_two.Goals as goal

pub overflow_add-done : goal.overflow_add-done
overflow_add-done c = omega (arith, c.done_blocks-done.ensures, (done-fits c.args.total c.ranges.total.fits).0)

pub compress_two-two-requires : goal.compress_two-two-requires
compress_two-two-requires c =
    let small = (done-fits c.args.total c.ranges.total.fits).0 in (
      rw c.full_place.ensures (omega (arith, c.done_blocks-done.ensures, small, c.requires.words)),
      rw c.full_place-2.ensures (omega (arith, c.done_blocks-done.ensures, small)),
    )

pub pass_on-after-requires : goal.pass_on-after-requires
pass_on-after-requires c =
    first-passing c.requires c.done_blocks-done.ensures c.full_place.ensures c.full_place-2.ensures
    c.level.ensures.level_part.words (c.compress_two-two.ensures.first, c.compress_two-two.ensures.second) c.ranges.total.fits

pub overflow_add-done-2 : goal.overflow_add-done-2
overflow_add-done-2 c = omega (arith, c.done_blocks-done.ensures, (done-fits c.args.total c.ranges.total.fits).0)

pub pass_on-requires : goal.pass_on-requires
pass_on-requires c =
    let log = c.pass_on-after.new.log in
    let after = c.pass_on-after.result in
    passing_rest (second-passing c.requires c.done_blocks-done.ensures c.full_place.ensures c.full_place-2.ensures
    c.level.ensures.level_part.words (c.compress_two-two.ensures.first, c.compress_two-two.ensures.second) c.pass_on-after.ensures.passed c.ranges.total.fits)
    (omega (arith, length-log_rest after log))

pub returns : goal.returns
returns c =
    let room = (second-passing c.requires c.done_blocks-done.ensures c.full_place.ensures c.full_place-2.ensures
    c.level.ensures.level_part.words (c.compress_two-two.ensures.first, c.compress_two-two.ensures.second) c.pass_on-after.ensures.passed c.ranges.total.fits).room in
    second-passed c.requires c.done_blocks-done.ensures c.full_place.ensures
    c.full_place-2.ensures
    c.level.ensures.level_part.words (c.compress_two-two.ensures.first, c.compress_two-two.ensures.second) c.pass_on-after.ensures.passed (left_rest c.pass_on-after.result room c.pass_on.ensures.passed refl)
