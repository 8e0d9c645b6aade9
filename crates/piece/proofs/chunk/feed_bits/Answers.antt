-- `piece::chunk::feed_bits` meets its contract.
use Rattle.std.proofs.Common.{◌+◌, ◌≤◌, refl, sym, arith}
use Rattle.bits.specs.Piece.{piece_bits}
use Rattle.bits.specs.PieceLaws.{spanned}
use Rattle.node.specs.Words.{tree_params}
use Rattle.climb.specs.Left.{left_rest}
use Rattle.climb.specs.FlushLaws.{le_at}
use Rattle.piece.specs.FeedSteps.{room_some, fits_sum, some_less, less_left}
use Rattle.piece.specs.ChunkLaws.{feeding_none, next_room, next-chunk, feeding_more, feeding_all, lent_rest, chunk_rest}
use Rattle.piece.proofs.chunk.feed_bits.Goals as goal

pub loop-done-init : goal.loop-done-init
loop-done-init c =
    let a = c.args in
    feeding_none (tree_params a.with.now.keyed) a.total (piece_bits (spanned a.piece.now a.span)) a.area.now a.log.now

pub overflow_add-before : goal.overflow_add-before
overflow_add-before c = fits_sum c.args.total c.requires.total c.loop-done-test.true

pub overflow_add-past : goal.overflow_add-past
overflow_add-past c = record { fits = omega (arith, c.requires.bits.low) }

pub feed_chunk-at-requires : goal.feed_chunk-at-requires
feed_chunk-at-requires c =
    let a = c.args in
    let r = c.room_of-room.ensures in
    let within : c.loop-done.done + c.min-bits.result ≤ a.span.bits = omega (arith, c.min-bits.ensures) in
    let some = some_less c.min-bits.ensures (le_at refl (sym r) (room_some a.with.now.keyed.params.limit (a.total + c.loop-done.done))) c.loop-done-test.true in
    rw (lent_rest _ c.args.piece.now) (chunk_rest (next-chunk c.requires c.loop-done.invariant within some (le_at refl r (omega (arith, c.min-bits.ensures)))))

pub overflow_add-done : goal.overflow_add-done
overflow_add-done c = record { fits = omega (arith, c.min-bits.ensures, c.requires.total) }

pub overflow_add-at : goal.overflow_add-at
overflow_add-at c =
    let within : c.loop-done.done + c.min-bits.result ≤ c.args.span.bits = omega (arith, c.min-bits.ensures) in
    let chunk = rw (lent_rest _ c.args.piece.now) at c.feed_chunk-at.ensures in
    omega (arith, next_room c.requires c.loop-done.invariant c.min-bits.result within, chunk.next)

pub loop-done-smaller : goal.loop-done-smaller
loop-done-smaller c =
    let a = c.args in
    let room = le_at refl (sym c.room_of-room.ensures) (room_some a.with.now.keyed.params.limit (a.total + c.loop-done.done)) in
    less_left c.loop-done-test.true (some_less c.min-bits.ensures room c.loop-done-test.true)

pub loop-done-preserved : goal.loop-done-preserved
loop-done-preserved c =
    let within : c.loop-done.done + c.min-bits.result ≤ c.args.span.bits = omega (arith, c.min-bits.ensures) in
    feeding_more c.requires c.loop-done.invariant c.min-bits.result within (left_rest c.loop-done.at (next_room c.requires c.loop-done.invariant c.min-bits.result within) (rw (lent_rest _ c.args.piece.now) at c.feed_chunk-at.ensures) refl)

pub shape_of-area : goal.shape_of-area
shape_of-area c = c.loop-done.invariant.area-length

pub shape_of-log : goal.shape_of-log
shape_of-log c = c.loop-done.invariant.log-length

pub returns : goal.returns
returns c = feeding_all c.requires c.loop-done.invariant c.loop-done-test.false
