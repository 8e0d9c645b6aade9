-- `piece::feed_levels` meets its contract.
use mathlib.Core.Path.{refl, sym}
use lib.ListN.{get_or}
use Rattle.lists.specs.Slices.{words-below}
use Rattle.bits.specs.PieceLaws.{spanned}
use Rattle.climb.specs.FlushLaws.{le_at}
use Rattle.climb.specs.OpenArea.{keyed_of}
use Rattle.piece.specs.FeedSteps.{free_le, base_place}
use Rattle.piece.specs.ChunkLaws.{chunk_free}
use Rattle.piece.specs.PieceLaws.{fed-read, whole_part}
use native.Mathlib.Omega.{arith}
use borrow.Author.Rules.{rules}
use Rattle.piece.proofs.feed_levels.Goals as goal

pub bounds-area-4 : goal.bounds-area-4
bounds-area-4 c = omega (arith, c.requires.opened.long)

pub bounds-area-1 : goal.bounds-area-1
bounds-area-1 c = omega (arith, c.requires.opened.long)

pub feed_nodes-requires : goal.feed_nodes-requires
feed_nodes-requires c = c.requires

pub returns-then-free-span : goal.returns-then-free-span
returns-then-free-span c = c.feed_nodes.ensures

pub overflow_sub-free : goal.overflow_sub-free
overflow_sub-free c =
    let area = c.args.area.now in
    le_at (sym c.free_of-free.ensures) refl (free_le (get_or area 4 0) (get_or area 1 0))

pub fill_level-requires : goal.fill_level-requires
fill_level-requires c =
    let area = c.args.area.now in
    (record { long = c.requires.opened.long; bits = record { low = omega (arith, c.requires.bits.low); inside = omega (arith, c.requires.bits.inside) } }, base_place (le_at (sym c.free_of-free.ensures) refl (free_le (get_or area 4 0) (get_or area 1 0))) c.if-free-span.false)

pub returns : goal.returns
returns c =
    let a = c.args in
    let area = a.area.now in
    rw (fed-read area (spanned a.piece.now a.span)) at
    (chunk_free (whole_part c.requires) (words-below area (search rules)) (keyed_of area) (get_or area 1 0) a.log.now 0 c.free_of-free.ensures c.if-free-span.false c.fill_level.ensures)
