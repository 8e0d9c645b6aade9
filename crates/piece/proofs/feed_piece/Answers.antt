-- `piece::feed_piece` meets its contract.
use lib.ListN.{length-set}
use Rattle.piece.specs.PieceLaws.{count_fits, fed-piece}
use native.Mathlib.Omega.{arith}
use Rattle.piece.proofs.feed_piece.Goals as goal

pub bounds-area-1 : goal.bounds-area-1
bounds-area-1 c = omega (arith, c.requires.opened.long)

pub bounds-area-14 : goal.bounds-area-14
bounds-area-14 c = omega (arith, c.requires.opened.long)

pub feed_levels-written-requires : goal.feed_levels-written-requires
feed_levels-written-requires c = c.requires

pub overflow_add-area : goal.overflow_add-area
overflow_add-area c = record { fits = c.requires.total }

pub overflow_add-area-2 : goal.overflow_add-area-2
overflow_add-area-2 c = record { fits = count_fits c.requires c.feed_levels-written.ensures }

pub bounds-area-14-2 : goal.bounds-area-14-2
bounds-area-14-2 c = simp length-set (omega (arith, c.requires.opened.long))

pub returns : goal.returns
returns c = fed-piece c.requires c.feed_levels-written.ensures
