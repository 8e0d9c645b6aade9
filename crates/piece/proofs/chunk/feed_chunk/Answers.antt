-- `piece::chunk::feed_chunk` meets its contract: level 1 takes the bits, is flushed before, or two nodes are made.
use mathlib.Core.Path.{refl, sym, ap, ◌∙◌}
use Prim.Native.Nat.{ℕ, ◌-◌, ◌<◌}
use native.Mathlib.Omega.{arith}
use borrow.Author.Rules.{rules}
use Rattle.std.proofs.Common.{length-drop}
use Rattle.lists.specs.Slices.{words-below}
use Rattle.tree.specs.Tree.{block_bits}
use Rattle.climb.specs.FlushLaws.{lt_at, le_at}
use Rattle.piece.specs.FeedSteps.{free_le, room_free, room-full, next_one, size_pos, base_place}
use Rattle.piece.specs.ChunkLaws.{chunk_free, chunk-room, flushed-long, chunk-full, two_flushing, both_long, two-most, chunk-two, lent_rest}
use Rattle.piece.proofs.chunk.feed_chunk.Goals as goal

pub overflow_sub-free : goal.overflow_sub-free
overflow_sub-free c = le_at (sym c.free_of-free.ensures) refl (free_le c.args.with.now.keyed.params.limit c.args.total)

pub fill_level-requires : goal.fill_level-requires
fill_level-requires c =
    let a = c.args in
    let F = c.free_of-free.ensures in
    let r = room_free a.with.now.keyed.params.limit a.total (lt_at refl F c.if-free-gt0.true) in
    (c.requires.part, base_place (le_at (sym F) refl (free_le a.with.now.keyed.params.limit a.total)) (le_at refl (r ∙ sym F) c.requires.most))

pub returns-then-free-gt0 : goal.returns-then-free-gt0
returns-then-free-gt0 c =
    let a = c.args in
    let F = c.free_of-free.ensures in
    let m = le_at refl (room_free a.with.now.keyed.params.limit a.total (lt_at refl F c.if-free-gt0.true) ∙ sym F) c.requires.most in
    chunk_free c.requires.part (words-below a.area.now (search rules)) a.with.now.keyed a.total a.log.now 0 F m
    c.fill_level.ensures

pub level-requires : goal.level-requires
level-requires c = omega (arith, c.requires.part.long)

pub fill_level-requires-then-span-gt-BITS : goal.fill_level-requires-then-span-gt-BITS
fill_level-requires-then-span-gt-BITS c =
    let p = c.requires.part in
    (record { long = p.long; bits = record { low = p.bits.low; inside = omega (arith, p.bits.inside) } }, omega arith)

pub flush_two-next-requires : goal.flush_two-next-requires
flush_two-next-requires c =
    two_flushing c.requires (le_at c.free_of-free.ensures refl c.if-free-gt0.false) (omega arith)
    ((c.copy_from_slice.ensures.after ∙ c.level.ensures.level_part.words)) c.fill_level-then-span-gt-BITS.ensures

pub overflow_sub-bits : goal.overflow_sub-bits
overflow_sub-bits c = omega arith

pub fill_level-requires-then-span-gt-BITS-2 : goal.fill_level-requires-then-span-gt-BITS-2
fill_level-requires-then-span-gt-BITS-2 c =
    let p = c.requires in
    let full = le_at c.free_of-free.ensures refl c.if-free-gt0.false in
    let more : block_bits < c.args.span.bits = omega arith in
    let held = (c.copy_from_slice.ensures.after ∙ c.level.ensures.level_part.words) in (
      record { long = both_long p full more held c.fill_level-then-span-gt-BITS.ensures c.flush_two-next.ensures; bits = record { low = p.part.bits.low; inside = rw (lent_rest 512 c.args.piece.now, length-drop) (omega (arith, p.part.bits.inside, more)) } },
      omega (arith, two-most p full more),
    )

pub returns-then-span-gt-BITS : goal.returns-then-span-gt-BITS
returns-then-span-gt-BITS c =
    chunk-two c.requires (le_at c.free_of-free.ensures refl c.if-free-gt0.false) (omega arith)
    ((c.copy_from_slice.ensures.after ∙ c.level.ensures.level_part.words)) c.fill_level-then-span-gt-BITS.ensures c.flush_two-next.ensures (lent_rest 512 c.args.piece.now) c.fill_level-then-span-gt-BITS-2.ensures

pub flush-next-requires : goal.flush-next-requires
flush-next-requires c = record { long = c.requires.part.long; own = c.requires.own; room = chunk-room c.requires (le_at c.free_of-free.ensures refl c.if-free-gt0.false) (omega (arith, c.if-span-gt-BITS.false)) }

pub overflow_sub-size : goal.overflow_sub-size
overflow_sub-size c = le_at (sym c.size_of-size.ensures) refl (size_pos c.args.with.now.keyed.params.limit).1

pub fill_level-requires-2 : goal.fill_level-requires-2
fill_level-requires-2 c =
    let a = c.args in
    let S = c.size_of-size.ensures in
    let full = le_at c.free_of-free.ensures refl c.if-free-gt0.false in
    let m = next_one a.with.now.keyed.params.limit (le_at refl (room-full a.with.now.keyed.params.limit a.total full) c.requires.most) (omega (arith, c.if-span-gt-BITS.false)) in (
      record { long = flushed-long c.requires full (omega (arith, c.if-span-gt-BITS.false)) c.flush-next.ensures; bits = c.requires.part.bits },
      base_place (le_at (sym S) refl (size_pos a.with.now.keyed.params.limit).1) (le_at refl (sym S) m),
    )

pub returns : goal.returns
returns c =
    chunk-full c.requires (le_at c.free_of-free.ensures refl c.if-free-gt0.false) (omega (arith, c.if-span-gt-BITS.false))
    c.flush-next.ensures (ap (λ (x : ℕ). block_bits - x) c.size_of-size.ensures) c.fill_level-2.ensures
