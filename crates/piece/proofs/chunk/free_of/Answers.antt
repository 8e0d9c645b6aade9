-- `piece::chunk::free_of` meets its contract.
use Rattle.piece.specs.FeedSteps.{size_of, held_le, size_pos}
use mathlib.Core.Path.{refl, sym, ap, ◌∙◌}
use Prim.Native.Nat.{ℕ, ◌-◌}
use Rattle.calls.specs.Area.{held_bits}
use Rattle.climb.specs.FlushLaws.{lt_at, le_at}
use Rattle.piece.proofs.chunk.free_of.Goals as goal

pub held_bits-requires : goal.held_bits-requires
held_bits-requires c = lt_at refl (sym c.size_of-size.ensures) (size_pos c.args.limit).0

pub overflow_sub-result : goal.overflow_sub-result
overflow_sub-result c =
    let S = c.size_of-size.ensures in
    let H = c.held_bits.ensures ∙ ap (λ (s : ℕ). held_bits s c.args.total) S in
    le_at (sym H) (sym S) (held_le c.args.limit c.args.total)

pub returns : goal.returns
returns c =
    let S = c.size_of-size.ensures in
    let H = c.held_bits.ensures ∙ ap (λ (s : ℕ). held_bits s c.args.total) S in
    ap (λ (x : ℕ). x - c.held_bits.result) S ∙ ap (λ (x : ℕ). size_of c.args.limit - x) H
