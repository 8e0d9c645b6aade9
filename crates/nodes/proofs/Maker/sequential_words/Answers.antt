-- `nodes::Maker::sequential_words` meets its contract: above L = 0 the first 48 words of those that have room for four children.
use Rattle.shape.specs.Shape.{taken}
use Rattle.shape.specs.ShapeLaws.{message-index, third-index, sequential-index}
use Rattle.nodes.specs.SequentialLaws.{words-message, words_children}
use Rattle.nodes.specs.BlockLaws.{child_fewer, length-values}
use Rattle.nodes.specs.Value.{level_values}
use Rattle.nodes.specs.Making.{maker_params, maker_limit, maker_bits}
use Rattle.bits.specs.Piece.{piece_bits}
use Rattle.bits.specs.PieceLaws.{spanned}
use lib.ListN.{take}
use lib.Seq.{length-take-le}
use Prim.Native.Nat.{ℕ, ◌*◌, ◌<◌}
use mathlib.Core.Path.{sym, ap, ◌∙◌}
use native.Mathlib.Omega.{arith}
use borrow.Author.Rules.{rules}
use Rattle.nodes.proofs.Maker.sequential_words.Goals as goal

pub message_words-requires : goal.message_words-requires
message_words-requires c =
    let bits = c.args.self.now.span.bits in
    (omega arith, (omega arith, message-index bits c.args.index (rw c.if-limit-eq0.true at c.requires)))

pub returns-then-limit-eq0 : goal.returns-then-limit-eq0
returns-then-limit-eq0 c =
    let a = c.args in
    let M = maker_bits a.self.now in
    c.message_words.ensures ∙ words-message (maker_params a.self.now) (maker_limit a.self.now) M a.index c.if-limit-eq0.true

pub taken-n-requires : goal.taken-n-requires
taken-n-requires c =
    let a = c.args in
    rw c.nodes_at.ensures
    (third-index (maker_limit a.self.now) a.self.now.span.bits a.index (omega (arith, c.if-limit-eq0.false)) c.requires)

pub overflow_mul-index : goal.overflow_mul-index
overflow_mul-index c =
    let a = c.args in
    let i = sequential-index (maker_limit a.self.now) a.self.now.span.bits a.index a.self.now.counted c.requires in
    record { fits = omega (arith, i) }

pub values-children-requires : goal.values-children-requires
values-children-requires c =
    let a = c.args in
    let n = c.taken-n.ensures in
    let some : 0 < (maker_limit a.self.now) = omega (arith, c.if-limit-eq0.false) in
    let i = third-index (maker_limit a.self.now) a.self.now.span.bits a.index some c.requires in
    let high = c.args.self.now.with.now.ready.range.limit_high in
    (some, omega (arith, high), omega (arith, n), omega (arith, i, n, c.nodes_at.ensures))

pub slice_bounds-copy_from_slice-end-2 : goal.slice_bounds-copy_from_slice-end-2
slice_bounds-copy_from_slice-end-2 c = let W = c.values-children.result in sym (length-take-le 48 W (search rules))

pub copy_from_slice-requires : goal.copy_from_slice-requires
copy_from_slice-requires c = let W = c.values-children.result in omega (arith, length-take-le 48 W (search rules))

pub returns : goal.returns
returns c =
    let a = c.args in
    let W = c.values-children.result in
    let n = c.taken-n.result in
    let limit = (maker_limit a.self.now) in
    let P = maker_params a.self.now in
    let m = spanned a.self.now.message.now a.self.now.span in
    let some : 0 < (maker_limit a.self.now) = omega (arith, c.if-limit-eq0.false) in
    c.copy_from_slice.ensures.after
    ∙ ap (take 48) c.values-children.ensures
    ∙ child_fewer (level_values P (piece_bits m) limit) 3 (3 * a.index) n (length-values P (piece_bits m) limit some)
    (omega (arith, c.taken-n.ensures))
    ∙ words_children P limit m a.index n some a.self.now.fits
    (c.taken-n.ensures ∙ ap (λ (c : ℕ). taken 3 c a.index) c.nodes_at.ensures)
