-- `bits::fill_words` meets its contract. The invariant: the block is filled with the first 64 * i bits; a turn fills one word more (Filling).
use mathlib.Core.Path.{ap, ◌≡◌, sym, ◌∙◌}
use Prim.Native.Nat.{◌+◌, ◌*◌}
use native.Mathlib.Omega.{arith}
use lib.ListN.{length}
use Rattle.lists.specs.Slices.{words-below}
use Rattle.bits.specs.FilledLaws.{filled_none, length-filled}
use Rattle.bits.proofs.Filling.{fill_word}
use Rattle.bits.proofs.fill_words.Goals as goal

pub loop-i-init : goal.loop-i-init
loop-i-init c =
    let below = words-below c.args.block.now c.type_inv.block in
    sym (filled_none (64 * c.args.word) c.args.bytes.now (8 * c.args.from.byte + c.args.from.bit) below)

pub bounds-block-word : goal.bounds-block-word
bounds-block-word c = omega (arith, ap length c.loop-i.invariant, length-filled c.args.block.now (64 * c.args.word) c.args.bytes.now (8 * c.args.from.byte + c.args.from.bit) (64 * c.loop-i.i))

pub loop-i-preserved : goal.loop-i-preserved
loop-i-preserved c =
    let i = c.loop-i.i in
    let a : 8 * (c.args.from.byte + 8 * i) + c.args.from.bit ≡ 8 * c.args.from.byte + c.args.from.bit + 64 * i = omega arith in
    rw (c.loop-i.invariant, c.whole_at.ensures, c.after.ensures.0, c.after.ensures.1, a) (fill_word c.args.block.now c.args.word c.args.bytes.now (8 * c.args.from.byte + c.args.from.bit) i (omega arith) (omega arith))

pub shape_of-block : goal.shape_of-block
shape_of-block c = ap length c.loop-i.invariant ∙ length-filled c.args.block.now (64 * c.args.word) c.args.bytes.now (8 * c.args.from.byte + c.args.from.bit) (64 * c.loop-i.i)

pub returns : goal.returns
returns c =
    let i = c.loop-i.i in
    let e : i ≡ c.args.words = omega arith in
    rw (← e) c.loop-i.invariant
