-- `bits::fill_part` meets its contract: the store of one word fills a part of it (Filling).
use mathlib.Core.Path.{◌≡◌, sym}
use Prim.Native.Nat.{◌+◌, ◌*◌, ◌-◌}
use native.Mathlib.Omega.{arith}
use borrow.Author.Rules.{rules}
use lib.Pow.{shr_lt}
use Rattle.lists.specs.Slices.{words-below}
use Rattle.bits.specs.FilledLaws.{filled_none}
use Rattle.bits.proofs.Filling.{fill_few}
use Rattle.bits.proofs.fill_part.Goals as goal

pub returns-then-count-eq0 : goal.returns-then-count-eq0
returns-then-count-eq0 c =
    let below = words-below c.args.block.now c.type_inv.block in
    rw c.if-count-eq0.true (sym (filled_none (64 * c.args.word + c.args.offset) c.args.bytes.now (8 * c.args.from.byte + c.args.from.bit) below))

pub put_bits-requires : goal.put_bits-requires
put_bits-requires c =
    let n = c.args.count in
    let e : n + (64 - n) ≡ 64 = omega arith in
    (search rules, search rules, search rules, shr_lt n (64 - n) (rw e (omega arith)))

pub returns : goal.returns
returns c =
    let below = words-below c.args.block.now (search rules) in
    let n = c.args.count in
    rw (c.put_bits.ensures, c.word_at.ensures)
    (fill_few c.args.word c.args.offset c.args.bytes.now (8 * c.args.from.byte + c.args.from.bit) n (64 - c.args.offset - n) below (omega arith) (omega arith) (omega arith))
