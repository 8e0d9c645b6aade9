-- `bits::whole_at` meets its contract: eight bytes and the next give any 64 bits that begin in the first byte (Reading).
use mathlib.Core.Path.{◌∙◌}
use Prim.Native.Nat.{◌*◌}
use native.Mathlib.Nat.{add-zero}
use native.Mathlib.Omega.{arith}
use Rattle.lists.specs.Slices.{bytes_below}
use Rattle.bits.proofs.Reading.{eight_read, word_read}
use Rattle.bits.proofs.whole_at.Goals as goal

pub returns-then-from-eq0 : goal.returns-then-from-eq0
returns-then-from-eq0 c =
    let j = c.args.from.byte in
    let below = bytes_below c.args.bytes.now c.type_inv.bytes in
    rw (c.if-from-eq0.true, add-zero (8 * j)) (c.load-word.ensures ∙ eight_read j below (omega arith))

pub returns : goal.returns
returns c =
    let below = bytes_below c.args.bytes.now c.type_inv.bytes in
    c.shifted.ensures ∙ rw c.load-word.ensures (word_read c.args.from.byte c.args.from.bit below (omega arith) (omega arith))
