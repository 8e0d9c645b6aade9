-- `bits::fill_from` meets its contract: the whole words are filled, and then the rest.
use Prim.Native.Nat.{◌+◌, ◌*◌, ◌/◌, ◌%◌}
use native.Mathlib.Omega.{arith}
use Rattle.bits.specs.FilledLaws.{filled_then}
use Rattle.bits.proofs.fill_from.Goals as goal

pub returns : goal.returns
returns c =
    let a = c.args in
    rw (c.fill_part.ensures, c.fill_words.ensures, c.after-rest.ensures.0, c.after-rest.ensures.1)
    (filled_then a.block.now (64 * a.word) a.bytes.now (8 * a.from.byte + a.from.bit) (64 * (a.count / 64)) (a.count % 64) (omega arith) (omega arith) (omega arith) (omega arith) (omega arith))
