-- `bits::fill` meets its contract: from the start of a word, within a word, or up to the end of a word and then from the next on.
use mathlib.Core.Path.{◌≡◌}
use Prim.Native.Nat.{◌+◌, ◌*◌, ◌-◌, ◌/◌, ◌%◌}
use native.Mathlib.Omega.{arith}
use Rattle.bits.specs.FilledLaws.{filled_then}
use Rattle.bits.proofs.fill.Goals as goal

pub returns-then-offset-eq0 : goal.returns-then-offset-eq0
returns-then-offset-eq0 c =
    let a = c.args in
    let e : 64 * (a.at / 64) ≡ a.at = omega arith in
    rw e at c.fill_from.ensures

pub returns-then-count-offset : goal.returns-then-count-offset
returns-then-count-offset c =
    let a = c.args in
    let e : 64 * (a.at / 64) + a.at % 64 ≡ a.at = omega arith in
    rw e at c.fill_part.ensures

pub returns : goal.returns
returns c =
    let a = c.args in
    let e : 64 * (a.at / 64) + a.at % 64 ≡ a.at = omega arith in
    rw (c.fill_from-2.ensures, c.fill_part-2.ensures, e)
    (filled_then a.block.now a.at a.bytes.now (8 * a.byte + a.bit) (64 - a.at % 64) (a.count - (64 - a.at % 64)) (omega arith) (omega arith) (omega arith) (omega arith) (omega arith))
