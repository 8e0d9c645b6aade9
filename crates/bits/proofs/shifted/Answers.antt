-- `bits::shifted` meets its contract: the two shifted numbers share no bit (Shift).
use Prim.Native.Nat.{◌-◌}
use native.Mathlib.Omega.{arith}
use Rattle.bits.proofs.Shift.{shifted_in}
use Rattle.bits.proofs.shifted.Goals as goal

pub returns : goal.returns
returns c =
    let b = c.args.bit in
    rw c.from.ensures (shifted_in 64 8 c.args.word c.args.next b (8 - b) (omega arith) (omega arith) (omega arith))
