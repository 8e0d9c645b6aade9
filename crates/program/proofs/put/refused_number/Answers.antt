-- `program::put::refused_number` meets its contract: the word is copied, and the digits are stored behind it.
use Prim.Native.Nat.{◌+◌, ◌/◌, ◌%◌}
use lib.ListN.{set, length-set}
use native.Mathlib.Omega.{arith}
use Rattle.program.specs.PutLaws.{one-digit, two_digits}
use Rattle.program.proofs.put.refused_number.Goals as goal

pub bounds-out-9 : goal.bounds-out-9
bounds-out-9 c =
    let a = c.args in
    omega (arith, length-set c.copy.new.out 8 (48 + a.number))

pub returns-then-n-lt10 : goal.returns-then-n-lt10
returns-then-n-lt10 c =
    let a = c.args in
    one-digit a.number a.out.now (omega arith) c.copy.ensures.copied c.if-n-lt10.true

pub bounds-out-9-2 : goal.bounds-out-9-2
bounds-out-9-2 c =
    let a = c.args in
    omega (arith, length-set c.copy.new.out 8 (48 + a.number / 10))

pub bounds-out-10 : goal.bounds-out-10
bounds-out-10 c =
    let o = c.copy.new.out in
    let n = c.args.number in
    omega (arith, length-set o 8 (48 + n / 10), length-set (set o 8 (48 + n / 10)) 9 (48 + n % 10))

pub returns : goal.returns
returns c =
    let a = c.args in
    two_digits a.number a.out.now (omega arith) c.copy.ensures.copied c.if-n-lt10.false
