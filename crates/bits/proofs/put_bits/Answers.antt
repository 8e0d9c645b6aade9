-- `bits::put_bits` meets its contract: the old bits are taken away and the new ones added, so no other bit changes (Shift).
use Prim.Native.Nat.{◌+◌, ◌^◌, ◌≤◌, ◌<◌}
use native.Mathlib.Omega.{arith}
use borrow.Author.Rules.{rules}
use lib.Pow.{pow_pos}
use Rattle.bits.proofs.Shift.{mask_eq, old_eq, three-parts, replaced_lt, put_eq}
use Rattle.bits.proofs.put_bits.Goals as goal

pub overflow_shl-mask : goal.overflow_shl-mask
overflow_shl-mask c = search rules

pub overflow_sub-mask : goal.overflow_sub-mask
overflow_sub-mask c =
    let h : c.args.n < 64 = omega arith in
    omega (arith, mask_eq c.args.n h, pow_pos c.args.n)

pub overflow_shr-old : goal.overflow_shr-old
overflow_shr-old c = search rules

pub overflow_shl-result : goal.overflow_shl-result
overflow_shl-result c = search rules

pub overflow_sub-result : goal.overflow_sub-result
overflow_sub-result c =
    let w = c.args.word in
    let n = c.args.n in
    let t = c.args.t in
    let h : n < 64 = omega arith in
    let g : n + t ≤ 64 = omega arith in
    omega (arith, old_eq w n t g h, three-parts w n t g h)

pub overflow_shl-result-2 : goal.overflow_shl-result-2
overflow_shl-result-2 c = search rules

pub overflow_add-result : goal.overflow_add-result
overflow_add-result c =
    let w = c.args.word in
    let n = c.args.n in
    let t = c.args.t in
    let v = c.args.v in
    let h : n < 64 = omega arith in
    let g : n + t ≤ 64 = omega arith in
    let k : v < 2 ^ n = c.requires.3 in
    omega (arith, put_eq w n t v g h k, replaced_lt 64 w n t v g (omega arith) k)

pub returns : goal.returns
returns c = put_eq c.args.word c.args.n c.args.t c.args.v (omega arith) (omega arith) c.requires.3
