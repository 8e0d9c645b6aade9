-- `later_rounds` meets its contract: before part p is fetched, the rounds of the parts below it are done.
use mathlib.Core.Path.{◌≡◌}
use Prim.Native.Nat.{◌+◌, ◌*◌, ◌≤◌, min}
use native.Mathlib.Omega.{arith}
use lib.ListN.{length, take}
use lib.Seq.{length-take-le}
use Rattle.constants.specs.Constants.{part_entries}
use Rattle.compress.proofs.Laws.{reworded, onward, first_constants}
use Rattle.compress.proofs.buffer.Buffer.later_rounds.Goals as goal

pub loop-part-preserved : goal.loop-part-preserved
loop-part-preserved g c =
    let rounds = c.args.rounds in
    let k = c.loop-part.part in
    let s = c.part-s.result in
    let n = c.min-n.result in
    let fits : n ≤ length s = omega arith in
    let here : min rounds (part_entries * k) ≡ part_entries * k = omega arith in
    let there : part_entries * k + length (take n s) ≡ min rounds (part_entries * (k + 1)) = omega (arith, length-take-le n s fits) in
    onward (reworded here c.loop-part.invariant)
    (reworded there (c.some_rounds.ensures (part_entries * k) (first_constants (part_entries * k) n s fits c.part-s.ensures)))
