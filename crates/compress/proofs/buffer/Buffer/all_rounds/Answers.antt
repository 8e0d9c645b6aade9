-- `all_rounds` meets its contract: the rounds of the lent part, and those after them.
use mathlib.Core.Path.{◌≡◌}
use Prim.Native.Nat.{◌+◌, ◌≤◌, min}
use native.Mathlib.Omega.{arith}
use lib.ListN.{length, take}
use lib.Seq.{length-take-le}
use Rattle.constants.specs.Constants.{part_entries}
use Rattle.compress.proofs.Laws.{reworded, onward, first_constants}
use Rattle.compress.proofs.buffer.Buffer.all_rounds.Goals as goal

pub returns : goal.returns
returns g c =
    let first = c.args.first.now in
    let n = c.min-n.result in
    let fits : n ≤ length first = omega arith in
    let lent : 0 + length (take n first) ≡ min c.args.rounds part_entries = omega (arith, length-take-le n first fits) in
    onward (reworded lent (c.some_rounds.ensures 0 (first_constants 0 n first fits c.requires.0))) c.later_rounds.ensures
