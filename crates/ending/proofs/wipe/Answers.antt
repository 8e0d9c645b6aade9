-- `ending::wipe` meets its contract.
use native.Mathlib.Omega.{arith}
use Prim.Native.Nat.{◌-◌}
use lib.ListN.{length-set}
use Rattle.calls.proofs.AreaLaws.{limit-word}
use Rattle.ending.specs.EndLaws.{wiped}
use Rattle.ending.proofs.wipe.Goals as goal

pub slice_bounds-fill-end : goal.slice_bounds-fill-end
slice_bounds-fill-end c = simp length-set (omega (arith, c.words-e.ensures, limit-word c.args.area.now, c.requires))

pub returns : goal.returns
returns c =
    let levels = wiped c.args.area.now c.from.result c.args.nodes (c.words-e.result - 16) c.from.ensures c.requires (omega (arith, c.words-e.ensures)) in
    let zeros = c.fill.ensures.after (λ y z. z) in
    cc
