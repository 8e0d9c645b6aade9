-- `round` meets its contract: after j turns the first j words of the round are written in every lane.
use mathlib.Core.Path.{refl}
use Prim.Native.Nat.{◌<◌}
use native.Mathlib.Omega.{arith}
use Rattle.std.proofs.Math.Nat.{div-le_self}
use Rattle.compress.specs.Buffer.{put_round}
use Rattle.compress.proofs.Laws.{shifts_at}
use Rattle.compress.proofs.LaneLaws.{put_next}
use Rattle.compress.proofs.lanes.round.Goals as goal

pub loop-j-init : goal.loop-j-init
unfolding put_round
loop-j-init g c = (refl, λ j h. refl, record { right = refl; left = refl })

pub loop-j-preserved : goal.loop-j-preserved
loop-j-preserved g c =
    let j = c.loop-j.j in
    let low : j < 16 = omega (arith, div-le_self 16 g.row.LANES) in
    let by = shifts_at c.loop-j.invariant.2 j c.index-shifts-j.result low in
    (omega arith, put_next g.row.LANES j c.args.i c.args.s _ _ c.args.a.now c.loop-j.a _ c.loop-j.invariant.1 c.add_words.ensures by, c.loop-j.invariant.2)

pub loop-j-2-preserved : goal.loop-j-2-preserved
loop-j-2-preserved g c =
    let j = c.loop-j-2.j in
    let by = shifts_at c.loop-j-2.invariant.2 j c.index-shifts-j-in-loop-j-2.result (omega arith) in (
      omega arith,
      put_next g.row.LANES j c.args.i c.args.s _ _ c.args.a.now c.loop-j-2.a _ c.loop-j-2.invariant.1 c.add_words-in-loop-j-2.ensures by,
      c.loop-j-2.invariant.2,
    )
