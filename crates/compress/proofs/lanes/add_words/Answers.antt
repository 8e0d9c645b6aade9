-- `add_words` meets its contract: each word is made of its own lane, and the stores to the other lanes leave that as it was.
use lib.ListN.{length-set}
use native.Mathlib.Omega.{arith}
use Rattle.compress.specs.Buffer.{Sized}
use Rattle.compress.proofs.LaneLaws.{put_lane, leave_lane}
use Rattle.compress.proofs.lanes.add_words.Goals as goal

pub loop-j-preserved : goal.loop-j-preserved
loop-j-preserved g c =
    let a = c.args in
    let l = c.loop-j in
    let sized : Sized g.row.LANES l.a = omega arith in
    let v = c.new_word.result in (
      simp length-set (omega arith),
      put_lane g.row.LANES l.j a.i a.s a.by.r a.by.l a.a.now l.a sized (omega arith) (omega arith) (omega arith) l.invariant.1
          l.invariant.2 v c.new_word.ensures,
      leave_lane g.row.LANES l.j a.i a.s a.by.r a.by.l a.a.now l.a sized (omega arith) (omega arith) (omega arith) l.invariant.1
          l.invariant.2 v c.new_word.ensures,
    )
