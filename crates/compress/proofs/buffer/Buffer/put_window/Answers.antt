-- `put_window` meets its contract: after i turns the lane begins with the first i words of the window, and the others are as they were.
use mathlib.Core.Path.{ap, ◌∙◌}
use mathlib.Core.List.{List}
use Prim.Native.Nat.{ℕ}
use lib.ListN.{get_or, set}
use native.Mathlib.Omega.{arith}
use Rattle.compress.specs.Buffer.{lane, Sized}
use Rattle.compress.proofs.Laws.{copy_more}
use Rattle.compress.proofs.LaneLaws.{length-apart, store, store_beside}
use Rattle.compress.proofs.buffer.Buffer.put_window.Goals as goal

pub loop-i-preserved : goal.loop-i-preserved
loop-i-preserved g c =
    let n = g.row.LANES in
    let a = c.loop-i.self.words in
    let j = c.args.j in
    let i = c.loop-i.i in
    let w = c.args.window.now in
    let words = lane n j c.args.self.now.words in
    let sized : Sized n a = omega arith in (
      store n a sized j i (get_or w i 0) (omega arith) (omega arith)
          ∙ ap (λ (l : List ℕ). set l i (get_or w i 0)) c.loop-i.invariant.0
          ∙ copy_more words w i (omega (arith, length-apart n j 345 c.args.self.now.words)) (omega arith),
      λ k h l. store_beside n a sized j i (get_or w i 0) (omega arith) (omega arith) k h l ∙ c.loop-i.invariant.1 k h l,
      c.loop-i.invariant.2,
    )
