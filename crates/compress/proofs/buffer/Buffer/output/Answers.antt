-- `output` meets its contract: after i turns the first i of the 16 words are copied.
use mathlib.Core.Path.{◌≡◌, sym, ap, ap₂, ◌∙◌}
use mathlib.Core.List.{List}
use Prim.Native.Nat.{ℕ, ◌-◌, ◌+◌, ◌*◌}
use lib.ListN.{length, get_or, set, drop, replicate, length-set, length-drop}
use lib.Seq.{get_or-drop}
use native.Mathlib.Omega.{arith}
use Rattle.compress.specs.Buffer.{lane}
use Rattle.compress.proofs.Laws.{copy_more}
use Rattle.compress.proofs.LaneLaws.{length-apart, get_d_lane}
use Rattle.compress.proofs.buffer.Buffer.output.Goals as goal

pub loop-i-preserved : goal.loop-i-preserved
loop-i-preserved g c =
    let n = g.row.LANES in
    let j = c.args.j in
    let a = c.args.self.now.words in
    let e : ℕ = c.args.self.now.at - 16 in
    let i = c.loop-i.i in
    let words = lane n j a in
    let long : length (drop e words) ≡ 345 - e = length-drop e words ∙ ap (λ (m : ℕ). m - e) (length-apart n j 345 a) in
    let word : get_or a (n * (e + i) + j) 0 ≡ get_or (drop e words) i 0 =
    sym (get_or-drop e words i 0 ∙ get_d_lane n j (e + i) a (omega arith)) in (
      ap₂ (λ (l : List ℕ) (v : ℕ). set l i v) c.loop-i.invariant.0 word ∙ copy_more (replicate 16 0) (drop e words) i (omega arith) (omega arith),
      simp length-set (omega arith),
    )
