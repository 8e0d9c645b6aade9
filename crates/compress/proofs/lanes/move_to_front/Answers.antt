-- `move_to_front` meets its contract.
use mathlib.Core.Path.{◌≡◌, refl, sym, ap, ◌∙◌}
use mathlib.Core.List.{List}
use Prim.Native.Nat.{ℕ, suc, ◌+◌, ◌-◌}
use lib.ListN.{drop, set, get_or, length-set}
use lib.Seq.{paste, paste-zero}
use Rattle.compress.proofs.Laws.{move_before}
use native.Mathlib.Omega.{arith}
use Rattle.compress.proofs.lanes.move_to_front.Goals as goal

pub loop-m-init : goal.loop-m-init
loop-m-init c = (paste-zero c.args.a.now (c.args.n - 0) (drop (c.args.b + (c.args.n - 0)) c.args.a.now), refl)

pub loop-m-preserved : goal.loop-m-preserved
loop-m-preserved c =
    let d = c.args.a.now in
    let b = c.args.b in
    let m = c.loop-m.m in
    let k : ℕ = c.args.n - 1 - m in
    let here : c.args.n - m ≡ suc k = omega (arith, c.loop-m-test.true) in
    let next : c.args.n - (m + 1) ≡ k = omega arith in
    let more : m + 1 ≡ suc m = omega arith in
    let is : c.loop-m.a ≡ paste d (suc k) (drop (b + suc k) d) m = c.loop-m.invariant.0 ∙ ap (λ (j : ℕ). paste d j (drop (b + j) d) m) here in (
      ap (λ (l : List ℕ). set l k (get_or l (b + k) 0)) is
          ∙ move_before d b k m (omega (arith, c.loop-m-test.true, c.requires.0)) (omega (arith, c.loop-m-test.true, c.requires.1))
          ∙ sym (ap (λ (j : ℕ). paste d j (drop (b + j) d) (m + 1)) next ∙ ap (paste d k (drop (b + k) d)) more),
      simp length-set c.loop-m.invariant.1,
    )

pub returns : goal.returns
returns c =
    let left : c.args.n - c.loop-m.m ≡ 0 = omega (arith, c.loop-m-test.false) in
    let all : c.loop-m.m ≡ c.args.n = omega (arith, c.loop-m-test.false, c.loop-m.auto.m-end) in
    let from : c.args.b + 0 ≡ c.args.b = omega arith in
    c.loop-m.invariant.0
    ∙ ap (λ (j : ℕ). paste c.args.a.now j (drop (c.args.b + j) c.args.a.now) c.loop-m.m) left
    ∙ ap (λ (i : ℕ). paste c.args.a.now 0 (drop i c.args.a.now) c.loop-m.m) from
    ∙ ap (paste c.args.a.now 0 (drop c.args.b c.args.a.now)) all
