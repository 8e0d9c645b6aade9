-- `some_rounds` meets its contract: after k turns the first k constants of the part have had their rounds.
use mathlib.Core.Path.{◌≡◌, ap, ◌∙◌}
use Prim.Native.Nat.{ℕ, ◌+◌, ◌*◌}
use native.Mathlib.Nat.{add-zero}
use native.Mathlib.Omega.{arith}
use lib.ListN.{get_or}
use borrow.Author.Rules.{rules}
use Rattle.constants.specs.Constants.{S}
use Rattle.compress.specs.Buffer.{put_round, before, after, lane}
use Rattle.compress.proofs.Laws.{round_window}
use Rattle.compress.proofs.LaneLaws.{length-apart}
use Rattle.compress.proofs.buffer.Buffer.some_rounds.Goals as goal

pub loop-s-init : goal.loop-s-init
loop-s-init g c = (search rules, λ q t. record { rule = λ j h N size e. rw (add-zero q) e })

pub loop-s-preserved : goal.loop-s-preserved
loop-s-preserved g c =
    let lanes = g.row.LANES in
    let k = c.loop-s.s-index in
    let place = c.next_place-place.result in
    let a = c.next_place-place.new.a in (
      omega arith,
      λ q t. record {
        rule = λ j h N size e.
            let words = lane lanes j a in
            let more : q + k + 1 ≡ q + (k + 1) = omega arith in
            let s : get_or c.args.part.now k 0 ≡ S (q + k) = t.rule k (omega arith) in
            ap (before (place + 16)) (c.round.ensures j h ∙ ap (λ (v : ℕ). put_round 16 place v words) s)
            ∙ round_window N words place (q + k) size (omega arith) (omega (arith, length-apart lanes j 345 a))
            (c.next_place-place.ensures.2 j h ∙ (c.loop-s.invariant.1 q t).rule j h N size e)
            ∙ ap (λ (r : ℕ). after (16 * r) N) more;
      },
    )
