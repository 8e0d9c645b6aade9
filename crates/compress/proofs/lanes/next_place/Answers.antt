-- `next_place` meets its contract: a full buffer has the last 89 words of a lane at 256, and they are moved to its front.
use mathlib.Core.Path.{◌≡◌, ap, ◌∙◌}
use mathlib.Core.List.{List}
use Prim.Native.Nat.{ℕ}
use native.Mathlib.Omega.{arith}
use borrow.Author.Rules.{rules}
use Rattle.compress.specs.Buffer.{before, lane}
use Rattle.compress.proofs.LaneLaws.{move_lane}
use Rattle.compress.proofs.lanes.next_place.Goals as goal

pub returns-else-at-lt-LANE : goal.returns-else-at-lt-LANE
returns-else-at-lt-LANE g c =
    let a = c.args.a.now in
    let n = g.row.LANES in
    let full : c.args.at ≡ 345 = omega arith in (
      ((search rules, search rules, search rules), search rules, search rules, search rules),
      search rules,
      λ j h.
          ap (λ (l : List ℕ). before 89 (lane n j l)) c.move_to_front.ensures
          ∙ move_lane n a c.requires.0 j h
          ∙ rw full,
    )
