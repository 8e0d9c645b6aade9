-- `shape::top_level` meets its contract. The loop's invariant: the top is looked for from this level on.
use Rattle.shape.specs.ShapeLaws.{level_nodes-more, top_start, top_one, top-more, top-past, top-most}
use Rattle.tree.proofs.Count.{level_nodes-one}
use Rattle.tree.specs.Tree.{blocks}
use mathlib.Core.Path.{◌≡◌, ◌∙◌, ap, sym}
use native.Mathlib.Omega.{arith}
use Prim.Native.Nat.{◌+◌}
use Rattle.shape.specs.Shape.{top_level}
use Rattle.shape.proofs.top_level.Goals.{Left-loop-level, else-loop-level-test, then-loop-level-test+else-nodes-eq1+else-level-limit}
use Rattle.shape.proofs.top_level.Goals as goal

pub loop-level-init : goal.loop-level-init
loop-level-init c = let a = c.args in (c.blocks_of-nodes.ensures ∙ sym (level_nodes-one a.bits), top_start a.limit a.bits)

pub returns-then-nodes-eq1 : goal.returns-then-nodes-eq1
returns-then-nodes-eq1 c =
    let a = c.args in
    let e = sym (top_one a.limit a.bits c.loop-level.level (omega arith) (sym c.loop-level.invariant.0 ∙ c.if-nodes-eq1.true)) ∙ c.loop-level.invariant.1 in
    (e, omega (arith, e, top-most a.bits a.limit 1 c.ranges.bits.fits (omega arith) (omega arith)))

pub loop-level-preserved : goal.loop-level-preserved
loop-level-preserved c =
    let a = c.args in (
      c.blocks_of-nodes-in-loop-level.ensures ∙ ap (blocks 4) c.loop-level.invariant.0 ∙ sym (level_nodes-more a.bits c.loop-level.level (omega arith)),
      sym (top-more a.limit a.bits c.loop-level.level (omega arith) (λ e. c.if-nodes-eq1.false (c.loop-level.invariant.0 ∙ e))) ∙ c.loop-level.invariant.1,
    )

-- no level up to the limit has one node: there is none, or it ended at the limit
last : (c : Left-loop-level) → c.args.limit + 1 ≡ top_level c.args.limit c.args.bits
last c =
    let a = c.args in
    elim c.loop-level-test.branch [
      | else-loop-level-test w ↦
          let none : a.limit ≡ 0 = grind (arith, c.loop-level.auto.level-end, w.loop-level-test.false) in
          omega (arith, none, top-past a.limit a.bits 1 (omega (arith, none)), top_start a.limit a.bits)
      | then-loop-level-test+else-nodes-eq1+else-level-limit w ↦
          let level = c.loop-level.level in
          let e : level ≡ a.limit = omega arith in
          let more = top-more a.limit a.bits level (omega arith) (λ o. w.if-nodes-eq1.false (c.loop-level.invariant.0 ∙ o)) in
          omega (arith, e, top-past a.limit a.bits (level + 1) (omega arith), more, c.loop-level.invariant.1)
    ]

pub returns : goal.returns
returns c =
    let a = c.args in
    let e = last c in
    (e, omega (arith, e, top-most a.bits a.limit 1 c.ranges.bits.fits (omega arith) (omega arith)))
