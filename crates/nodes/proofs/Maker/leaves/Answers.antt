-- `nodes::Maker::leaves` meets its contract. The loop's invariant: the words hold the values of the leaves of the first pairs.
use Rattle.std.proofs.Common.{◌≡◌, ℕ, ◌+◌, ◌-◌, ◌*◌, ◌^◌, ◌<◌, ◌≤◌, List, refl, ap, ◌∙◌, arith}
use Rattle.tree.proofs.Count.{level_nodes}
use Rattle.shape.specs.ShapeLaws.{node-index}
use Rattle.nodes.specs.Value.{level_values, child_words}
use Rattle.nodes.specs.BlockLaws.{length-values, child_none, child_put, pair_put}
use Rattle.nodes.specs.Making.{maker_params, maker_bits}
use Rattle.nodes.proofs.Maker.leaves.Goals as goal

-- leaf j of those that are asked for is one of the message's
inside : (bits index n j : ℕ) → bits < 2 ^ 64 → index + n ≤ level_nodes bits 1 → j < n → index + j < 2 ^ 56
inside bits index n j b g h = node-index bits 1 (index + j) b (omega arith) (omega arith)

pub loop-pair-init : goal.loop-pair-init
loop-pair-init c =
    let self = c.args.self.now in
    (c.requires.empty ∙ child_none (level_values (maker_params self) (maker_bits self) 1) 4 c.args.index, rw c.requires.empty refl)

pub overflow_add-index : goal.overflow_add-index
overflow_add-index c =
    let a = c.args in
    record { fits = omega (arith, inside a.self.now.span.bits a.index a.n (2 * c.loop-pair.pair) a.self.now.counted c.requires.n_bound.1 (omega (arith, c.loop-pair-test.true))) }

pub loop-pair-preserved : goal.loop-pair-preserved
loop-pair-preserved c =
    let a = c.args in
    let P = maker_params a.self.now in
    let M = maker_bits a.self.now in
    let f : ℕ → List ℕ = level_values P M 1 in
    let made = c.two_leaves-two in
    let j : ℕ = 2 * c.loop-pair.pair in
    let next : j + 2 ≡ 2 * (c.loop-pair.pair + 1) = omega arith in (
      rw (c.copy-in-loop-pair.ensures, c.copy.ensures)
          (pair_put f 4 a.index j c.loop-pair.out made.result.first made.result.second (length-values P M 1 (omega arith))
          (omega (arith, c.requires.n_bound.0, c.loop-pair-test.true)) c.loop-pair.invariant.0 made.ensures.first made.ensures.second)
          ∙ ap (child_words f 4 a.index) next,
      c.copy-in-loop-pair.auto.dst ∙ c.copy.auto.dst ∙ c.loop-pair.invariant.1,
    )

pub overflow_add-index-then-n-eq1 : goal.overflow_add-index-then-n-eq1
overflow_add-index-then-n-eq1 c =
    let a = c.args in
    record { fits = omega (arith, inside a.self.now.span.bits a.index a.n (a.n - 1) a.self.now.counted c.requires.n_bound.1 (omega (arith, c.if-n-eq1.true))) }

pub returns-then-n-eq1 : goal.returns-then-n-eq1
returns-then-n-eq1 c =
    let a = c.args in
    let P = maker_params a.self.now in
    let M = maker_bits a.self.now in
    let f : ℕ → List ℕ = level_values P M 1 in
    let j : ℕ = a.n - 1 in
    let done : 2 * c.loop-pair.pair ≡ j = omega (arith, c.loop-pair-test.false, c.loop-pair.auto.pair-end, c.if-n-eq1.true) in
    let all : j + 1 ≡ a.n = omega (arith, c.if-n-eq1.true) in
    c.copy-then-n-eq1.ensures
    ∙ child_put f 4 a.index j c.loop-pair.out c.one_leaf-last.result (length-values P M 1 (omega arith)) (omega (arith, c.requires.n_bound.0, c.if-n-eq1.true))
    (c.loop-pair.invariant.0 ∙ ap (child_words f 4 a.index) done) c.one_leaf-last.ensures
    ∙ ap (child_words f 4 a.index) all
