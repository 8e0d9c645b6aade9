-- `outputs::Maker::parallel` meets its contract. The loop's invariant: the outputs of so many pairs of nodes are written.
use mathlib.Core.Path.{◌≡◌, ◌∙◌, subst}
use Prim.Native.Nat.{ℕ, ◌+◌, ◌-◌, ◌*◌, ◌<◌}
use native.Mathlib.Omega.{arith}
use Rattle.node.specs.Words.{tree_params}
use Rattle.layer.specs.OneLayer.{nodes_in}
use Rattle.layer.specs.OverLaws.{Written, written_none, written_one, written-two, written_all}
use Rattle.layer.proofs.outputs.Maker.parallel.Goals as goal

pub loop-pair-init : goal.loop-pair-init
loop-pair-init c =
    let a = c.args in
    written_none (tree_params a.self.now.with.now.keyed) a.self.now.message.now a.words.now a.self.now.layer c.requires.source.0 c.requires.source.1

pub loop-pair-preserved : goal.loop-pair-preserved
loop-pair-preserved c =
    let below : 2 * c.loop-pair.pair + 1 < nodes_in c.args.self.now.layer = omega (arith, c.nodes-nodes.ensures, c.loop-pair-test.true) in
    rw c.two_nodes.ensures
    (written-two c.loop-pair.invariant c.requires.size c.fill.new.part c.fill-in-loop-pair.new.part below
    c.fill.ensures c.fill-in-loop-pair.ensures _ (omega arith))

pub returns-then-nodes-eq1 : goal.returns-then-nodes-eq1
returns-then-nodes-eq1 c =
    let a = c.args in
    let i : ℕ = c.nodes-nodes.result - 1 in
    let pairs : 2 * c.loop-pair.pair ≡ i = omega (arith, c.loop-pair.auto.pair-end, c.loop-pair-test.false, c.if-nodes-eq1.true) in
    let w = subst (λ (k : ℕ). Written (tree_params a.self.now.with.now.keyed) a.self.now.message.now a.words.now a.self.now.layer k c.loop-pair.words) pairs c.loop-pair.invariant in
    let last : i < nodes_in a.self.now.layer = omega (arith, c.nodes-nodes.ensures, c.if-nodes-eq1.true) in
    let all = written_one w c.requires.size c.fill-then-nodes-eq1.new.part c.one_node.result last
    c.fill-then-nodes-eq1.ensures c.one_node.ensures.output in
    c.one_node.ensures.words ∙ written_all all (omega (arith, c.nodes-nodes.ensures, c.if-nodes-eq1.true))

pub returns-else-nodes-eq1 : goal.returns-else-nodes-eq1
returns-else-nodes-eq1 c =
    written_all c.loop-pair.invariant (omega (arith, c.nodes-nodes.ensures, c.loop-pair.auto.pair-end, c.loop-pair-test.false, c.if-nodes-eq1.false))
