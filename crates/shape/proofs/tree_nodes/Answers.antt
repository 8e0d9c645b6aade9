-- `shape::tree_nodes` meets its contract. The loop's invariant: the sum, with the nodes from this level up, is the tree's number.
use Rattle.shape.specs.ShapeLaws.{nodes-more}
use Prim.Native.Nat.{◌+◌, ◌-◌}
use mathlib.Core.Path.{◌≡◌}
use native.Mathlib.Omega.{arith}
use Rattle.shape.proofs.tree_nodes.Goals as goal

pub loop-level-preserved : goal.loop-level-preserved
loop-level-preserved c =
    let limit = c.args.limit in
    let level = c.loop-level.level in
    let e = c.blocks_of-nodes-in-loop-level.ensures in
    let n : limit - (level + 1) ≡ limit - level - 1 = omega arith in
    let m = nodes-more (limit - level) c.loop-level.nodes (omega arith) c.if-nodes-eq1.false in
    (omega (arith, e), omega (arith, e, c.if-nodes-eq1.false, c.loop-level.invariant.0, c.loop-level.invariant.1), rw (n, e) (omega (arith, m, c.loop-level.invariant.2)))
