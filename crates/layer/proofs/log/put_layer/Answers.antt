-- `log::put_layer` meets its contract. The loop's invariant: U and V of i nodes are written.
use mathlib.Core.Path.{◌≡◌, sym, ◌∙◌}
use Prim.Native.Nat.{◌+◌, ◌*◌, ◌≤◌, ◌<◌}
use native.Mathlib.Omega.{arith}
use lib.ListN.{length, length-set}
use Rattle.layer.specs.OneLayer.{nodes_in, layer_nodes}
use Rattle.layer.specs.OverLaws.{log-node, length_level_over}
use Rattle.layer.specs.LogLaws.{log-more, log-all}
use Rattle.layer.proofs.log.put_layer.Goals as goal

pub loop-i-preserved : goal.loop-i-preserved
loop-i-preserved c =
    let a = c.args in
    let i = c.loop-i.i in
    let below : i < _ = rw c.nodes-i-end.ensures at c.loop-i-test.true in (
      omega (arith, c.loop-i.invariant.0),
      rw c.log_node.ensures (simp length-set c.loop-i.invariant.1),
      λ P X v e.
          let n = log-node a.layer c.requires.in_range.1 i below P X e in
          let ns = layer_nodes P a.layer X in
          let size = length_level_over P a.layer X e c.requires.in_range.1.kind in
          let room : a.at + 2 * length ns ≤ length a.log.now = rw size c.requires.room in
          rw (c.log_node.ensures, c.loop-i.invariant.2 P X v e)
          (log-more a.at a.log.now ns room i n.1.made _ _ c.loop-i.to n.1.at
          (rw c.place.ensures (sym n.1.u)) (rw c.place.ensures (v _ _ ∙ sym n.1.v)) c.loop-i.invariant.0),
    )

pub returns : goal.returns
returns c =
    let a = c.args in
    let all : c.loop-i.i ≡ nodes_in a.layer = omega (arith, c.nodes-i-end.ensures, c.loop-i.auto.i-end, c.loop-i-test.false) in (
      omega (arith, c.loop-i.invariant.0, all),
      λ P X v e.
          let ns = layer_nodes P a.layer X in
          let n : length ns ≡ nodes_in a.layer = length_level_over P a.layer X e c.requires.in_range.1.kind in
          c.loop-i.invariant.2 P X v e ∙ log-all a.at a.log.now ns (rw n c.requires.room) c.loop-i.i (all ∙ sym n) ∙ rw n,
    )
