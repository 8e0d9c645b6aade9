-- `put_layers` meets its contract.
use mathlib.Core.Path.{◌≡◌, sym, ap, ◌∙◌, subst}
use mathlib.Core.List.{List, ◌++◌}
use Prim.Native.Nat.{ℕ, ◌+◌, ◌-◌, ◌*◌}
use native.Mathlib.Omega.{arith}
use lib.ListN.{drop}
use Rattle.lists.specs.Slices.{bytes_below}
use Rattle.bits.specs.PieceLaws.{span_bits}
use Rattle.tree.specs.Tree.{Params, digest_bytes}
use Rattle.node.specs.Words.{tree_params}
use Rattle.hash.specs.Accepted.{with_key}
use Rattle.hash.proofs.HashLaws.{params-key, key-ready}
use Rattle.layers.specs.Accepted.{Room}
use Rattle.layers.proofs.Steps.{made_by}
use Rattle.layers.proofs.CallLaws.{digest-root}
use Rattle.layers.proofs.put_layers.Goals as goal

pub new-with-requires : goal.new-with-requires
new-with-requires c =
    let a = c.args in
    let first = c.first_part-first in
    let bytes = bytes_below a.key.now c.type_inv.key in
    rw c.key_words-k.ensures (key-ready a.key.now a.params bytes c.requires.1 c.requires.0.whole.ranges first.result first.ensures (omega (arith, first.type_inv)))

pub put_levels-nodes-requires-clause-room : goal.put_levels-nodes-requires-clause-room
put_levels-nodes-requires-clause-room c =
    let a = c.args in
    let M = span_bits a.message.now a.span in
    let bytes = bytes_below a.key.now c.type_inv.key in
    let e : tree_params c.new-with.result.keyed ≡ with_key a.key.now a.params =
    rw (c.new-with.ensures, c.key_words-k.ensures) (params-key a.key.now a.params bytes c.requires.1 c.requires.0.whole.ranges) in
    subst (λ (P : Params). Room P M a.words.now a.log.now) (sym e) c.requires.0.room

pub returns : goal.returns
returns c =
    let a = c.args in
    let P = with_key a.key.now a.params in
    let M = span_bits a.message.now a.span in
    let bytes = bytes_below a.key.now c.type_inv.key in
    let e : tree_params c.new-with.result.keyed ≡ P =
    rw (c.new-with.ensures, c.key_words-k.ensures) (params-key a.key.now a.params bytes c.requires.1 c.requires.0.whole.ranges) in
    let r = made_by e c.put_levels-nodes.ensures in
    let root = 16 * (c.put_levels-nodes.result - 1) in
    record {
      words = r.words;
      logs = r.logs;
      digest = c.write_digest.ensures
          ∙ ap (λ (w : List ℕ). w ++ drop (digest_bytes a.params.d) a.out.now)
          (digest-root P M a.words.now _ root (root + 16 - root) r.words (omega (arith, r.last)) (omega arith));
    }
