-- `hash::put_digest` meets its contract: the root worked out node by node is the root of the levels.
use Rattle.hash.specs.Accepted.{with_key}
use Rattle.hash.proofs.HashLaws.{params-key, key-ready, digest-root}
use Rattle.node.specs.declared.Keyed.{Keyed}
use Rattle.node.specs.Words.{tree_params}
use Rattle.bits.specs.PieceLaws.{span_bits}
use Rattle.tree.specs.Tree.{digest_bytes}
use Rattle.lists.specs.Slices.{bytes_below}
use lib.ListN.{drop}
use Prim.Native.Nat.{ℕ}
use mathlib.Core.List.{List, ◌++◌}
use mathlib.Core.Path.{◌≡◌, ap, ◌∙◌}
use native.Mathlib.Omega.{arith}
use Rattle.hash.proofs.put_digest.Goals as goal

pub new-with-requires : goal.new-with-requires
new-with-requires c =
    let a = c.args in
    let first = c.first_part-first in
    let bytes = bytes_below a.key.now c.type_inv.key in
    rw c.key_words-k.ensures (key-ready a.key.now a.params bytes c.requires.1 c.requires.0.ranges first.result first.ensures (omega (arith, first.type_inv)))

pub returns : goal.returns
returns c =
    let a = c.args in
    let M = span_bits a.message.now a.span in
    let bytes = bytes_below a.key.now c.type_inv.key in
    let P = with_key a.key.now a.params in
    let e : tree_params c.new-with.result.keyed ≡ P =
    rw (c.new-with.ensures, c.key_words-k.ensures) (params-key a.key.now a.params bytes c.requires.1 c.requires.0.ranges) in
    let limit : c.new-with.result.keyed.params.limit ≡ a.params.limit = ap (λ (k : Keyed). k.params.limit) c.new-with.ensures in
    c.write_digest.ensures
    ∙ ap (λ (w : List ℕ). w ++ drop (digest_bytes a.params.d) a.out.now) (digest-root P M c.root-root.result (c.root-root.ensures ∙ rw (e, limit)))
