-- Laws: a meeting is a collision of the compression function: two different windows of 89 words with one output of 16 words.
use Rattle.std.specs.Prelude.{◌≡◌, refl, Bool, ◌≢◌, ℕ, length}
use Rattle.std.proofs.Common.{sym, ◌∙◌}
use Rattle.std.proofs.Math.Option.{some}
use mathlib.Core.List.{List, head-eq_of_cons-eq, tail-eq_of_cons-eq}
use Rattle.lists.specs.Append.{append_split}
use Rattle.compress.specs.Compress.{Q, compressed}
use Rattle.tree.specs.Tree.{Params, Node, tree}
use Rattle.tree.specs.Place.{node_at}
use Rattle.tree.proofs.TreeLaws.{length-key_words, length-window}
use Rattle.tree.proofs.Places.{tree-stands}
use Rattle.collision.specs.Clash.{Meeting, window}

-- a window has its node's input in it
pub window_inj : (a b : Node) → length a.k ≡ length b.k → window a ≡ window b → a ≡ b
window_inj a b h e =
    let s = append_split a.k b.k _ _ h (append_split Q Q _ _ refl e).1 in
    let t = tail-eq_of_cons-eq s.1 in
    λ i. record { k = s.0 i; u = head-eq_of_cons-eq s.1 i; v = head-eq_of_cons-eq t i; block = tail-eq_of_cons-eq t i }

tree-k-length : (P : Params) (M : List Bool) (level index : ℕ) (a : Node) → node_at (tree P M) level index ≡ some a → length a.k ≡ 8
tree-k-length P M level index a e = rw (tree-stands P M level index a e).is (length-key_words P.key)

-- and 89 words
pub tree-window : (P : Params) (M : List Bool) (level index : ℕ) (a : Node) → node_at (tree P M) level index ≡ some a → length (window a) ≡ 89
tree-window P M level index a e =
    let s = tree-stands P M level index a e in
    length-window a (tree-k-length P M level index a e) (rw s.is s.full)

-- the nodes that meet have different windows, of which the compression makes one output
pub two_windows : (P Q : Params) (M N : List Bool) (m : Meeting P Q M N)
    → (window m.clash.a ≢ window m.clash.b) × (compressed P.rounds (window m.clash.a) ≡ compressed Q.rounds (window m.clash.b))
two_windows P Q M N m =
    let c = m.clash in
    let ka = tree-k-length P M c.level c.index c.a c.at_a in
    let kb = tree-k-length Q N c.level c.index c.b c.at_b in
    (λ e. c.differ (window_inj c.a c.b (ka ∙ sym kb) e), m.same_words)
