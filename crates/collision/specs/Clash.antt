-- Definitions: what the collision theorem speaks of. Demand 3, its last sentence: "For any two different inputs (message, key, height limit,
-- rounds) with one digest size and equal digests, either the root inputs differ, or some node other than the root, at the same
-- level and index in both trees, has different inputs and the same 1,024-bit output."
use Rattle.std.specs.Prelude.{◌≡◌, Bool, ◌≢◌, List, ℕ}
use Rattle.std.proofs.Math.Option.{some}
use Rattle.compress.specs.Compress.{compressed, window_of}
use Rattle.tree.specs.Tree.{Params, Node, output, tree, root, digest_bits}
use Rattle.tree.specs.Place.{node_at, RootAt}

-- "two different inputs (message, key, height limit, rounds)"
abbrev pub Different : Params → Params → List Bool → List Bool → Type 0
Different P Q M N = ¬ ((M ≡ N) × (P.key ≡ Q.key) × (P.limit ≡ Q.limit) × (P.rounds ≡ Q.rounds))

-- "either the root inputs differ": and, since the digests are equal, their outputs end in the same d bits
pub record RootsDiffer (P Q : Params) (M N : List Bool) : Type 0 where
  pub differ : root P M ≢ root Q N
  pub same : digest_bits P M ≡ digest_bits Q N

-- "or some node other than the root, at the same level and index in both trees, has different inputs and the same 1,024-bit
-- output": in the trees S and T, made with r and s rounds. A node is its input: K, U, V and B.
pub record Clash (r s : ℕ) (S T : List (List Node)) : Type 0 where
  pub level : ℕ
  pub index : ℕ
  pub a : Node
  pub b : Node
  pub at_a : node_at S level index ≡ some a
  pub at_b : node_at T level index ≡ some b
  pub other_a : ¬ RootAt S level index
  pub other_b : ¬ RootAt T level index
  pub differ : a ≢ b
  pub same : output r a ≡ output s b

-- the window of a node's input: what the compression is given
abbrev pub window : Node → List ℕ
window n = window_of n.k n.u n.v n.block

-- the output of r rounds as 16 words; `output` has their bits
abbrev pub output_as_words : ℕ → Node → List ℕ
output_as_words r n = compressed r (window n)

-- a clash in the trees of two messages, whose outputs agree as 16 words too
pub record Meeting (P Q : Params) (M N : List Bool) : Type 0 where
  pub clash : Clash P.rounds Q.rounds (tree P M) (tree Q N)
  pub same_words : output_as_words P.rounds clash.a ≡ output_as_words Q.rounds clash.b
