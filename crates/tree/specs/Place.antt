-- Definitions: where a node stands in a tree: its level, counted from 1, and its index in that level, counted from 0.
use Rattle.std.specs.Prelude.{◌≡◌, List, [], ◌∷◌, ℕ, suc, length, get_or}
use Rattle.std.proofs.Math.Option as found
use Rattle.std.proofs.Math.ListN.{get_elem?}
use Rattle.tree.specs.Tree.{Node}

-- the nodes of a level; a tree lists its levels from level 1 on
abbrev pub level_at : List (List Node) → ℕ → List Node
level_at T level = get_or ([] ∷ T) level []

-- the node at a level and an index, if there is one
abbrev pub node_at : List (List Node) → ℕ → ℕ → found.Option Node
node_at T level index = get_elem? (level_at T level) index

-- the root's place is the last of the last level
abbrev pub RootAt : List (List Node) → ℕ → ℕ → Type 0
RootAt T level index = (level ≡ length T) × (suc index ≡ length (level_at T level))
