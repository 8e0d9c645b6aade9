-- Examples: the order of nodes and their marks, by hand from "each right after its last child, children from the left; a sequential
-- node also after the node before it", for any nodes in the levels that a message of so many bits has.
use Rattle.std.specs.Prelude.{◌≡◌, refl, true, false}
use mathlib.Core.List.{[], ◌∷◌}
use Rattle.tree.specs.Tree.{Node, Mark, listing, subtrees}

abbrev before : Node → Mark
before n = record { node = n; reaches = false }

abbrev reaching : Node → Mark
reaching n = record { node = n; reaches = true }

-- 16,385 bits: five nodes, the fifth with the last bit; two over them, p over four and q over one; and the root
pub parallel-order : (a b c d e p q root : Node)
    → listing (subtrees 64 16385 ((a ∷ b ∷ c ∷ d ∷ e ∷ []) ∷ (p ∷ q ∷ []) ∷ (root ∷ []) ∷ []))
    ≡ before a ∷ before b ∷ before c ∷ before d ∷ before p ∷ reaching e ∷ reaching q ∷ reaching root ∷ []
unfolding mathlib.Core.List.flatten
parallel-order a b c d e p q root = refl

-- 12,289 bits with L = 1: four nodes, the fourth with the last bit; two over them, p over three and the root over one
pub sequential-order : (a b c d p root : Node)
    → listing (subtrees 1 12289 ((a ∷ b ∷ c ∷ d ∷ []) ∷ (p ∷ root ∷ []) ∷ []))
    ≡ before a ∷ before b ∷ before c ∷ before p ∷ reaching d ∷ reaching root ∷ []
unfolding mathlib.Core.List.flatten
sequential-order a b c d p root = refl

-- 6,145 bits with L = 0: three nodes, one after the other
pub chain-order : (a b root : Node) → listing (subtrees 0 6145 ((a ∷ b ∷ root ∷ []) ∷ [])) ≡ before a ∷ before b ∷ reaching root ∷ []
unfolding mathlib.Core.List.flatten
chain-order a b root = refl

-- the empty message: "the one node of the empty message counts as reaching it"
pub empty-order : (root : Node) → listing (subtrees 64 0 ((root ∷ []) ∷ [])) ≡ reaching root ∷ []
unfolding mathlib.Core.List.flatten
empty-order root = refl
