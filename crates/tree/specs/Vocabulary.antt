-- Definitions: the terms of the theorems about trees that docs/PROOFS.md cites.
use Rattle.std.specs.Prelude.{◌≡◌, Bool, true, false, cond, List, [], ◌∷◌, ℕ, zero, suc, ◌+◌, ◌-◌, eqb, length}
use Rattle.std.proofs.Math.Option.{some}
use Rattle.std.proofs.Math.ListN.{get_elem?}
use Rattle.tree.specs.Tree.{Node, Mark, block_bits, blocks}
use Rattle.tree.specs.Place.{level_at, node_at}

-- the sum of what f gives for the elements of a list
abbrev pub total {ℓ} : {A : Type ℓ} → (A → ℕ) → List A → ℕ
total f [] = 0
total f (x ∷ xs) = f x + total f xs

-- the levels from one of c nodes up; n of those above it may be parallel
abbrev pub height_from : ℕ → ℕ → ℕ
height_from zero c = cond (eqb c 1) 1 (suc 1)
height_from (suc n) c = cond (eqb c 1) 1 (suc (height_from n (blocks 4 c)))

-- the levels of a tree, for a height limit and a message of m bits
abbrev pub tree_height : ℕ → ℕ → ℕ
tree_height zero m = 1
tree_height (suc n) m = height_from n (blocks block_bits m)

-- a node with its mark: whether it reaches the message's last bit
abbrev pub mark : Node → Bool → Mark
mark n b = record { node = n; reaches = b }

-- a level's nodes with their marks: the last of them reaches the message's last bit, and no other
abbrev pub marked : List Node → List Mark
marked [] = []
marked (n ∷ []) = mark n true ∷ []
marked (n ∷ m ∷ ns) = mark n false ∷ marked (m ∷ ns)

-- an element stands in a list, at an index
abbrev pub In {ℓ} : {A : Type ℓ} → A → List A → Type ℓ
In a xs = (i : ℕ) × (get_elem? xs i ≡ some a)

-- where a marked node stands in a tree: its level and index; it reaches the last bit if it is the last of its level
pub record Placed (T : List (List Node)) (m : Mark) : Type 0 where
  pub level : ℕ
  pub index : ℕ
  pub at : node_at T level index ≡ some m.node
  pub reaches : m.reaches ≡ eqb (suc index) (length (level_at T level))

-- the root's level, and its index there
abbrev pub root_level : List (List Node) → ℕ
root_level T = length T

abbrev pub root_index : List (List Node) → ℕ
root_index T = length (level_at T (length T)) - 1

-- U, V and whether the node reaches the last bit
abbrev pub shape_of : Mark → ℕ × ℕ × Bool
shape_of m = (m.node.u, m.node.v, m.reaches)
