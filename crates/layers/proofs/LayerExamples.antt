-- Examples: the order of nodes level by level, and the highest node of each index, by hand, for any nodes. The order is
-- said of `flatten`, since `layer_order` is `flatten` of the tree.
use Rattle.std.specs.Prelude.{◌≡◌}
use Rattle.std.proofs.Math.Path.{refl}
use mathlib.Core.List.{[], ◌∷◌, flatten, map}
use Rattle.tree.specs.Tree.{Node}
use Rattle.layers.specs.Layers.{highest_node}

-- the shape of the tree of 16,385 bits: five nodes, two over them, and the root, whose index is 0
module _ (a b c d e p q root : Node) where
  pub parallel_layers : flatten ((a ∷ b ∷ c ∷ d ∷ e ∷ []) ∷ (p ∷ q ∷ []) ∷ (root ∷ []) ∷ []) ≡ a ∷ b ∷ c ∷ d ∷ e ∷ p ∷ q ∷ root ∷ []
  unfolding flatten
  parallel_layers = refl

  pub parallel-highest : map (highest_node ((a ∷ b ∷ c ∷ d ∷ e ∷ []) ∷ (p ∷ q ∷ []) ∷ (root ∷ []) ∷ [])) (0 ∷ 1 ∷ 2 ∷ 3 ∷ 4 ∷ [])
      ≡ root ∷ q ∷ c ∷ d ∷ e ∷ []
  parallel-highest = refl

-- that of 12,289 bits with L = 1: four nodes, and two over them at the sequential level: the root has index 1, and index 0 ends with the
-- first of the two
module _ (a b c d p root : Node) where
  pub sequential_layers : flatten ((a ∷ b ∷ c ∷ d ∷ []) ∷ (p ∷ root ∷ []) ∷ []) ≡ a ∷ b ∷ c ∷ d ∷ p ∷ root ∷ []
  unfolding flatten
  sequential_layers = refl

  pub sequential-highest : map (highest_node ((a ∷ b ∷ c ∷ d ∷ []) ∷ (p ∷ root ∷ []) ∷ [])) (0 ∷ 1 ∷ 2 ∷ 3 ∷ []) ≡ p ∷ root ∷ c ∷ d ∷ []
  sequential-highest = refl

-- that of 12,288 bits with L = 1: three nodes, and one over them at the sequential level: it is the root, and index 0 ends with it
module _ (a b c root : Node) where
  pub alone_layers : flatten ((a ∷ b ∷ c ∷ []) ∷ (root ∷ []) ∷ []) ≡ a ∷ b ∷ c ∷ root ∷ []
  unfolding flatten
  alone_layers = refl

  pub alone-highest : map (highest_node ((a ∷ b ∷ c ∷ []) ∷ (root ∷ []) ∷ [])) (0 ∷ 1 ∷ 2 ∷ []) ≡ root ∷ b ∷ c ∷ []
  alone-highest = refl

-- that of 6,145 bits with L = 0: three nodes, one after the other; each is the highest of its index
pub chain-highest : (a b root : Node) → map (highest_node ((a ∷ b ∷ root ∷ []) ∷ [])) (0 ∷ 1 ∷ 2 ∷ []) ≡ a ∷ b ∷ root ∷ []
chain-highest a b root = refl
