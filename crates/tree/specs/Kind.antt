-- Definitions: which bits a level of a tree works on, and what it means that a level is parallel or sequential.
use Rattle.std.specs.Prelude.{◌≡◌, Bool, List, [], ℕ, zero, suc, ◌≤◌, eqb, length}
use Rattle.tree.specs.Tree.{Params, block_bits, blocks, parallel, sequential, joined_outputs, tree}
use Rattle.tree.specs.Place.{level_at}

-- "Levels count from 1. Level 1 works on the message, each higher level on the outputs below, joined."
abbrev pub level_bits : Params → List Bool → ℕ → List Bool
level_bits P M zero = []
level_bits P M (suc zero) = M
level_bits P M (suc (suc l)) = joined_outputs P (level_at (tree P M) (suc l))

-- "pad with zero bits to a positive multiple of 4,096; each 4,096 bits are one node, indexed from 0. One node only: it is the root."
abbrev pub IsParallel : Params → List Bool → ℕ → Type 0
IsParallel P M level =
    level_at (tree P M) level ≡ parallel P level (eqb (blocks block_bits (length (level_bits P M level))) 1) (level_bits P M level)

-- "pad to a positive multiple of 3,072; node i takes the output of node i - 1 (16 zero words for the first) and then its 3,072
-- bits; the last is the root."
abbrev pub IsSequential : Params → List Bool → ℕ → Type 0
IsSequential P M level = level_at (tree P M) level ≡ sequential P level (level_bits P M level)

-- a tree without a sequential level: it has no level L + 1, and each of its levels is parallel and none sequential
pub record NoSequential (P : Params) (M : List Bool) : Type 0 where
  pub height : length (tree P M) ≤ P.limit
  pub parallel : (level : ℕ) → 1 ≤ level → level ≤ length (tree P M) → IsParallel P M level
  pub none : (level : ℕ) → 1 ≤ level → level ≤ length (tree P M) → ¬ IsSequential P M level
