-- Examples: lists cut by sizes, by computing.
use Rattle.std.specs.Prelude.{◌≡◌, refl, List, [], ◌∷◌, ℕ}
use Rattle.lists.specs.Cut.{cut_by, past_parts}

abbrev list : List ℕ
list = 5 ∷ 6 ∷ 7 ∷ 8 ∷ []

-- two parts, and one element that neither has
pub two-parts : (cut_by (2 ∷ 1 ∷ []) list ≡ (5 ∷ 6 ∷ []) ∷ (7 ∷ []) ∷ []) × (past_parts (2 ∷ 1 ∷ []) list ≡ 8 ∷ [])
two-parts = (refl, refl)

-- a size past the end: its part ends with the list, and those after it are empty
pub past_the_end : (cut_by (3 ∷ 2 ∷ 1 ∷ []) list ≡ (5 ∷ 6 ∷ 7 ∷ []) ∷ (8 ∷ []) ∷ [] ∷ []) × (past_parts (3 ∷ 2 ∷ 1 ∷ []) list ≡ [])
past_the_end = (refl, refl)

-- sizes of zero: empty parts, which move no other
pub sizes_of_zero : (cut_by (0 ∷ 3 ∷ 0 ∷ []) list ≡ [] ∷ (5 ∷ 6 ∷ 7 ∷ []) ∷ [] ∷ []) × (past_parts (0 ∷ 3 ∷ 0 ∷ []) list ≡ 8 ∷ [])
sizes_of_zero = (refl, refl)
