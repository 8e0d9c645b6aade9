-- Definitions: the terms of the theorems about layers in LayerLaws.
use mathlib.Core.List.{List, [], ◌∷◌, flatten}
use Rattle.std.specs.Prelude.{ℕ, ◌+◌, length, take}
use Rattle.tree.specs.Tree.{Node}

-- where the node of a level and an index stands in the order of layers: after all nodes of the levels below and those of lower index in
-- its own level; levels count from 1, as in `level_at`
abbrev pub layer_place : List (List Node) → ℕ → ℕ → ℕ
layer_place T level index = length (flatten (take level ([] ∷ T))) + index
