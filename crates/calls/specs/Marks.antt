-- Definitions: which nodes of a tree's listing a log has. Document 01, "Runs": "all of them if an end was accepted, otherwise those that do
-- not reach the last bit".
use Rattle.std.specs.Prelude.{true, false, List, [], ◌∷◌, map}
use Rattle.tree.specs.Tree.{Node, Mark}

abbrev pub all_nodes : List Mark → List Node
all_nodes ms = map (λ (m : Mark). m.node) ms

abbrev pub settled : List Mark → List Node
settled [] = []
settled (m ∷ ms) = elim m.reaches [ true ↦ settled ms | false ↦ m.node ∷ settled ms ]
