-- Definitions: how many nodes a tree has, by formulas on the number of bits and the height limit. That the tree has so many is a theorem
-- (Count). The area's word 14 is such a number, and the log words that are told for the call by layers are twice such a number.
use Rattle.std.specs.Prelude.{cond, ℕ, zero, suc, ◌+◌, eqb}
use Rattle.tree.specs.Tree.{block_bits, sequential_bits, blocks}

-- the nodes from a level of c nodes up; n of the levels above it may be parallel, and the one above those is sequential;
-- "One node only: it is the root"
abbrev pub nodes_from : ℕ → ℕ → ℕ
nodes_from zero c = cond (eqb c 1) c (c + blocks 3 c)
nodes_from (suc n) c = cond (eqb c 1) c (c + nodes_from n (blocks 4 c))

-- the nodes of a tree for a height limit and a message of m bits
abbrev pub tree_nodes : ℕ → ℕ → ℕ
tree_nodes zero m = blocks sequential_bits m
tree_nodes (suc n) m = nodes_from n (blocks block_bits m)
