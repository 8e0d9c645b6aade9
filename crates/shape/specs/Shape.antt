-- Laws: the shape of a tree, by formulas on the number of bits: what a node takes and its padding bits, the nodes of the sequential
-- level, and the root's level. This is the way of the code; that the tree has this shape is shown where it is used (`nodes`, `layers`).
use Rattle.std.specs.Prelude.{cond, ℕ, zero, suc, ◌-◌, ◌*◌, min, eqb}
use Rattle.tree.specs.Tree.{block_bits, sequential_bits, output_bits, blocks}
use Rattle.tree.proofs.Count.{level_nodes}

-- how many of m things a node takes that stands at an index and takes so many at most
abbrev pub taken : ℕ → ℕ → ℕ → ℕ
taken size m index = min size (m - size * index)

-- the padding bits in the block of the node at a parallel level and an index, for a message of so many bits
unfoldable pub block_padding : ℕ → ℕ → ℕ → ℕ
block_padding m zero index = 0
block_padding m (suc zero) index = block_bits - taken block_bits m index
block_padding m (suc (suc level)) index = output_bits * (4 - taken 4 (level_nodes m (suc level)) index)

-- ---- the sequential level, above so many parallel ones

unfoldable pub sequential_nodes : ℕ → ℕ → ℕ
sequential_nodes zero m = blocks sequential_bits m
sequential_nodes (suc level) m = blocks sequential_bits (output_bits * level_nodes m (suc level))

-- the padding bits of the node at an index
unfoldable pub sequential_padding : ℕ → ℕ → ℕ → ℕ
sequential_padding zero m index = sequential_bits - taken sequential_bits m index
sequential_padding (suc level) m index = output_bits * (3 - taken 3 (level_nodes m (suc level)) index)

-- ---- the whole tree

-- the root's level: the first of one node, from a level on with n parallel ones left, and otherwise the sequential one
unfoldable pub top_from : ℕ → ℕ → ℕ → ℕ
top_from m zero level = level
top_from m (suc n) level = cond (eqb (level_nodes m level) 1) level (top_from m n (suc level))

abbrev pub top_level : ℕ → ℕ → ℕ
top_level limit m = top_from m limit 1
