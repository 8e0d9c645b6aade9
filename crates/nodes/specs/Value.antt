-- Laws: the value of a node, worked out node by node: at level 1 from the message, above it from the values one level below, and
-- along the chain at the sequential level. This is the way of the code; that each value is the output of the node at that
-- place of the levels is a theorem (NodeByNode).
use Rattle.std.specs.Prelude.{Bool, false, cond, List, [], ◌++◌, ℕ, zero, suc, ◌+◌, ◌-◌, ◌*◌, eqb, ltb, length, take, drop, replicate}
use Rattle.bits.specs.Bits.{digit}
use Rattle.tree.specs.Tree.{Params, words, block_bits, sequential_bits}
use Rattle.tree.proofs.Count.{level_nodes}
use Rattle.shape.specs.Shape.{taken, block_padding, sequential_nodes, sequential_padding, top_level}
use Rattle.node.specs.Words.{node_words}

-- the message bits that a node at an index takes, and zero bits after them
abbrev pub message_part : ℕ → List Bool → ℕ → List Bool
message_part size M index = take size (drop (size * index) M) ++ replicate (size - taken size (length M) index) false

-- the values f of n nodes from an index on, joined
unfoldable pub joined_values : (ℕ → List ℕ) → ℕ → ℕ → List ℕ
joined_values f index zero = []
joined_values f index (suc n) = joined_values f index n ++ f (index + n)

-- the values of n children from an index on, and zero words after them, for a block that has room for so many
abbrev pub child_words : (ℕ → List ℕ) → ℕ → ℕ → ℕ → List ℕ
child_words f room index n = joined_values f index n ++ replicate (16 * (room - n)) 0

-- the 64 words of the block of the node at a parallel level and an index: at level 1 from the message, above it from the values f of
-- the nodes one level below
unfoldable pub block_from : (ℕ → List ℕ) → List Bool → ℕ → ℕ → List ℕ
block_from f M zero index = []
block_from f M (suc zero) index = words 64 (message_part block_bits M index)
block_from f M (suc (suc level)) index = child_words f 4 (4 * index) (taken 4 (level_nodes (length M) (suc level)) index)

-- the value of the node at a parallel level and an index; z is 1 at the root
unfoldable pub value : Params → List Bool → ℕ → ℕ → ℕ → List ℕ
value P M zero index z = []
value P M (suc level) index z =
    node_words P (suc level) index z (block_padding (length M) (suc level) index) (block_from (λ j. value P M level j 0) M (suc level) index)

-- the values of the nodes of a parallel level that are children of others, so that none is the root
abbrev pub level_values : Params → List Bool → ℕ → ℕ → List ℕ
level_values P M level index = value P M level index 0

-- the block of the node at a parallel level and an index
abbrev pub node_block : Params → List Bool → ℕ → ℕ → List ℕ
node_block P M level index = block_from (level_values P M (level - 1)) M level index

-- ---- the sequential level, above so many parallel ones

-- the 48 words that the node at an index takes beside the chain
unfoldable pub sequential_words : Params → ℕ → List Bool → ℕ → List ℕ
sequential_words P zero M index = words 48 (message_part sequential_bits M index)
sequential_words P (suc level) M index =
    child_words (level_values P M (suc level)) 3 (3 * index) (taken 3 (level_nodes (length M) (suc level)) index)

-- the value of the node at an index and with z, from the chain before it
abbrev pub chained : Params → ℕ → List Bool → ℕ → ℕ → List ℕ → List ℕ
chained P limit M index z before =
    node_words P (suc limit) index z (sequential_padding limit (length M) index) (before ++ sequential_words P limit M index)

-- the chain after n nodes: 16 zero words, and then the value of the node before; z is 1 at the last
unfoldable pub chain : Params → ℕ → List Bool → ℕ → List ℕ
chain P limit M zero = replicate 16 0
chain P limit M (suc index) = chained P limit M index (digit (eqb (suc index) (sequential_nodes limit (length M)))) (chain P limit M index)

-- the value of the level's last node
abbrev pub last_chained : Params → ℕ → List Bool → List ℕ
last_chained P limit M = chain P limit M (sequential_nodes limit (length M))

-- ---- the whole tree

-- the value of the node at a level and an index of the tree
unfoldable pub value_at : Params → ℕ → List Bool → ℕ → ℕ → List ℕ
value_at P limit M level index =
    cond (ltb limit level) (chain P limit M (suc index)) (value P M level index (digit (eqb (level_nodes (length M) level) 1)))

-- the root's value
unfoldable pub root_value : Params → ℕ → List Bool → List ℕ
root_value P limit M =
    let top : ℕ = top_level limit (length M) in
    cond (ltb limit top) (last_chained P limit M) (value P M top 0 1)
