-- Definitions: the tree of a message. Document 01, "Compression" (K, U, V) and "Tree"; the report, figures 2.4 to 2.6: each level from
-- the one below. A message is a list of bits, and so are the joined outputs of a level.
use Rattle.std.specs.Prelude.{Bool, false, cond, ◌||◌, ℕ, zero, suc, ◌+◌, ◌-◌, ◌*◌, ◌/◌, ◌^◌, ◌≤◌, max, eqb, length, take, drop, replicate}
use mathlib.Core.List.{List, [], ◌∷◌, ◌++◌, map, flatten}
use Rattle.lists.specs.Below.{Below}
use Rattle.bits.specs.Bits.{digit, bits_of, numbers}
use Rattle.compress.specs.Compress.{compressed, window_of}

-- the bits of a block, and those of them that are not chained at the sequential level
abbrev pub block_bits : ℕ
block_bits = 4096

abbrev pub sequential_bits : ℕ
sequential_bits = 3072

-- the bits of an output, and its words
abbrev pub output_bits : ℕ
output_bits = 1024

abbrev pub output_words : ℕ
output_words = 16

-- the most levels of a tree
abbrev pub most_levels : ℕ
most_levels = 27

-- the ranges of document 01's table: the bytes of a key, the bits d of a digest, the height limit L and the rounds r at most; r
-- since M-108: "Number 4 is now for r over 4,095"
abbrev pub most_key_bytes : ℕ
most_key_bytes = 64

abbrev pub most_digest_bits : ℕ
most_digest_bits = 512

abbrev pub most_limit : ℕ
most_limit = 64

abbrev pub most_rounds : ℕ
most_rounds = 4095

-- the key's bytes, the digest size in bits d, the height limit L and the rounds r
pub record Params : Type 0 where
  pub key : List ℕ
  pub d : ℕ
  pub limit : ℕ
  pub rounds : ℕ

-- the ranges of the parameters
pub record Valid (P : Params) : Type 0 where
  pub bytes : Below 256 P.key
  pub key_bytes : length P.key ≤ most_key_bytes
  pub d_low : 1 ≤ P.d
  pub d_high : P.d ≤ most_digest_bits
  pub limit_high : P.limit ≤ most_limit
  pub rounds_high : P.rounds ≤ most_rounds

-- "A node's input is its K, U, V and B": 8 words, two words, and 64 words
pub record Node : Type 0 where
  pub k : List ℕ
  pub u : ℕ
  pub v : ℕ
  pub block : List ℕ

abbrev pub words : ℕ → List Bool → List ℕ
words n bs = numbers 64 n bs

-- "K is the key followed by zero bytes."
unfoldable pub key_words : List ℕ → List ℕ
key_words key = words 8 (bits_of 8 (key ++ replicate (64 - length key) 0))

-- "U = level times 2^56 plus index."
abbrev pub node_u : ℕ → ℕ → ℕ
node_u level index = level * 2 ^ 56 + index

-- a field of so many bits, below those that stand above it
abbrev pub bit_field : ℕ → ℕ → ℕ → ℕ
bit_field above width x = above * 2 ^ width + x

-- "V, high to low: four zero bits, r (12 bits), L (8), z (4), p (16), key bytes (8), d (12)."
abbrev pub node_v : Params → ℕ → ℕ → ℕ
node_v P z p =
    bit_field
    (bit_field (bit_field (bit_field (bit_field (bit_field 0 12 P.rounds) 8 P.limit) 4 z) 16 p) 8 (length P.key))
    12 P.d

abbrev pub node : Params → ℕ → ℕ → ℕ → ℕ → List ℕ → Node
node P level index z p block = record { k = key_words P.key; u = node_u level index; v = node_v P z p; block = block }

-- the 1,024 bits that r rounds of compression make of a node's input
unfoldable pub output : ℕ → Node → List Bool
output r n = bits_of 64 (compressed r (window_of n.k n.u n.v n.block))

-- the words of a node's output
unfoldable pub out_words : Params → Node → List ℕ
out_words P m = words output_words (output P.rounds m)

-- "pad with zero bits to a positive multiple" of a size: how many blocks of that size m bits fill, and the zero bits
abbrev pub blocks : ℕ → ℕ → ℕ
blocks size m = max 1 ((m + (size - 1)) / size)

abbrev pub padding : ℕ → ℕ → ℕ
padding size m = size * blocks size m - m

abbrev pub padded : ℕ → List Bool → List Bool
padded size M = M ++ replicate (padding size (length M)) false

-- "each 4,096 bits are one node, indexed from 0": n nodes from an index on, of the bits X; the last has p padding bits
abbrev pub par : Params → ℕ → ℕ → ℕ → ℕ → ℕ → List Bool → List Node
par P level z p index zero X = []
par P level z p index (suc zero) X = node P level index z p (words 64 X) ∷ []
par P level z p index (suc (suc n)) X = node P level index z 0 (words 64 X) ∷ par P level z p (suc index) (suc n) (drop block_bits X)

-- "node i takes the output of node i - 1 (16 zero words for the first) and then its 3,072 bits; the last is the root":
-- n nodes from an index on, of the bits X, the first of them after the output chain
abbrev pub seq : Params → ℕ → ℕ → ℕ → List Bool → ℕ → List Bool → List Node
seq P level p index chain zero X = []
seq P level p index chain (suc zero) X = node P level index 1 p (words 16 chain ++ words 48 X) ∷ []
seq P level p index chain (suc (suc n)) X =
    let a : Node = node P level index 0 0 (words 16 chain ++ words 48 X) in
    a ∷ seq P level p (suc index) (output P.rounds a) (suc n) (drop sequential_bits X)

unfoldable pub no_chain : List Bool
no_chain = replicate output_bits false

-- a level over the bits M; z is 1 if it has one node only
abbrev pub parallel : Params → ℕ → Bool → List Bool → List Node
parallel P level alone M = par P level (digit alone) (padding block_bits (length M)) 0 (blocks block_bits (length M)) (padded block_bits M)

abbrev pub sequential : Params → ℕ → List Bool → List Node
sequential P level M =
    seq P level (padding sequential_bits (length M)) 0 no_chain (blocks sequential_bits (length M)) (padded sequential_bits M)

-- the outputs of a level, joined
abbrev pub joined_outputs : Params → List Node → List Bool
joined_outputs P ns = flatten (map (output P.rounds) ns)

-- the levels from this one up, over the bits M; n of them may be parallel, and the one above those is sequential;
-- "One node only: it is the root": no level stands above it
abbrev pub levels : Params → ℕ → ℕ → List Bool → List (List Node)
levels P zero level M = sequential P level M ∷ []
levels P (suc n) level M =
    let alone : Bool = eqb (blocks block_bits (length M)) 1 in
    let ns : List Node = parallel P level alone M in
    let above : List (List Node) = levels P n (suc level) (joined_outputs P ns) in
    cond alone (ns ∷ []) (ns ∷ above)

-- "Levels count from 1. Level 1 works on the message, each higher level on the outputs below, joined."
abbrev pub tree : Params → List Bool → List (List Node)
tree P M = levels P P.limit 1 M

abbrev pub last_or {ℓ} : {A : Type ℓ} → A → List A → A
last_or x [] = x
last_or x (y ∷ ys) = last_or y ys

abbrev pub no_node : Node
no_node = record { k = []; u = 0; v = 0; block = [] }

-- the root is the last node of the last level
abbrev pub root_of : List (List Node) → Node
root_of T = last_or no_node (last_or [] T)

abbrev pub root : Params → List Bool → Node
root P M = root_of (tree P M)

-- "The digest is the last d bits of the root's output, first bit in the high bit of the first byte, unused low bits zero."
abbrev pub root_bits : Params → Node → List Bool
root_bits P m = drop (output_bits - P.d) (output P.rounds m)

-- the bytes of a digest of d bits
abbrev pub digest_bytes : ℕ → ℕ
digest_bytes d = (d + 7) / 8

-- the digest that a root gives, and that of a message
abbrev pub root_digest : Params → Node → List ℕ
root_digest P m = numbers 8 (digest_bytes P.d) (root_bits P m ++ replicate 7 false)

abbrev pub digest_bits : Params → List Bool → List Bool
digest_bits P M = root_bits P (root P M)

abbrev pub digest : Params → List Bool → List ℕ
digest P M = root_digest P (root P M)

-- ---- the order of nodes

-- a node, and whether it reaches the message's last bit
pub record Mark : Type 0 where
  pub node : Node
  pub reaches : Bool

-- a subtree: its top, and all its nodes in their order
pub record Subtree : Type 0 where
  pub top : Mark
  pub nodes : List Mark

-- "A node reaches the last bit if it is the level-1 node whose block has the message's last bit": that with index `last`;
-- "the one node of the empty message counts as reaching it"
abbrev pub leaves : ℕ → ℕ → List Node → List Subtree
leaves last index [] = []
leaves last index (n ∷ ns) =
    let m : Mark = record { node = n; reaches = eqb index last } in
    record { top = m; nodes = m ∷ [] } ∷ leaves last (suc index) ns

-- "or if a child of it reaches the last bit"
abbrev pub any_reaches : List Subtree → Bool
any_reaches [] = false
any_reaches (s ∷ ss) = s.top.reaches || any_reaches ss

abbrev pub listing : List Subtree → List Mark
listing ss = flatten (map (λ (s : Subtree). s.nodes) ss)

-- "each right after its last child, children from the left"
abbrev pub parent : Node → List Subtree → Subtree
parent n children =
    let m : Mark = record { node = n; reaches = any_reaches children } in
    record { top = m; nodes = listing children ++ (m ∷ []) }

-- the nodes of a level over the subtrees below it, each with its number of children;
-- "a sequential node also after the node before it" holds since subtrees are listed from the left
abbrev pub parents : ℕ → List Subtree → List Node → List Subtree
parents children below [] = []
parents children below (n ∷ ns) = parent n (take children below) ∷ parents children (drop children below) ns

-- up through the levels: four children to a node of a parallel level, of which n are left, three to a sequential one
abbrev pub climb : ℕ → List Subtree → List (List Node) → List Subtree
climb n below [] = below
climb zero below (ns ∷ above) = parents 3 below ns
climb (suc n) below (ns ∷ above) = climb n (parents 4 below ns) above

abbrev pub last_index : ℕ → ℕ → ℕ
last_index size m = (m - 1) / size

-- the subtrees of the top level, for a message of m bits
abbrev pub subtrees : ℕ → ℕ → List (List Node) → List Subtree
subtrees limit m [] = []
subtrees zero m (ns ∷ above) = leaves (last_index sequential_bits m) 0 ns
subtrees (suc n) m (ns ∷ above) = climb n (leaves (last_index block_bits m) 0 ns) above

-- the nodes of a message's tree in their order, each with its mark
abbrev pub order : Params → List Bool → List Mark
order P M = listing (subtrees P.limit (length M) (tree P M))

-- ---- the log

-- "U and V of each node, in order"
abbrev pub node_log : List Node → List ℕ
node_log [] = []
node_log (m ∷ ms) = m.u ∷ m.v ∷ node_log ms

-- ".. to a lent log of words from its first; the rest of the log stays"
abbrev pub logged : List Node → List ℕ → List ℕ
logged nodes log = node_log nodes ++ drop (2 * length nodes) log
