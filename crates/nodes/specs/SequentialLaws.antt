-- Laws: for the code of the sequential level.
use Rattle.std.specs.Prelude.{◌≡◌, Bool, List, ◌++◌, ℕ, zero, suc, ◌+◌, ◌*◌, ◌≤◌, ◌<◌, eqb, length}
use Rattle.std.proofs.Common.{sym, lt-ltb, le-ltb, arith}
use Rattle.bits.specs.Bits.{digit}
use Rattle.tree.specs.Tree.{Params, words, sequential_bits}
use Rattle.bits.specs.Piece.{Piece, piece_bits}
use Rattle.node.specs.Words.{node_words}
use Rattle.shape.specs.Shape.{taken, sequential_nodes, sequential_padding, top_level}
use Rattle.nodes.specs.Value.{message_part, child_words, value, level_values, sequential_words, chained, chain, last_chained, root_value}
use Rattle.tree.proofs.Count.{level_nodes}
use Rattle.nodes.specs.ValueLaws.{chain-suc}
use Rattle.bits.specs.PieceLaws.{Fits, length-piece_bits}

-- ---- words

pub words-message : (P : Params) (limit : ℕ) (M : List Bool) (index : ℕ) → limit ≡ 0
    → words 48 (message_part sequential_bits M index) ≡ sequential_words P limit M index
unfolding sequential_words
words-message P limit M index e = rw e

pub words_children : (P : Params) (limit : ℕ) (m : Piece) (index n : ℕ) → 0 < limit → Fits m
    → n ≡ taken 3 (level_nodes m.count limit) index
    → child_words (level_values P (piece_bits m) limit) 3 (3 * index) n ≡ sequential_words P limit (piece_bits m) index
unfolding sequential_words
words_children P zero m index n h g en = absurd (omega arith)
words_children P (suc l) m index n h g en = rw (length-piece_bits m g, en)

-- ---- the chain

-- the value of a node, from its block
pub chained-made : (P : Params) (limit : ℕ) (m : Piece) (index z p : ℕ) (before block : List ℕ) → Fits m
    → p ≡ sequential_padding limit m.count index → block ≡ before ++ sequential_words P limit (piece_bits m) index
    → node_words P (limit + 1) index z p block ≡ chained P limit (piece_bits m) index z before
chained-made P limit m index z p before block g ep eb =
    let s : limit + 1 ≡ suc limit = omega arith in
    rw (s, ep, eb, length-piece_bits m g)

-- the chain goes on
pub chain_more : (P : Params) (limit : ℕ) (m : Piece) (index z : ℕ) (last : List ℕ) → Fits m
    → z ≡ digit (eqb (suc index) (sequential_nodes limit m.count)) → last ≡ chain P limit (piece_bits m) index
    → chained P limit (piece_bits m) index z last ≡ chain P limit (piece_bits m) (index + 1)
chain_more P limit m index z last g ez el =
    let t : index + 1 ≡ suc index = omega arith in
    let e : z ≡ digit (eqb (suc index) (sequential_nodes limit (length (piece_bits m)))) = rw (length-piece_bits m g) ez in
    rw (t, e, el) (sym (chain-suc P (piece_bits m) limit index))

-- and ends
pub chain-all : (P : Params) (limit : ℕ) (m : Piece) (n : ℕ) (last : List ℕ) → Fits m → n ≡ sequential_nodes limit m.count
    → last ≡ chain P limit (piece_bits m) n → last ≡ last_chained P limit (piece_bits m)
chain-all P limit m n last g en el = rw (el, en, length-piece_bits m g)

-- ---- the root

pub root-chain : (P : Params) (limit : ℕ) (m : Piece) → Fits m → limit < top_level limit m.count
    → last_chained P limit (piece_bits m) ≡ root_value P limit (piece_bits m)
unfolding root_value
root-chain P limit m g h = rw (length-piece_bits m g, lt-ltb limit (top_level limit m.count) h)

pub root-parallel : (P : Params) (limit : ℕ) (m : Piece) → Fits m → top_level limit m.count ≤ limit
    → value P (piece_bits m) (top_level limit m.count) 0 1 ≡ root_value P limit (piece_bits m)
unfolding root_value
root-parallel P limit m g h = rw (length-piece_bits m g, le-ltb limit (top_level limit m.count) h)
