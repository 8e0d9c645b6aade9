-- Laws: the terms of the code's contracts: a layer of the tree, the bits that it works on, and what the node at an index takes of them.
use Rattle.std.specs.Prelude.{◌≡◌, Bool, cond, ◌⊎◌, List, ℕ, ◌-◌, ◌*◌, ◌/◌, ◌%◌, ◌^◌, ◌≤◌, ◌<◌, eqb, ltb, length, take}
use Rattle.std.proofs.Math.Seq.{paste}
use Rattle.lists.specs.Part.{put}
use Rattle.bits.specs.Bits.{digit, bits_of}
use Rattle.bits.specs.PieceLaws.{spanned, span_bits, Fits}
use Rattle.tree.specs.Tree.{Params, Node, block_bits, sequential_bits, blocks, parallel, sequential, node_v, node_log, out_words}
use Rattle.tree.proofs.TreeLaws.{last_only}
use Rattle.refusals.specs.declared.Params as declared
use Rattle.node.specs.declared.Place.{Place}
use Rattle.node.specs.Words.{sized, placed}
use Rattle.shape.specs.Shape.{taken}
use Rattle.nodes.specs.Value.{message_part}
use Rattle.layer.specs.declared.Layer.{Layer}

-- ---- a layer

-- the bits that each node of a level takes
abbrev pub size_of : ℕ → ℕ → ℕ
size_of limit level = cond (ltb limit level) sequential_bits block_bits

-- how many nodes a layer has
abbrev pub nodes_in : Layer → ℕ
nodes_in l = blocks l.size l.span.bits

-- its nodes take the bits of a block or those of a sequential one, and U has room for their places
pub record Counted (l : Layer) : Type 0 where
  pub kind : (l.size ≡ block_bits) ⊎ (l.size ≡ sequential_bits)
  pub low : l.level < 256
  pub nodes : nodes_in l < 2 ^ 53

-- and words have room for an output of each
pub record Fitting (ws : List ℕ) (l : Layer) : Type 0 where
  pub counted : Counted l
  pub room : 16 * nodes_in l ≤ length ws

-- its nodes over the bits X
abbrev pub layer_nodes : Params → Layer → List Bool → List Node
layer_nodes P l X = cond (eqb l.size block_bits) (parallel P l.level (eqb (blocks block_bits (length X)) 1) X) (sequential P l.level X)

-- ---- the bits that it works on

-- as the code finds them: at level 1 those of the message's bytes, above it those of the first words
abbrev pub source : List ℕ → List ℕ → Layer → List Bool
source bytes ws l = cond (eqb l.level 1) (span_bits bytes l.span) (bits_of 64 (take (l.span.bits / 64) ws))

-- they are there
pub record Source (bytes ws : List ℕ) (l : Layer) : Type 0 where
  pub message : l.level ≡ 1 → Fits (spanned bytes l.span)
  pub above : (l.level ≡ 1 → ⊥) → (l.span.bits % 64 ≡ 0) × (l.span.bits ≤ 64 * length ws)
  pub whole : l.size % 64 ≡ 0

-- what the node at an index takes of them, and zero bits after it
abbrev pub taken_at : List ℕ → List ℕ → Layer → ℕ → List Bool
taken_at bytes ws l index = message_part l.size (source bytes ws l) index

-- ---- the node at an index

-- z of it, of so many at a level whose nodes take so many bits each
abbrev pub flag_of : ℕ → ℕ → ℕ → ℕ
flag_of size nodes index = cond (eqb size block_bits) (digit (eqb nodes 1)) (last_only nodes index 1)

-- where it stands
abbrev pub place_of : Layer → ℕ → Place
place_of l index = record {
  level = l.level;
  index = index;
  z = flag_of l.size (nodes_in l) index;
  p = l.size - taken l.size l.span.bits index;
}

-- the words of its output, by its block
abbrev pub output_at : Params → Layer → ℕ → List ℕ → List ℕ
output_at P l index block = out_words P (placed P (place_of l index) block)

-- the words with an output c at an index
abbrev pub put_output : List ℕ → ℕ → List ℕ → List ℕ
put_output ws index c = paste ws (16 * index) c (length c)

-- ---- the log

-- U and V of a layer's nodes stand in a log from a place on: they do not depend on the bits X that it works on, and only V's numbers
-- matter of the parameters
abbrev pub LayerLogged : declared.Params → Layer → ℕ → List ℕ → List ℕ → Type 0
LayerLogged params l at log₀ log =
    (P : Params) (X : List Bool) → ((z p : ℕ) → node_v (sized params) z p ≡ node_v P z p) → length X ≡ l.span.bits
    → log ≡ put at (2 * nodes_in l) log₀ (node_log (layer_nodes P l X))
