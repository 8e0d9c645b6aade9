-- Definitions: what the call that works layer by layer answers. Document 02, M-100: "the method that the report calls layer by layer:
-- every node of a level before any of the next" (the report, section 4.1.1.1); and M-104, for the start bit.
use Rattle.std.specs.Prelude.{Bool, ℕ, zero, suc, ◌*◌, ltb, length, take, drop}
use mathlib.Core.List.{List, [], ◌∷◌, ◌++◌, flatten}
use Rattle.bits.specs.Piece.{Piece, piece_bits}
use Rattle.tree.specs.Tree.{Params, Node, block_bits, sequential_bits, blocks, tree, last_or, no_node, digest_bytes, digest}
use Rattle.tree.specs.Tree.{output_words, out_words, logged}
use Rattle.tree.specs.Place.{level_at}
use Rattle.tree.specs.Sizes.{tree_nodes}
use Rattle.refusals.specs.Refusals.{first_refusal, answer_of, Told, told_for, log_test}
use Rattle.hash.specs.Hash.{hash_tests}

-- ---- the order of nodes

-- "The order of nodes is level by level, index by index": the levels of the tree, joined
abbrev pub layer_order : Params → List Bool → List Node
layer_order P M = flatten (tree P M)

-- ---- the lent words

-- "It works in lent words, 16 for each level-1 node."
abbrev pub words_used : List (List Node) → ℕ
words_used T = output_words * length (level_at T 1)

-- the nodes of an index, from level 1 up: one of each level that has so many
abbrev pub nodes_at_index : List (List Node) → ℕ → List Node
nodes_at_index [] index = []
nodes_at_index (ns ∷ above) index = take 1 (drop index ns) ++ nodes_at_index above index

-- "the highest node of that index"
abbrev pub highest_node : List (List Node) → ℕ → Node
highest_node T index = last_or no_node (nodes_at_index T index)

-- "16 for each index, the output of the highest node of that index", for n indices, from a given one on
abbrev pub highest_outputs : Params → List (List Node) → ℕ → ℕ → List ℕ
highest_outputs P T index zero = []
highest_outputs P T index (suc n) = out_words P (highest_node T index) ++ highest_outputs P T (suc index) n

-- "The words used end with [them]; those past them stay as they were."
unfoldable pub words_after : Params → List (List Node) → List ℕ → List ℕ
words_after P T words = highest_outputs P T 0 (length (level_at T 1)) ++ drop (words_used T) words

-- ---- the call

-- "Numbers 7 (too few words) and 8"
abbrev pub lent_tests : Params → List Bool → List ℕ → List ℕ → List (Bool × ℕ)
lent_tests P M words log = (ltb (length words) (words_used (tree P M)), 7) ∷ log_test (length (layer_order P M)) log ∷ []

-- they "follow the whole-message checks"
unfoldable pub layers_number : Piece → Params → List ℕ → List ℕ → List ℕ → ℕ
layers_number message P words log out = first_refusal (hash_tests message P out ++ lent_tests P (piece_bits message) words log)

-- the number, the count, and all that was lent, on exit
pub record Layered : Type 0 where
  pub number : ℕ
  pub count : ℕ
  pub words : List ℕ
  pub log : List ℕ
  pub digest : List ℕ

-- the message is given as a piece, with its start bit; the count is the nodes of its tree, and they stand in a "log like the stream's"
unfoldable pub layers_of : Piece → Params → List ℕ → List ℕ → List ℕ → Layered
layers_of message P words log out =
    let M : List Bool = piece_bits message in
    let nodes : List Node = layer_order P M in
    answer_of (layers_number message P words log out)
    record {
      number = 0;
      count = length nodes;
      words = words_after P (tree P M) words;
      log = logged nodes log;
      digest = digest P M ++ drop (digest_bytes P.d) out;
    }
    (λ k. record { number = k; count = 0; words = words; log = log; digest = out })

-- ---- how many words and log words a message of so many bits needs, for an L

-- the nodes of level 1
abbrev pub first_nodes : ℕ → ℕ → ℕ
first_nodes zero m = blocks sequential_bits m
first_nodes (suc n) m = blocks block_bits m

-- the words, and the words of log: "3, 0: L over 64"; that the call needs just so many is a theorem (LayerLaws)
unfoldable pub layer_words_of : ℕ → ℕ → Told
layer_words_of bits limit = told_for limit (output_words * first_nodes limit bits)

unfoldable pub layer_log_words_of : ℕ → ℕ → Told
layer_log_words_of bits limit = told_for limit (2 * tree_nodes limit bits)
