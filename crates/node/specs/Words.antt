-- Laws: the words of a node, and what the code that makes nodes is given.
use Rattle.std.specs.Prelude.{◌≡◌, List, ℕ, ◌^◌, ◌<◌, length, replicate}
use Rattle.bits.specs.Bits.{bits_of, numbers}
use Rattle.constants.specs.Constants.{RoundTable, part_entries}
use Rattle.tree.specs.Tree.{Params, Node, key_words, node, out_words}
use Rattle.refusals.specs.RefusalLaws.{InRange}
use Rattle.refusals.specs.declared.Params as declared
use Rattle.node.specs.declared.Place.{Place}
use Rattle.node.specs.declared.Keyed.{Keyed}

-- the words of a node's output, by its numbers
abbrev pub node_words : Params → ℕ → ℕ → ℕ → ℕ → List ℕ → List ℕ
node_words P level index z p block = out_words P (node P level index z p block)

-- the node with a place and a block
abbrev pub placed : Params → Place → List ℕ → Node
placed P place block = node P place.level place.index place.z place.p block

-- what one node needs: numbers that fit the fields of U and V, and a block of 64 words
abbrev pub FieldsFit : Place → List ℕ → Type 0
FieldsFit place block = (place.level < 256) × (place.index < 2 ^ 56) × (place.z < 16) × (place.p < 65536) × (length block ≡ 64)

-- parameters with a key of so many zero bytes: V tells no more of the key than how many bytes it has
abbrev pub sized : declared.Params → Params
sized params = record { key = replicate params.keylen 0; d = params.d; limit = params.limit; rounds = params.rounds }

-- the parameters that the words of K and four numbers stand for
unfoldable pub tree_params : Keyed → Params
tree_params keyed = record {
  key = numbers 8 keyed.params.keylen (bits_of 64 keyed.k);
  d = keyed.params.d;
  limit = keyed.params.limit;
  rounds = keyed.params.rounds;
}

-- what every node needs: parameters in range, K as words, and the round constants of the first part of their table
pub record Ready (keyed : Keyed) (constants : List ℕ) : Type 0 where
  pub range : InRange keyed.params.keylen keyed.params.d keyed.params.limit keyed.params.rounds
  pub words : length keyed.k ≡ 8
  pub key : key_words (tree_params keyed).key ≡ keyed.k
  pub rule : RoundTable 0 constants
  pub size : length constants ≡ part_entries
