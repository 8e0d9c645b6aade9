-- Laws: of Words: a node's words are 16, each below 2 ^ 64, and they are what the compression gives.
use Rattle.std.specs.Prelude.{◌≡◌, refl, ℕ, ◌^◌}
use Rattle.std.proofs.Math.Path.{sym, ap}
use Rattle.std.proofs.Common.{◌∙◌, arith}
use mathlib.Core.List.{List}
use Rattle.std.proofs.Math.ListN.{length, length-replicate}
use Rattle.std.proofs.Math.Seq.{take_all}
use Rattle.lists.specs.Below.{Below}
use Rattle.bits.specs.Bits.{bits_of}
use Rattle.bits.specs.BitsLaws.{length-numbers, numbers-below, bits_of-numbers}
use Rattle.compress.specs.Compress.{compressed, window_of}
use Rattle.tree.specs.Tree.{Params, Node, Valid, node_u, node_v, node, output, out_words}
use Rattle.tree.proofs.TreeLaws.{length-key_words, key_words-below, node_u-below, node_v-below, length-output-node, words-output}
use Rattle.node.specs.declared.Place.{Place}
use Rattle.node.specs.declared.Keyed.{Keyed}
use Rattle.node.specs.Words.{sized, node_words, placed, FieldsFit, tree_params, Ready}

module _ (P : Params) (level index z p : ℕ) (block : List ℕ) where
  pub length-node_words : length (node_words P level index z p block) ≡ 16
  unfolding out_words
  length-node_words = length-numbers 64 16 (output P.rounds (node P level index z p block))

  pub below-node_words : Below (2 ^ 64) (node_words P level index z p block)
  unfolding out_words
  below-node_words = numbers-below 64 16 (output P.rounds (node P level index z p block))

  -- their bits are the output
  pub output-words : length block ≡ 64 → output P.rounds (node P level index z p block) ≡ bits_of 64 (node_words P level index z p block)
  unfolding out_words
  output-words h =
      let o = output P.rounds (node P level index z p block) in
      let l : length o ≡ 1024 = length-output-node P P.rounds level index z p block h in
      sym (bits_of-numbers 64 16 o (omega arith) ∙ take_all 1024 o (omega arith))

pub limit_of : (keyed : Keyed) → (tree_params keyed).limit ≡ keyed.params.limit
unfolding tree_params
limit_of keyed = refl

module _ {keyed : Keyed} {constants : List ℕ} (ready : Ready keyed constants) where
  abbrev P : Params
  P = tree_params keyed

  valid : Valid P
  unfolding tree_params
  valid = record {
    bytes = numbers-below 8 keyed.params.keylen (bits_of 64 keyed.k);
    key_bytes = rw (length-numbers 8 keyed.params.keylen (bits_of 64 keyed.k)) ready.range.key_high;
    d_low = ready.range.d_low;
    d_high = ready.range.d_high;
    limit_high = ready.range.limit_high;
    rounds_high = ready.range.rounds_high;
  }

  pub v-made : (z p : ℕ) → node_v (sized keyed.params) z p ≡ node_v P z p
  unfolding tree_params
  v-made z p = rw (length-numbers 8 keyed.params.keylen (bits_of 64 keyed.k), length-replicate {A = ℕ} keyed.params.keylen 0)

  pub words-made : (place : Place) (block w : List ℕ) → FieldsFit place block → Below (2 ^ 64) block
      → w ≡ window_of keyed.k (node_u place.level place.index) (node_v (sized keyed.params) place.z place.p) block
      → compressed keyed.params.rounds w ≡ out_words P (placed P place block)
  unfolding out_words tree_params
  words-made place block w f below e =
      let N : Node = placed P place block in
      ap (compressed keyed.params.rounds) (e ∙ ap (λ (v : ℕ). window_of keyed.k N.u v block) (v-made place.z place.p))
      ∙ ap (λ (K : List ℕ). compressed P.rounds (window_of K N.u N.v block)) (sym ready.key)
      ∙ sym (words-output P.rounds N (length-key_words P.key) f.4
      (record {
        k = key_words-below P.key;
        u = node_u-below place.level place.index f.0 f.1;
        v = node_v-below P place.z place.p valid f.2 f.3;
        block = below;
      }))
