-- Laws: of Hash: the answers of a call that is refused or accepted, and the digest.
use Rattle.std.specs.Prelude.{◌≡◌, Bool, true, false, cond, List, [], ◌∷◌, ◌++◌, ℕ, suc, ◌-◌, ltb, length, drop, replicate}
use Rattle.std.proofs.Math.Path.{refl}
use Rattle.std.proofs.Common.{sym, ap, ◌∙◌, ltb-false}
use Rattle.lists.specs.Below.{Below}
use Rattle.bits.specs.Bits.{bits_of, numbers}
use Rattle.constants.specs.Constants.{RoundTable, part_entries}
use Rattle.tree.specs.Tree.{Params, key_words, digest, order, digest_bytes}
use Rattle.tree.proofs.TreeLaws.{length-key_words, key_back}
use Rattle.bits.specs.Piece.{Piece, piece_bits, refused_bits, bits_test}
use Rattle.bits.specs.PieceLaws.{length-piece_bits, bits-there}
use Rattle.refusals.specs.Refusals.{first_refusal, param_tests, output_test}
use Rattle.hash.specs.Hash.{hash_number, Hashed, hash_of}
use Rattle.hash.specs.Accepted.{with_key, Accepted, ranges_of, number_for}
use Rattle.refusals.specs.declared.Params as declared
use Rattle.node.specs.Words.{tree_params, Ready}
use Rattle.nodes.specs.Value.{root_value}
use Rattle.nodes.specs.NodeByNode.{root-by-node}
use Rattle.tree.specs.Sizes.{tree_nodes}
use Rattle.tree.proofs.Count.{order-nodes}
use Rattle.refusals.specs.RefusalLaws.{passed-by, passed, first_part, second-part, InRange, ranges-passed, answer_number, answer_refused}

pub number-accepted : (m : Piece) (P : Params) (out : List ℕ) → hash_number m P out ≡ 0 → Accepted m P out
unfolding hash_number
number-accepted m P out e =
    let p = passed-by 0 (bits_test m ∷ param_tests P) (output_test (digest_bytes P.d) out ∷ []) refl e in
    record {
      enough = bits-there m (p.0 0);
      ranges = ranges-passed _ _ _ _ (λ k. p.0 (suc k));
      room = ltb-false _ _ (passed (output_test (digest_bytes P.d) out ∷ []) refl p.1 0);
    }

pub number_for_lem : (m : Piece) (key : List ℕ) (params : declared.Params) (out : List ℕ) → params.keylen ≡ length key
    → number_for m params out ≡ hash_number m (with_key key params) out
unfolding number_for hash_number
number_for_lem m key params out e = rw e

module _ (m : Piece) (params : declared.Params) (out : List ℕ) where
  pub number-bits : refused_bits m ≡ true → 5 ≡ number_for m params out
  unfolding number_for
  number-bits b = rw b

  pub number-ranges : refused_bits m ≡ false → (first_refusal (ranges_of params) ≡ 0 → ⊥)
      → first_refusal (ranges_of params) ≡ number_for m params out
  unfolding number_for
  number-ranges b h = rw b (first_part (ranges_of params) (output_test (digest_bytes params.d) out ∷ []) h)

  -- where neither the bits nor the parameters are refused, the output decides
  pub number-output : refused_bits m ≡ false → first_refusal (ranges_of params) ≡ 0
      → (short : Bool) → ltb (length out) (digest_bytes params.d) ≡ short → cond short 9 0 ≡ number_for m params out
  unfolding number_for
  number-output b h short e =
      rw (b, second-part (ranges_of params) (output_test (digest_bytes params.d) out ∷ []) (passed (ranges_of params) refl h), e)

pub hash_number_lem : (m : Piece) (P : Params) (out : List ℕ) → (hash_of m P out).number ≡ hash_number m P out
unfolding hash_of
hash_number_lem m P out = answer_number (λ (x : Hashed). x.number) (hash_number m P out) _ _ refl (λ k. refl)

pub hash_refused : (m : Piece) (P : Params) (out : List ℕ) (k : ℕ) → k ≡ hash_number m P out → (k ≡ 0 → ⊥)
    → record { number = k; count = 0; digest = out } ≡ hash_of m P out
unfolding hash_of
hash_refused m P out k = answer_refused k (hash_number m P out) _ (λ k. record { number = k; count = 0; digest = out })

pub hash_accepted : (m : Piece) (P : Params) (out : List ℕ) (count : ℕ) (written : List ℕ) → hash_number m P out ≡ 0
    → count ≡ tree_nodes P.limit m.count → written ≡ digest P (piece_bits m) ++ drop (digest_bytes P.d) out
    → record { number = 0; count = count; digest = written } ≡ hash_of m P out
unfolding hash_of
hash_accepted m P out count written e c w =
    let M : List Bool = piece_bits m in
    let l : length M ≡ m.count = length-piece_bits m (number-accepted m P out e).enough in
    let o : length (order P M) ≡ count = order-nodes P M ∙ ap (tree_nodes P.limit) l ∙ sym c in
    rw (e, o, w)

-- ---- the digest

-- K and the numbers of the parameters stand for the parameters with that key
module _
    (key : List ℕ) (params : declared.Params) (bytes : Below 256 key) (size : params.keylen ≡ length key)
    (r : InRange (length key) params.d params.limit params.rounds) where
  pub params-key : tree_params record { k = key_words key; params = params } ≡ with_key key params
  unfolding tree_params
  params-key = rw (size, key_back key bytes r.key_high)

  -- nodes can be made
  pub key-ready : (constants : List ℕ) → RoundTable 0 constants → length constants ≡ part_entries
      → Ready record { k = key_words key; params = params } constants
  key-ready constants rule entries = record {
    range = rw size r;
    words = length-key_words key;
    key = ap (λ (P : Params). key_words P.key) params-key;
    rule = rule;
    size = entries;
  }

pub digest-root : (P : Params) (M : List Bool) (root : List ℕ) → root ≡ root_value P P.limit M
    → numbers 8 (digest_bytes P.d) (drop (1024 - P.d) (bits_of 64 root) ++ replicate 7 false) ≡ digest P M
digest-root P M root e = rw (e, root-by-node P M)
