-- Laws: for the code of the call: its numbers, what an accepted call knows, and the digest.
use Rattle.std.specs.Prelude.{◌≡◌, Bool, true, false, ℕ, ◌-◌, ◌*◌, ◌≤◌, eqb, length, take, drop, replicate, Result, Err, IsErrAnd}
use Rattle.std.proofs.Math.Path.{refl}
use Rattle.std.proofs.Common.{sym, ap, ◌∙◌}
use mathlib.Core.List.{List, [], ◌∷◌, ◌++◌}
use borrow.Author.Tests.{ltb-false, eqb-true, eqb-false}
use Rattle.std.proofs.lemmas.List.{length-replicate}
use Rattle.std.proofs.lemmas.Result.{err_from_is_err_and}
use Rattle.bits.specs.Bits.{bits_of, numbers}
use Rattle.bits.specs.Piece.{Piece, piece_bits}
use Rattle.bits.specs.PieceLaws.{length-piece_bits}
use Rattle.tree.specs.Tree.{most_limit, Params, tree, output, root, digest_bytes, digest, out_words}
use Rattle.tree.specs.Sizes.{tree_nodes}
use Rattle.tree.specs.Vocabulary.{root_level, root_index}
use Rattle.tree.proofs.Places.{root-place, root-at, tree-output}
use Rattle.refusals.specs.declared.Params as declared
use Rattle.refusals.specs.declared.Refusal.{Refusal}
use Rattle.refusals.specs.Refusals.{first_refusal, limit_test, told_for, told_number, told_count}
use Rattle.refusals.specs.RefusalLaws.{passed-by, passed, first_part, second-part, answer_refused, number_not0}
use Rattle.hash.specs.Hash.{hash_tests, hash_number}
use Rattle.hash.proofs.HashLaws as whole
use Rattle.hash.specs.Accepted as of_hash
use Rattle.tree.proofs.OutputLaws.{words-bits}
use Rattle.layers.specs.Layers.{layer_order, words_after, lent_tests, layers_number, layers_of, first_nodes}
use Rattle.layers.proofs.LayerLaws.{given-words, given-nodes, then_lent, layers_accepted}
use Rattle.layers.proofs.Highest.{root-words}
use Rattle.layers.specs.Accepted.{lent_number, Accepted, number_for, AllPut}

-- ---- the number

module _ (m : Piece) (P : Params) (ws log out : List ℕ) where
  number-whole : (hash_number m P out ≡ 0 → ⊥) → hash_number m P out ≡ layers_number m P ws log out
  unfolding hash_number layers_number
  number-whole h = first_part (hash_tests m P out) (lent_tests P (piece_bits m) ws log) h

  number-lent : hash_number m P out ≡ 0
      → lent_number (length ws) (16 * first_nodes P.limit m.count) (length log) (2 * tree_nodes P.limit m.count)
      ≡ layers_number m P ws log out
  number-lent e =
      let size = length-piece_bits m (whole.number-accepted m P out e).enough in
      sym (then_lent m P ws log out e ∙ rw (given-words m P size, given-nodes m P size))

  pub number-accepted : layers_number m P ws log out ≡ 0 → Accepted m P ws log out
  unfolding hash_number layers_number
  number-accepted e =
      let p = passed-by 0 (hash_tests m P out) (lent_tests P (piece_bits m) ws log) refl e in
      let q = passed (lent_tests P (piece_bits m) ws log) refl p.1 in
      record {
        whole = whole.number-accepted m P out (second-part (hash_tests m P out) [] p.0);
        room = record { words = ltb-false _ _ (q 0); log_words = ltb-false _ _ (q 1) };
      }

pub number_for_lem : (m : Piece) (key : List ℕ) (params : declared.Params) (ws log out : List ℕ) → params.keylen ≡ length key
    → number_for m params ws log out ≡ layers_number m (of_hash.with_key key params) ws log out
number_for_lem m key params ws log out e = go (eqb (of_hash.number_for m params out) 0) refl
  where
    P : Params
    P = of_hash.with_key key params

    same : of_hash.number_for m params out ≡ hash_number m P out
    same = whole.number_for_lem m key params out e

    go : (b : Bool) → eqb (of_hash.number_for m params out) 0 ≡ b → number_for m params ws log out ≡ layers_number m P ws log out
    go true z = rw z (number-lent m P ws log out (sym same ∙ eqb-true _ 0 z))
    go false z = rw z (same ∙ number-whole m P ws log out (λ h. eqb-false _ 0 z (same ∙ h)))

-- L is in range if the whole-message checks pass
pub limit_low : (m : Piece) (params : declared.Params) (out : List ℕ) → of_hash.number_for m params out ≡ 0 → params.limit ≤ most_limit
limit_low m params out e =
    let key : List ℕ = replicate params.keylen 0 in
    let same = whole.number_for_lem m key params out (sym (length-replicate params.keylen 0)) in
    (whole.number-accepted m (of_hash.with_key key params) out (sym same ∙ e)).ranges.limit_high

-- ---- a height limit alone

-- what a call that tells a number answers if its test `t` refuses, and `u` is the refusal handed on
pub limit-refused : {A : Type 0} (limit count : ℕ) (t : Result A Refusal) (u : Result ℕ Refusal) (r : Refusal) → told_number t ≡ first_refusal (limit_test limit ∷ [])
    → t ≡ Err r → IsErrAnd u (λ s. s ≡ r) → record { number = told_number u; count = told_count u } ≡ told_for limit count
limit-refused limit count t u r e was given =
    let p = err_from_is_err_and u given in
    rw (p.1, p.2) (answer_refused _ _ _ (λ k. record { number = k; count = 0 }) (sym (ap told_number was) ∙ e) (number_not0 r))

-- ---- the answer

module _ (m : Piece) (P : Params) (ws log out : List ℕ) where
  pub layers_refused : (k : ℕ) → k ≡ layers_number m P ws log out → (k ≡ 0 → ⊥)
      → record { number = k; count = 0; words = ws; log = log; digest = out } ≡ layers_of m P ws log out
  unfolding layers_of
  layers_refused k =
      answer_refused k (layers_number m P ws log out) _ (λ k. record { number = k; count = 0; words = ws; log = log; digest = out })

  pub layers_made : (count : ℕ) (ws' log' out' : List ℕ) → layers_number m P ws log out ≡ 0 → count ≡ tree_nodes P.limit m.count
      → AllPut P (piece_bits m) ws log out ws' log' out'
      → record { number = 0; count = count; words = ws'; log = log'; digest = out' } ≡ layers_of m P ws log out
  layers_made count ws' log' out' e c put =
      let size = length-piece_bits m (number-accepted m P ws log out e).whole.enough in
      let n : count ≡ length (layer_order P (piece_bits m)) = c ∙ sym (given-nodes m P size) in
      rw (n, put.words, put.logs, put.digest) (sym (layers_accepted m P ws log out e))

-- ---- the digest

-- the root's words stand at its index
pub digest-root : (P : Params) (M : List Bool) (ws ws' : List ℕ) (from k : ℕ) → ws' ≡ words_after P (tree P M) ws
    → from ≡ 16 * root_index (tree P M) → k ≡ 16
    → numbers 8 (digest_bytes P.d) (drop (1024 - P.d) (bits_of 64 (take k (drop from ws'))) ++ replicate 7 false) ≡ digest P M
digest-root P M ws ws' from k e f h =
    let T = tree P M in
    let there = root-place T (root_level T) (root_index T) (root-at P M) in
    let bits : bits_of 64 (out_words P (root P M)) ≡ output P.rounds (root P M) =
    words-bits P (root P M) (tree-output P M P.rounds (root_level T) (root_index T) (root P M) there) in
    rw (e, f, h, root-words P M ws, bits)
