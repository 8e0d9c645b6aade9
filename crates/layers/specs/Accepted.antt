-- Definitions: for the code of the call, in whose terms no public contract is: what an accepted call shows, what all levels leave, and the
-- number that refuses it.
use Rattle.std.specs.Prelude.{◌≡◌, cond, List, [], ◌∷◌, ◌++◌, Bool, ℕ, suc, ◌*◌, ◌≤◌, eqb, ltb, length, drop}
use Rattle.bits.specs.Piece.{Piece, piece_bits}
use Rattle.tree.specs.Tree.{Params, tree, digest_bytes, digest, logged}
use Rattle.tree.specs.Vocabulary.{root_index}
use Rattle.tree.specs.Sizes.{tree_nodes}
use Rattle.refusals.specs.declared.Params as declared
use Rattle.refusals.specs.Refusals.{first_refusal}
use Rattle.hash.specs.Accepted as of_hash
use Rattle.layers.specs.Layers.{layer_order, words_used, words_after, first_nodes}

-- the lent words and log are long enough
pub record Room (P : Params) (M : List Bool) (ws log : List ℕ) : Type 0 where
  pub words : words_used (tree P M) ≤ length ws
  pub log_words : 2 * length (layer_order P M) ≤ length log

-- what stands in them in the end, and how many nodes the last level has
pub record AllMade (P : Params) (M : List Bool) (ws₀ log₀ ws log : List ℕ) (nodes : ℕ) : Type 0 where
  pub words : ws ≡ words_after P (tree P M) ws₀
  pub logs : log ≡ logged (layer_order P M) log₀
  pub last : nodes ≡ suc (root_index (tree P M))
  pub there : 16 * nodes ≤ length ws

-- ---- the number

-- by the words lent and used, and the log words lent and used
abbrev pub lent_number : ℕ → ℕ → ℕ → ℕ → ℕ
lent_number words used log log_used = first_refusal ((ltb words used, 7) ∷ (ltb log log_used, 8) ∷ [])

-- what an accepted call shows
pub record Accepted (m : Piece) (P : Params) (ws log out : List ℕ) : Type 0 where
  pub whole : of_hash.Accepted m P out
  pub room : Room P (piece_bits m) ws log

-- by the parameters' four numbers: of the key it tells no more than how many bytes it has
abbrev pub number_for : Piece → declared.Params → List ℕ → List ℕ → List ℕ → ℕ
number_for m params ws log out =
    let whole : ℕ = of_hash.number_for m params out in
    let used : ℕ = 16 * first_nodes params.limit m.count in
    cond (eqb whole 0) (lent_number (length ws) used (length log) (2 * tree_nodes params.limit m.count)) whole

-- ---- the answer

-- what stands in words, log and digest in the end
pub record AllPut (P : Params) (M : List Bool) (ws₀ log₀ out₀ ws log out : List ℕ) : Type 0 where
  pub words : ws ≡ words_after P (tree P M) ws₀
  pub logs : log ≡ logged (layer_order P M) log₀
  pub digest : out ≡ digest P M ++ drop (digest_bytes P.d) out₀
