-- Definitions: for the code of the call, in whose terms no public contract is: the parameters with a key, what an accepted call shows, and
-- the number that refuses it.
use Rattle.std.specs.Prelude.{Bool, List, [], ◌∷◌, ◌++◌, ℕ, ◌≤◌, length}
use Rattle.bits.specs.Piece.{Piece, bits_test}
use Rattle.bits.specs.PieceLaws.{Fits}
use Rattle.tree.specs.Tree.{Params, digest_bytes}
use Rattle.refusals.specs.Refusals.{first_refusal, range_tests, output_test}
use Rattle.refusals.specs.RefusalLaws.{InRange}
use Rattle.refusals.specs.declared.Params as declared

-- the parameters with a key
abbrev pub with_key : List ℕ → declared.Params → Params
with_key key params = record { key = key; d = params.d; limit = params.limit; rounds = params.rounds }

-- what an accepted call shows
pub record Accepted (m : Piece) (P : Params) (out : List ℕ) : Type 0 where
  pub enough : Fits m
  pub ranges : InRange (length P.key) P.d P.limit P.rounds
  pub room : digest_bytes P.d ≤ length out

-- ---- the number, by the parameters' four numbers: of the key it tells no more than how many bytes it has

abbrev pub ranges_of : declared.Params → List (Bool × ℕ)
ranges_of params = range_tests params.keylen params.d params.limit params.rounds

unfoldable pub number_for : Piece → declared.Params → List ℕ → ℕ
number_for m params out = first_refusal (bits_test m ∷ ranges_of params ++ (output_test (digest_bytes params.d) out ∷ []))
