-- Definitions: what the whole-message call and the telling of default rounds answer. Document 01, the table of numbers, and "Whole
-- message 5, 1, 2, 3, 4, 9"; document 02, M-102 and M-104.
use Rattle.std.specs.Prelude.{Bool, cond, List, [], ◌∷◌, ◌++◌, ℕ, ◌+◌, ◌/◌, max, ltb, length, drop}
use Rattle.bits.specs.Piece.{Piece, piece_bits, bits_test}
use Rattle.tree.specs.Tree.{Params, digest_bytes, digest, order}
use Rattle.refusals.specs.Refusals.{first_refusal, answer_of, Told, size_tests, param_tests, output_test}

-- "Whole message 5, 1, 2, 3, 4, 9"
abbrev pub hash_tests : Piece → Params → List ℕ → List (Bool × ℕ)
hash_tests message P out = bits_test message ∷ param_tests P ++ (output_test (digest_bytes P.d) out ∷ [])

-- the number of the first that holds, and 0 if none does: then it is accepted
unfoldable pub hash_number : Piece → Params → List ℕ → ℕ
hash_number message P out = first_refusal (hash_tests message P out)

-- the number, the count, and the output on exit
pub record Hashed : Type 0 where
  pub number : ℕ
  pub count : ℕ
  pub digest : List ℕ

-- the message is given as a piece, with its start bit (document 02, M-104); "Accepted calls return 0 and a count: .. for whole message
-- the nodes of its tree"; "Output bytes past the digest or text stay"
unfoldable pub hash_of : Piece → Params → List ℕ → Hashed
hash_of message P out =
    let M : List Bool = piece_bits message in
    answer_of (hash_number message P out)
    record { number = 0; count = length (order P M); digest = digest P M ++ drop (digest_bytes P.d) out }
    (λ k. record { number = k; count = 0; digest = out })

-- ---- default rounds

-- "Default rounds follow document 003: 40 + d/4, rounded down": without a key; the report's formula 2.1
abbrev pub unkeyed_rounds : ℕ → ℕ
unkeyed_rounds d = 40 + d / 4

-- document 02, M-102: "The report gives a keyed digest at least 80 rounds"
abbrev pub least_keyed_rounds : ℕ
least_keyed_rounds = 80

-- "the default is the larger of 80 and 40 + d/4 if the key has any byte"; the report's formula 2.2
abbrev pub rounds_by_default : ℕ → ℕ → ℕ
rounds_by_default d key_bytes = cond (ltb 0 key_bytes) (max least_keyed_rounds (unkeyed_rounds d)) (unkeyed_rounds d)

-- "The call that tells the default now takes the key length and refuses 1, then 2"; "a count: .. for default rounds r"
unfoldable pub default_rounds_of : ℕ → ℕ → Told
default_rounds_of d key_bytes =
    answer_of (first_refusal (size_tests d key_bytes))
    record { number = 0; count = rounds_by_default d key_bytes }
    (λ k. record { number = k; count = 0 })
