-- Definitions: the order of refusals, what a call answers, and the tests that several calls share. Document 01, the table of numbers:
-- each test stands beside its number; number 5 has its test in bits/Piece.
use Rattle.std.specs.Prelude.{Bool, cond, List, [], ◌∷◌, ◌++◌, ℕ, zero, suc, ◌*◌, ltb, length, Result, Ok, Err}
use Rattle.refusals.specs.declared.Refusal.{Refusal}
use Rattle.refusals.specs.declared.Refusal.TheVariants as refusal
use Rattle.tree.specs.Tree.{Params, most_key_bytes, most_digest_bits, most_limit, most_rounds}

-- ---- the order of refusals, and the answer

-- "Orders: .. Feed 7, 10, 5, 6, 8": the number of the first test of a list that holds, and 0 if none does
abbrev pub first_refusal : List (Bool × ℕ) → ℕ
first_refusal [] = 0
first_refusal (test ∷ later) = cond test.0 test.1 (first_refusal later)

-- the number of each refusal
abbrev pub refusal_number : Refusal → ℕ
refusal_number refusal.DigestSize = 1
refusal_number refusal.KeyLength = 2
refusal_number refusal.Limit = 3
refusal_number refusal.Rounds = 4
refusal_number refusal.Bits = 5
refusal_number refusal.Total = 6
refusal_number refusal.Area = 7
refusal_number refusal.Log = 8
refusal_number refusal.Output = 9
refusal_number refusal.Ended = 10
refusal_number refusal.Text = 11
refusal_number refusal.Figure = 14

-- what is told of a result: 0 and the count, or the refusal's number and 0
abbrev pub told_number : {A : Type 0} → Result A Refusal → ℕ
told_number (Ok a) = 0
told_number (Err r) = refusal_number r

abbrev pub told_count : Result ℕ Refusal → ℕ
told_count (Ok count) = count
told_count (Err r) = 0

-- what a call with that number answers: what it gives if it is accepted, and otherwise what it gives for the number that refuses
-- it; at each call the second says "count 0" and "all unchanged"
abbrev pub answer_of : {A : Type 0} → ℕ → A → (ℕ → A) → A
answer_of zero accepted refused = accepted
answer_of (suc n) accepted refused = refused (suc n)

-- what a call that only tells something answers: its number, and what it tells as count; it changes nothing
pub record Told : Type 0 where
  pub number : ℕ
  pub count : ℕ

-- ---- tests that several calls share, and an answer by one of them

-- the sizes of digest and key: "1, 0: d not 1 to 512", then "2, 0: key over 64 bytes"
abbrev pub size_tests : ℕ → ℕ → List (Bool × ℕ)
size_tests d key_bytes = (ltb d 1, 1) ∷ (ltb most_digest_bits d, 1) ∷ (ltb most_key_bytes key_bytes, 2) ∷ []

-- "3, 0: L over 64"
abbrev pub limit_test : ℕ → Bool × ℕ
limit_test limit = (ltb most_limit limit, 3)

-- what a call that tells a number for an L answers: it refuses by 3 alone
abbrev pub told_for : ℕ → ℕ → Told
told_for limit count =
    answer_of (first_refusal (limit_test limit ∷ []))
    record { number = 0; count = count }
    (λ k. record { number = k; count = 0 })

-- the sizes, then L and, since M-108, "Number 4 is now for r over 4,095", in that order
abbrev pub range_tests : ℕ → ℕ → ℕ → ℕ → List (Bool × ℕ)
range_tests key_bytes d limit rounds = size_tests d key_bytes ++ (limit_test limit ∷ (ltb most_rounds rounds, 4) ∷ [])

abbrev pub param_tests : Params → List (Bool × ℕ)
param_tests P = range_tests (length P.key) P.d P.limit P.rounds

-- "9, 0: output shorter than what is to be written"
abbrev pub output_test : ℕ → List ℕ → Bool × ℕ
output_test size out = (ltb (length out) size, 9)

-- "8, 0: log shorter than 2 words a node made"
abbrev pub log_test : ℕ → List ℕ → Bool × ℕ
log_test nodes log = (ltb (length log) (2 * nodes), 8)
