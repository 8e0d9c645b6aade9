-- Laws: of Refusals: orders of refusals, answers, and what parameters that are not refused say.
use Rattle.std.specs.Prelude.{◌≡◌, refl, Bool, true, false, cond, not, ◌&&◌, List, [], ◌∷◌, ◌++◌, ℕ, zero, suc, ◌≤◌, eqb, length, Result, Ok, Err}
use Rattle.std.proofs.Common.{arith, ap, sym, ◌∙◌, subst, append-nil, ltb-false, le-ltb}
use Rattle.std.proofs.lemmas.Bool.{eqb-false, not-true}
use Rattle.lists.specs.Below.{Below}
use Rattle.lists.specs.And.{and_parts}
use Rattle.tree.specs.Tree.{Params, Valid, most_key_bytes, most_digest_bits, most_limit, most_rounds}
use Rattle.refusals.specs.declared.Refusal.{Refusal}
use Rattle.refusals.specs.declared.Refusal.TheVariants as refusal
use Rattle.refusals.specs.Refusals.{first_refusal, answer_of, range_tests, param_tests, refusal_number, told_number}

-- ---- the order of refusals

-- the test at a place
abbrev pub test_at : List (Bool × ℕ) → ℕ → Bool
test_at [] k = false
test_at (t ∷ ts) zero = t.0
test_at (t ∷ ts) (suc k) = test_at ts k

-- no test has that number: by computing
abbrev pub without : ℕ → List (Bool × ℕ) → Bool
without n [] = true
without n (t ∷ ts) = not (eqb t.1 n) && without n ts

-- a number that no test of the first part has comes from the second part, and no test of the first part holds
pub passed-by : (n : ℕ) (xs ys : List (Bool × ℕ)) → without n xs ≡ true → first_refusal (xs ++ ys) ≡ n
    → ((k : ℕ) → test_at xs k ≡ false) × (first_refusal ys ≡ n)
passed-by n [] ys w e = ((λ k. refl), e)
passed-by n ((true, m) ∷ xs) ys w e = absurd (eqb-false m n (not-true (eqb m n) (and_parts (not (eqb m n)) (without n xs) w).0) e)
passed-by n ((false, m) ∷ xs) ys w e =
    let p = passed-by n xs ys (and_parts (not (eqb m n)) (without n xs) w).1 e in
    ((λ k. elim k as (λ j. test_at ((false, m) ∷ xs) j ≡ false) [ zero ↦ refl | suc j ↦ p.0 j ]), p.1)

-- number 0: no test holds
pub passed : (ts : List (Bool × ℕ)) → without 0 ts ≡ true → first_refusal ts ≡ 0 → (k : ℕ) → test_at ts k ≡ false
passed ts w e = (passed-by 0 ts [] w (ap first_refusal (append-nil ts) ∙ e)).0

-- in two parts: a refusal of the first part decides, whatever comes later; otherwise the second part does
pub first_part : (xs ys : List (Bool × ℕ)) → (first_refusal xs ≡ 0 → ⊥) → first_refusal xs ≡ first_refusal (xs ++ ys)
first_part [] ys h = absurd (h refl)
first_part ((true, n) ∷ xs) ys h = refl
first_part ((false, n) ∷ xs) ys h = first_part xs ys h

pub second-part : (xs ys : List (Bool × ℕ)) → ((k : ℕ) → test_at xs k ≡ false) → first_refusal (xs ++ ys) ≡ first_refusal ys
second-part [] ys p = refl
second-part (t ∷ xs) ys p = rw (p 0) (second-part xs ys (λ k. p (suc k)))

-- ---- refusals and their numbers

-- 0 is no refusal's number
pub number_not0 : (r : Refusal) → refusal_number r ≡ 0 → ⊥
number_not0 refusal.DigestSize = λ e. omega (arith, e)
number_not0 refusal.KeyLength = λ e. omega (arith, e)
number_not0 refusal.Limit = λ e. omega (arith, e)
number_not0 refusal.Rounds = λ e. omega (arith, e)
number_not0 refusal.Bits = λ e. omega (arith, e)
number_not0 refusal.Total = λ e. omega (arith, e)
number_not0 refusal.Area = λ e. omega (arith, e)
number_not0 refusal.Log = λ e. omega (arith, e)
number_not0 refusal.Output = λ e. omega (arith, e)
number_not0 refusal.Ended = λ e. omega (arith, e)
number_not0 refusal.Text = λ e. omega (arith, e)
number_not0 refusal.Figure = λ e. omega (arith, e)

-- what is told of an error is not 0, and of a value 0
pub told_err : {A : Type 0} (t : Result A Refusal) {r : Refusal} → t ≡ Err r → told_number t ≡ 0 → ⊥
told_err t {r} e z = number_not0 r (sym (ap told_number e) ∙ z)

pub told_ok : {A : Type 0} {t : Result A Refusal} {a : A} {n : ℕ} → t ≡ Ok a → told_number t ≡ n → n ≡ 0
told_ok w e = sym e ∙ ap told_number w

-- the number of the first of two tests that holds
pub told-first_of_two : {A : Type 0} (first second : Bool) (one other : Refusal) (a : A) (t : Result A Refusal)
    → t ≡ cond first (Err one) (cond second (Err other) (Ok a))
    → told_number t ≡ first_refusal ((first, refusal_number one) ∷ (second, refusal_number other) ∷ [])
told-first_of_two true second one other a t e = ap told_number e
told-first_of_two false true one other a t e = ap told_number e
told-first_of_two false false one other a t e = ap told_number e

-- ---- the answer

pub answer_number : {A : Type 0} (number : A → ℕ) (n : ℕ) (accepted : A) (refused : ℕ → A) → number accepted ≡ 0 → ((k : ℕ) → number (refused k) ≡ k)
    → number (answer_of n accepted refused) ≡ n
answer_number number zero accepted refused a r = a
answer_number number (suc n) accepted refused a r = r (suc n)

pub answer_refused : {A : Type 0} (k n : ℕ) (accepted : A) (refused : ℕ → A) → k ≡ n → (k ≡ 0 → ⊥) → refused k ≡ answer_of n accepted refused
answer_refused zero n accepted refused e h = absurd (h refl)
answer_refused (suc k) n accepted refused e h = rw (← e)

-- what holds of what is given where the number is 0, and of what is given for every number, holds of the answer
pub answered-by : {A : Type 0} (Q : A → Type 0) {n : ℕ} {a : A} {f : ℕ → A} → (n ≡ 0 → Q a) → ((k : ℕ) → Q (f k)) → Q (answer_of n a f)
answered-by Q {n} {a} {f} = by n
  where
    by : (m : ℕ) → (m ≡ 0 → Q a) → ((k : ℕ) → Q (f k)) → Q (answer_of m a f)
    by zero p q = p refl
    by (suc m) p q = q (suc m)

-- and so of two answers with equal numbers
pub alike-by : {A : Type 0} (R : A → A → Type 0) {m n : ℕ} {a b : A} {f g : ℕ → A} → m ≡ n → R a b → ((k : ℕ) → R (f k) (g k))
    → R (answer_of m a f) (answer_of n b g)
alike-by R {m} {n} {a} {b} {f} {g} e p q = subst (λ (k : ℕ). R (answer_of m a f) (answer_of k b g)) e (by m)
  where
    by : (k : ℕ) → R (answer_of k a f) (answer_of k b g)
    by zero = p
    by (suc k) = q (suc k)

-- ---- the ranges of parameters that are not refused

pub record InRange (key_bytes d limit rounds : ℕ) : Type 0 where
  pub key_high : key_bytes ≤ most_key_bytes
  pub d_low : 1 ≤ d
  pub d_high : d ≤ most_digest_bits
  pub limit_high : limit ≤ most_limit
  pub rounds_high : rounds ≤ most_rounds

pub ranges-passed : (key_bytes d limit rounds : ℕ) → ((k : ℕ) → test_at (range_tests key_bytes d limit rounds) k ≡ false) → InRange key_bytes d limit rounds
ranges-passed key_bytes d limit rounds p = record {
  key_high = ltb-false _ _ (p 2);
  d_low = ltb-false _ _ (p 0);
  d_high = ltb-false _ _ (p 1);
  limit_high = ltb-false _ _ (p 3);
  rounds_high = ltb-false _ _ (p 4);
}

pub in_range : (key_bytes d limit rounds : ℕ) → first_refusal (range_tests key_bytes d limit rounds) ≡ 0 → InRange key_bytes d limit rounds
in_range key_bytes d limit rounds e = ranges-passed key_bytes d limit rounds (passed (range_tests key_bytes d limit rounds) refl e)

-- they are valid, if the key is bytes
pub ranges-valid : (P : Params) → Below 256 P.key → InRange (length P.key) P.d P.limit P.rounds → Valid P
ranges-valid P b r =
    record { bytes = b; key_bytes = r.key_high; d_low = r.d_low; d_high = r.d_high; limit_high = r.limit_high; rounds_high = r.rounds_high }

pub params-valid : (P : Params) → Below 256 P.key → first_refusal (param_tests P) ≡ 0 → Valid P
params-valid P b e = ranges-valid P b (in_range (length P.key) P.d P.limit P.rounds e)

pub valid-params : (P : Params) → Valid P → first_refusal (param_tests P) ≡ 0
valid-params P v =
    rw (le-ltb P.d 1 v.d_low, le-ltb most_digest_bits P.d v.d_high, le-ltb most_key_bytes (length P.key) v.key_bytes, le-ltb most_limit P.limit v.limit_high, le-ltb most_rounds P.rounds v.rounds_high)
