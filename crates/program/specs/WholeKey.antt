-- Laws: a first line's key is bytes, and what is kept of it has the same default rounds and is refused as it is itself.
use Rattle.std.specs.Prelude.{Option, Some, None, ◌≡◌, refl, Bool, true, false, cond, List, [], ◌∷◌, ℕ, ◌≤◌, min, leb, ltb, length, take}
use Rattle.std.proofs.Common.{sym, ◌∙◌, arith, ltb-true, ltb-false, lt-ltb, le-ltb, length-take, take_all}
use Rattle.std.proofs.Math.Nat.{min_comm}
use Rattle.lists.specs.Below.{Below, none as no_words, more}
use Rattle.digits.specs.Digits.{spelt, with_word, bytes_of}
use Rattle.digits.proofs.DigitLaws.{spelt_lt}
use Rattle.tree.specs.Tree.{Params, most_key_bytes, most_limit}
use Rattle.refusals.specs.Refusals.{first_refusal, param_tests}
use Rattle.refusals.specs.RefusalLaws.{in_range}
use Rattle.calls.specs.Area.{area_words}
use Rattle.calls.specs.Calls.{open_number}
use Rattle.line.specs.Line.{Line, fields, is_dash, number_of, rounds_of, key_of, together, four_of, line_of}
use Rattle.line.specs.Fold.{kept_bytes}
use Rattle.program.specs.Printed.{rounds_for}

-- ---- the key is bytes

abbrev Bytes : Option (List ℕ) → Type 0
Bytes None = Unit {0}
Bytes (Some key) = Below 256 key

abbrev pub KeyBytes : Option Line → Type 0
KeyBytes None = Unit {0}
KeyBytes (Some l) = Below 256 l.key

pairs_bytes : (f : List ℕ) → Bytes (bytes_of f)
pairs_bytes [] = no_words
pairs_bytes (a ∷ []) = tt
pairs_bytes (a ∷ b ∷ bs) = by (spelt 0 (a ∷ b ∷ [])) (bytes_of bs) refl (pairs_bytes bs)
  where
    by : (p : Option ℕ) (o : Option (List ℕ)) → spelt 0 (a ∷ b ∷ []) ≡ p → Bytes o → Bytes (with_word p o)
    by None o e h = tt
    by (Some x) None e h = tt
    by (Some x) (Some key) e h = more (spelt_lt 2 x (a ∷ b ∷ []) (omega arith) e) h

field-bytes : (f : List ℕ) → Bytes (key_of f)
field-bytes f = by (is_dash f) (leb 1 (length f))
  where
    by : (s t : Bool) → Bytes (cond s (Some []) (cond t (bytes_of f) None))
    by true t = no_words
    by false true = pairs_bytes f
    by false false = tt

together-bytes : (d l : Option ℕ) (r : Option (Option ℕ)) (k : Option (List ℕ)) → Bytes k → KeyBytes (together d l r k)
together-bytes None l r k h = tt
together-bytes (Some d) None r k h = tt
together-bytes (Some d) (Some l) None k h = tt
together-bytes (Some d) (Some l) (Some r) None h = tt
together-bytes (Some d) (Some l) (Some r) (Some k) h = h

four_bytes : (fs : List (List ℕ)) → KeyBytes (four_of fs)
four_bytes [] = tt
four_bytes (d ∷ []) = tt
four_bytes (d ∷ l ∷ []) = tt
four_bytes (d ∷ l ∷ r ∷ []) = tt
four_bytes (d ∷ l ∷ r ∷ k ∷ []) = together-bytes (number_of d) (number_of l) (rounds_of r) (key_of k) (field-bytes k)
four_bytes (d ∷ l ∷ r ∷ k ∷ f ∷ fs) = tt

pub key-bytes : (line : List ℕ) → KeyBytes (line_of line)
unfolding line_of
key-bytes line = four_bytes (fields line)

-- ---- what is kept of it

-- the parameters with the key's first 65 bytes, which a line's state keeps
abbrev pub kept_params : Params → Params
kept_params P = record { key = take kept_bytes P.key; d = P.d; limit = P.limit; rounds = P.rounds }

-- they are over a number of bytes up to 64 exactly if the key is
over-kept : (b n : ℕ) → b ≤ most_key_bytes → ltb b (min n kept_bytes) ≡ ltb b n
over-kept b n h = by (ltb b n) refl
  where
    by : (t : Bool) → ltb b n ≡ t → ltb b (min n kept_bytes) ≡ ltb b n
    by true e = lt-ltb b (min n kept_bytes) (omega (arith, ltb-true b n e)) ∙ sym e
    by false e = le-ltb b (min n kept_bytes) (omega (arith, ltb-false b n e)) ∙ sym e

-- so the rounds by default, which go by whether the key has any byte, are the same
pub kept-rounds : (rounds : Option ℕ) (d n : ℕ) → rounds_for rounds d (min n kept_bytes) ≡ rounds_for rounds d n
kept-rounds None d n = rw (over-kept 0 n (omega arith))
kept-rounds (Some r) d n = refl

-- an open with them is refused by the same number
pub kept-number : (area : List ℕ) (P : Params) → area_words most_limit ≤ length area → open_number area (kept_params P) ≡ first_refusal (param_tests P)
unfolding open_number
kept-number area P long =
    let n : ℕ = length P.key in
    rw (le-ltb (length area) (area_words P.limit) (omega arith), length-take kept_bytes P.key, min_comm kept_bytes n, over-kept most_key_bytes n (omega arith))

-- and where none refuses, they are all of the key
pub kept_whole : (P : Params) → first_refusal (param_tests P) ≡ 0 → kept_params P ≡ P
kept_whole P e =
    let r = in_range (length P.key) P.d P.limit P.rounds e in
    rw (take_all kept_bytes P.key (omega (arith, r.key_high)))
