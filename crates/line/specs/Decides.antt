-- Laws: the fold decides the line: what is read byte by byte, in fixed memory, is what the definition of a whole line says.
use Rattle.std.specs.Prelude.{Option, Some, None, ◌≡◌, refl, Bool, true, false, cond, List, [], ◌∷◌, ℕ, ◌≤◌, ◌<◌, min, eqb, length, take}
use Rattle.std.proofs.Common.{ap, ◌∙◌, arith, take_all}
use Rattle.line.specs.Line.{Line, cut, fields, number_of, rounds_of, key_of, together, four_of, line_of}
use Rattle.line.specs.Fold.{Says, start, space_of, push_at, step_of, fold_of, read_fields, reading_of, key_bytes_in}
use Rattle.line.specs.Numbers.{push_numbers, number-field, rounds-field}
use Rattle.line.specs.Keys.{SaysKey, push_keys, no_key, key-field, counted}
use Rattle.line.specs.declared.Field.{Field}
use Rattle.line.specs.declared.Field.TheVariants.{Digest as InDigest, Limit as InLimit, Rounds as InRounds, Key as InKey, Past}
use Rattle.line.specs.declared.Number.{Number}
use Rattle.line.specs.declared.Number.TheVariants.{Empty}
use Rattle.line.specs.declared.Key.{Key}
use Rattle.line.specs.declared.State.{State}

-- ---- the fold goes field by field

abbrev in_field : State → List ℕ → State
in_field s [] = s
in_field s (b ∷ bs) = in_field (push_at s.at s b) bs

abbrev after : State → List (List ℕ) → State
after s [] = s
after s (f ∷ fs) = after (in_field (space_of s) f) fs

abbrev across : State → List (List ℕ) → State
across s [] = s
across s (f ∷ fs) = after (in_field s f) fs

-- a line has a field
record Cons (fs : List (List ℕ)) : Type 0 where
  head : List ℕ
  tail : List (List ℕ)
  is : fs ≡ head ∷ tail

cut-cons : (t : Bool) (b : ℕ) (fs : List (List ℕ)) → Cons (cut t b fs)
cut-cons true b fs = record { head = []; tail = fs; is = refl }
cut-cons false b [] = record { head = b ∷ []; tail = []; is = refl }
cut-cons false b (f ∷ fs) = record { head = b ∷ f; tail = fs; is = refl }

fields-cons : (line : List ℕ) → Cons (fields line)
fields-cons [] = record { head = []; tail = []; is = refl }
fields-cons (b ∷ bs) = cut-cons (eqb b 32) b (fields bs)

by-fields : (line : List ℕ) (s : State) → fold_of s line ≡ across s (fields line)
unfolding step_of
by-fields [] s = refl
by-fields (b ∷ bs) s = by (eqb b 32) (λ (s' : State). by-fields bs s') (fields-cons bs)
  where
    by : (t : Bool) → ((s' : State) → fold_of s' bs ≡ across s' (fields bs)) → Cons (fields bs)
        → fold_of (cond t (space_of s) (push_at s.at s b)) bs ≡ across s (cut t b (fields bs))
    by true ih c = ih (space_of s) ∙ rw c.is
    by false ih c = ih (push_at s.at s b) ∙ rw c.is

-- ---- the bytes of a field reach that field alone

abbrev state : Field → Number → Number → Number → Key → State
state at d l r k = record { at = at; d = d; limit = l; rounds = r; key = k }

in_digest : (f : List ℕ) (d l r : Number) (k : Key) → in_field (state InDigest d l r k) f ≡ state InDigest (push_numbers d f) l r k
in_digest [] d l r k = refl
in_digest (b ∷ bs) d l r k = in_digest bs _ l r k

in_limit : (f : List ℕ) (d l r : Number) (k : Key) → in_field (state InLimit d l r k) f ≡ state InLimit d (push_numbers l f) r k
in_limit [] d l r k = refl
in_limit (b ∷ bs) d l r k = in_limit bs d _ r k

in_rounds : (f : List ℕ) (d l r : Number) (k : Key) → in_field (state InRounds d l r k) f ≡ state InRounds d l (push_numbers r f) k
in_rounds [] d l r k = refl
in_rounds (b ∷ bs) d l r k = in_rounds bs d l _ k

in_key : (f : List ℕ) (d l r : Number) (k : Key) → in_field (state InKey d l r k) f ≡ state InKey d l r (push_keys k f)
in_key [] d l r k = refl
in_key (b ∷ bs) d l r k = in_key bs d l r _

in_past : (f : List ℕ) (d l r : Number) (k : Key) → in_field (state Past d l r k) f ≡ state Past d l r k
in_past [] d l r k = refl
in_past (b ∷ bs) d l r k = in_past bs d l r k

after-past : (fs : List (List ℕ)) (d l r : Number) (k : Key) → after (state Past d l r k) fs ≡ state Past d l r k
after-past [] d l r k = refl
after-past (f ∷ fs) d l r k = rw (in_past f d l r k) (after-past fs d l r k)

-- ---- the four fields together

all-four : (d l : Option ℕ) (r : Option (Option ℕ)) (o : Option (List ℕ)) (s : State) → SaysKey s.key o
    → reading_of s ≡ read_fields d l r (key_bytes_in s.key.pairs) → Says s (together d l r o)
all-four None l r o s h e = e
all-four (Some d) None r o s h e = e
all-four (Some d) (Some l) None o s h e = e
all-four (Some d) (Some l) (Some r) None s h e = e ∙ rw h
all-four (Some d) (Some l) (Some r) (Some key) s h e = (e ∙ rw h.0, h.1)

-- the first three fields, and all four
three : (d l r : List ℕ)
    → in_field (space_of (in_field (space_of (in_field start d)) l)) r
    ≡ state InRounds (push_numbers Empty d) (push_numbers Empty l) (push_numbers Empty r) no_key
three d l r =
    rw (in_digest d Empty Empty Empty no_key, in_limit l (push_numbers Empty d) Empty Empty no_key)
    (in_rounds r (push_numbers Empty d) (push_numbers Empty l) Empty no_key)

four : (d l r k : List ℕ)
    → in_field (space_of (in_field (space_of (in_field (space_of (in_field start d)) l)) r)) k
    ≡ state InKey (push_numbers Empty d) (push_numbers Empty l) (push_numbers Empty r) (push_keys no_key k)
four d l r k = rw (three d l r) (in_key k (push_numbers Empty d) (push_numbers Empty l) (push_numbers Empty r) no_key)

past : (d l r k f : List ℕ) (fs : List (List ℕ))
    → across start (d ∷ l ∷ r ∷ k ∷ f ∷ fs)
    ≡ state Past (push_numbers Empty d) (push_numbers Empty l) (push_numbers Empty r) (push_keys no_key k)
past d l r k f fs =
    let n : List ℕ → Number = push_numbers Empty in
    rw (four d l r k, in_past f (n d) (n l) (n r) (push_keys no_key k)) (after-past fs (n d) (n l) (n r) (push_keys no_key k))

says : (fs : List (List ℕ)) → Says (across start fs) (four_of fs)
unfolding reading_of
says [] = refl
says (d ∷ []) = rw (in_digest d Empty Empty Empty no_key)
says (d ∷ l ∷ []) = rw (in_digest d Empty Empty Empty no_key, in_limit l (push_numbers Empty d) Empty Empty no_key)
says (d ∷ l ∷ r ∷ []) = rw (three d l r)
says (d ∷ l ∷ r ∷ k ∷ []) =
    let s : State = state InKey (push_numbers Empty d) (push_numbers Empty l) (push_numbers Empty r) (push_keys no_key k) in
    rw (four d l r k)
    (all-four (number_of d) (number_of l) (rounds_of r) (key_of k) s (key-field k) (rw (number-field d, number-field l, rounds-field r)))
says (d ∷ l ∷ r ∷ k ∷ f ∷ fs) = ap reading_of (past d l r k f fs)

-- for every line
pub decides : (line : List ℕ) → Says (fold_of start line) (line_of line)
unfolding line_of
decides line = rw (by-fields line start) (says (fields line))

-- ---- the same in parts

-- only an unreadable line is read as unreadable
pub unreadable_only : (line : List ℕ) → reading_of (fold_of start line) ≡ None → line_of line ≡ None
unreadable_only line e = by (line_of line) (decides line)
  where
    by : (o : Option Line) → Says (fold_of start line) o → o ≡ None
    by None h = refl
    by (Some l) h = cc h.0

-- a key of at most 64 bytes: the count of its bytes, and they are the first that the state keeps
pub whole-key : (line : List ℕ) (l : Line) → line_of line ≡ Some l → length l.key ≤ 64
    → (reading_of (fold_of start line) ≡ Some (record { d = l.d; limit = l.limit; rounds = l.rounds; key_bytes = length l.key }))
    × (take (length l.key) (fold_of start line).key.bytes ≡ l.key)
whole-key line l e h =
    let s : Says (fold_of start line) (Some l) = rw e at (decides line) in
    let n : min (length l.key) 65 ≡ length l.key = omega arith in
    (rw n at s.0, rw s.1 (rw n at (counted l.key) ∙ take_all 65 l.key (omega arith)))

-- a key of more: 65, which no other line gives
pub over-key : (line : List ℕ) (l : Line) → line_of line ≡ Some l → 64 < length l.key
    → reading_of (fold_of start line) ≡ Some (record { d = l.d; limit = l.limit; rounds = l.rounds; key_bytes = 65 })
over-key line l e h =
    let s : Says (fold_of start line) (Some l) = rw e at (decides line) in
    let n : min (length l.key) 65 ≡ 65 = omega arith in
    rw n at s.0
