-- Laws: of the fold for a program that reads a line: the part of the kept bytes that is the key.
use Rattle.std.specs.Prelude.{Option, Some, None, ◌≡◌, refl, Bool, true, false, cond, ◌&&◌, ℕ, ◌≤◌, min, eqb}
use Rattle.std.proofs.Common.{arith}
use Rattle.std.proofs.lemmas.Option.{same_Some}
use Rattle.line.specs.declared.FirstLine.{FirstLine}
use Rattle.line.specs.Fold.{kept_bytes, number_in, rounds_in, key_bytes_in, read_fields, read_at, reading_of}
use Rattle.line.specs.declared.Field.{Field}
use Rattle.line.specs.declared.Field.TheVariants.{Digest as InDigest, Limit as InLimit, Rounds as InRounds, Key as InKey, Past}
use Rattle.line.specs.declared.Pairs.{Pairs}
use Rattle.line.specs.declared.Pairs.TheVariants.{Whole, Half, Wrong}
use Rattle.line.specs.declared.State.{State}

key-within : (p : Pairs) (n : ℕ) → key_bytes_in p ≡ Some n → n ≤ kept_bytes
key-within (Whole m) n e = by (eqb m 0) e
  where
    by : (t : Bool) → cond t None (Some (min m kept_bytes)) ≡ Some n → n ≤ kept_bytes
    by true e = cc
    by false e = let z : min m kept_bytes ≡ n = cc in omega arith
key-within (Half m a) n e = by (eqb m 0 && eqb a 45) e
  where
    by : (t : Bool) → cond t (Some 0) None ≡ Some n → n ≤ kept_bytes
    by true e = let z : 0 ≡ n = cc in omega arith
    by false e = cc
key-within Wrong n e = cc

-- whatever the state, the count of key bytes lies within those that are kept: what a part of them needs
pub within : (s : State) (l : FirstLine) → reading_of s ≡ Some l → l.key_bytes ≤ kept_bytes
unfolding reading_of
within s l e = at_field s.at e
  where
    of_four : (a b : Option ℕ) (c : Option (Option ℕ)) (o : Option ℕ) → key_bytes_in s.key.pairs ≡ o → read_fields a b c o ≡ Some l → l.key_bytes ≤ kept_bytes
    of_four None b c o h e = cc
    of_four (Some a) None c o h e = cc
    of_four (Some a) (Some b) None o h e = cc
    of_four (Some a) (Some b) (Some c) None h e = cc
    of_four (Some a) (Some b) (Some c) (Some m) h e = rw (← same_Some _ l e) (key-within s.key.pairs m h)

    at_field : (f : Field) → read_at f s ≡ Some l → l.key_bytes ≤ kept_bytes
    at_field InDigest e = cc
    at_field InLimit e = cc
    at_field InRounds e = cc
    at_field InKey e = of_four (number_in s.d) (number_in s.limit) (rounds_in s.rounds) (key_bytes_in s.key.pairs) refl e
    at_field Past e = cc
