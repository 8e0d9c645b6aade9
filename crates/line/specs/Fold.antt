-- Definitions: reading a line byte by byte, as the code does it: a state, what each byte makes of it, and what it says at the end.
-- That this decides what `Line` defines is the theorem of `Decides`.
use Rattle.std.specs.Prelude.{Option, Some, None, fold, cond, ◌&&◌, List, [], ◌∷◌, ◌++◌, ℕ, ◌+◌, ◌-◌, ◌*◌, ◌%◌, min, ltb, eqb, set, replicate, length, take, ◌≡◌}
use Rattle.digits.specs.Digits.{spelt}
use Rattle.line.specs.Line.{is_decimal, Line}
use Rattle.line.specs.declared.Field.{Field}
use Rattle.line.specs.declared.Field.TheVariants.{Digest as InDigest, Limit as InLimit, Rounds as InRounds, Key as InKey, Past}
use Rattle.line.specs.declared.Number.{Number}
use Rattle.line.specs.declared.Number.TheVariants.{Empty, Digits, Dash, Wrong as WrongNumber}
use Rattle.line.specs.declared.Pairs.{Pairs}
use Rattle.line.specs.declared.Pairs.TheVariants.{Whole, Half, Wrong as WrongPairs}
use Rattle.line.specs.declared.Key.{Key}
use Rattle.line.specs.declared.State.{State}
use Rattle.line.specs.declared.FirstLine.{FirstLine}

-- the key bytes that are kept: one more than a key may have
abbrev pub kept_bytes : ℕ
kept_bytes = 65

abbrev pub next_field : Field → Field
next_field InDigest = InLimit
next_field InLimit = InRounds
next_field InRounds = InKey
next_field InKey = Past
next_field Past = Past

-- one byte more of a number's field
abbrev pub push_number : Number → ℕ → Number
push_number Empty b = cond (is_decimal b) (Digits 1 (b - 48)) (cond (eqb b 45) Dash WrongNumber)
push_number (Digits count value) b =
    cond (ltb count 5) (cond (is_decimal b) (Digits (count + 1) (value % 10000 * 10 + (b - 48))) WrongNumber) WrongNumber
push_number Dash b = WrongNumber
push_number WrongNumber b = WrongNumber

-- one byte more of the key, after n of them
abbrev pub put_byte : List ℕ → ℕ → ℕ → Key
put_byte bytes n x =
    cond (ltb n kept_bytes) (record { pairs = Whole (n + 1); bytes = set bytes n x }) (record { pairs = Whole n; bytes = bytes })

abbrev pub put_pair : List ℕ → ℕ → Option ℕ → Key
put_pair bytes n (Some x) = put_byte bytes n x
put_pair bytes n None = record { pairs = WrongPairs; bytes = bytes }

-- one byte more of the key's field: two bytes are looked at together, so the first of them only waits for the second
abbrev pub push_pairs : Pairs → List ℕ → ℕ → Key
push_pairs (Whole n) bytes b = record { pairs = Half n b; bytes = bytes }
push_pairs (Half n a) bytes b = put_pair bytes n (spelt 0 (a ∷ b ∷ []))
push_pairs WrongPairs bytes b = record { pairs = WrongPairs; bytes = bytes }

abbrev pub push_key : Key → ℕ → Key
push_key k b = push_pairs k.pairs k.bytes b

-- where a line begins
abbrev pub start : State
start =
    record { at = InDigest; d = Empty; limit = Empty; rounds = Empty; key = record { pairs = Whole 0; bytes = replicate kept_bytes 0 } }

-- a space goes to the next field
abbrev pub space_of : State → State
space_of s = record { at = next_field s.at; d = s.d; limit = s.limit; rounds = s.rounds; key = s.key }

-- any other byte belongs to the field that the state is in
abbrev pub push_at : Field → State → ℕ → State
push_at InDigest s b = record { at = InDigest; d = push_number s.d b; limit = s.limit; rounds = s.rounds; key = s.key }
push_at InLimit s b = record { at = InLimit; d = s.d; limit = push_number s.limit b; rounds = s.rounds; key = s.key }
push_at InRounds s b = record { at = InRounds; d = s.d; limit = s.limit; rounds = push_number s.rounds b; key = s.key }
push_at InKey s b = record { at = InKey; d = s.d; limit = s.limit; rounds = s.rounds; key = push_key s.key b }
push_at Past s b = s

-- one byte more of the line
unfoldable pub step_of : State → ℕ → State
step_of s b = cond (eqb b 32) (space_of s) (push_at s.at s b)

-- all bytes of a line, from a state on
abbrev pub fold_of : State → List ℕ → State
fold_of s bs = fold step_of s bs

-- ---- what a state says at the end of the line

-- the number of d's field or L's, if that is readable
abbrev pub number_in : Number → Option ℕ
number_in Empty = None
number_in (Digits count value) = Some value
number_in Dash = None
number_in WrongNumber = None

abbrev pub rounds_in : Number → Option (Option ℕ)
rounds_in Empty = None
rounds_in (Digits count value) = Some (Some value)
rounds_in Dash = Some None
rounds_in WrongNumber = None

-- the key's bytes, of which 65 stands for more than 64; `-` is a byte that waits for a second one, with no pair before it
abbrev pub key_bytes_in : Pairs → Option ℕ
key_bytes_in (Whole n) = cond (eqb n 0) None (Some (min n kept_bytes))
key_bytes_in (Half n a) = cond (eqb n 0 && eqb a 45) (Some 0) None
key_bytes_in WrongPairs = None

-- readable if every field is
abbrev pub read_fields : Option ℕ → Option ℕ → Option (Option ℕ) → Option ℕ → Option FirstLine
read_fields None l r n = None
read_fields (Some d) None r n = None
read_fields (Some d) (Some l) None n = None
read_fields (Some d) (Some l) (Some r) None = None
read_fields (Some d) (Some l) (Some r) (Some n) = Some (record { d = d; limit = l; rounds = r; key_bytes = n })

-- and if three spaces came
abbrev pub read_at : Field → State → Option FirstLine
read_at InDigest s = None
read_at InLimit s = None
read_at InRounds s = None
read_at InKey s = read_fields (number_in s.d) (number_in s.limit) (rounds_in s.rounds) (key_bytes_in s.key.pairs)
read_at Past s = None

unfoldable pub reading_of : State → Option FirstLine
reading_of s = read_at s.at s

-- what is kept of a key: its first 65 bytes, and zeros after them
abbrev pub kept_of : List ℕ → List ℕ
kept_of key = take kept_bytes key ++ replicate (kept_bytes - length key) 0

-- what is said of a line without its key's bytes: the same d, L and r, and the count of those bytes, where 65 stands for more than 64
abbrev pub first_line_of : Line → FirstLine
first_line_of l = record { d = l.d; limit = l.limit; rounds = l.rounds; key_bytes = min (length l.key) kept_bytes }

-- what a state must say of a line: unreadable if that is; otherwise that, and the first 65 bytes of the key
abbrev pub Says : State → Option Line → Type 0
Says s None = reading_of s ≡ None
Says s (Some l) = (reading_of s ≡ Some (first_line_of l)) × (s.key.bytes ≡ kept_of l.key)
