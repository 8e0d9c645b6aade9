-- Definitions: what the program's first line says. Document 01, "Program": "First input line: d, L, r in decimal (r may be - for the default)
-- and the key as an even count of digits 0 to 9 and a to f (- for none), single spaces, ended by byte 10 .. an unreadable first
-- line .. (a number of over five digits, or an empty or odd run of key digits, makes it so; leading zeros are read)".
-- A line is the list of its bytes without the byte 10 that ends it.
use Rattle.std.specs.Prelude.{Option, Some, None, option_map, Bool, true, false, cond, ◌&&◌, List, [], ◌∷◌, ℕ, ◌+◌, ◌-◌, ◌*◌, leb, eqb, length}
use Rattle.digits.specs.Digits.{bytes_of}

-- what a readable line says; the key is its bytes, however many
pub record Line : Type 0 where
  pub d : ℕ
  pub limit : ℕ
  pub rounds : Option ℕ
  pub key : List ℕ

-- "single spaces": the fields of a line are the bytes between its spaces (byte 32), so two spaces have an empty field between
-- them. `cut` puts a byte before the fields of what follows it, of which there is at least one
abbrev pub cut : Bool → ℕ → List (List ℕ) → List (List ℕ)
cut true b fs = [] ∷ fs
cut false b [] = (b ∷ []) ∷ []
cut false b (f ∷ fs) = (b ∷ f) ∷ fs

abbrev pub fields : List ℕ → List (List ℕ)
fields [] = [] ∷ []
fields (b ∷ bs) = cut (eqb b 32) b (fields bs)

-- "-" (byte 45), alone in its field
abbrev pub is_dash : List ℕ → Bool
is_dash [] = false
is_dash (b ∷ []) = eqb b 45
is_dash (b ∷ c ∷ bs) = false

-- a decimal digit: bytes 48 to 57
abbrev pub is_decimal : ℕ → Bool
is_decimal b = leb 48 b && leb b 57

-- the number that decimal digits spell after digits that spelt n; none if a byte is no digit
abbrev pub decimal : ℕ → List ℕ → Option ℕ
decimal n [] = Some n
decimal n (b ∷ bs) = cond (is_decimal b) (decimal (n * 10 + (b - 48)) bs) None

-- a number has one to five digits
abbrev pub number_of : List ℕ → Option ℕ
number_of f = cond (leb 1 (length f) && leb (length f) 5) (decimal 0 f) None

-- "r may be - for the default", which is none
abbrev pub rounds_of : List ℕ → Option (Option ℕ)
rounds_of f = cond (is_dash f) (Some None) (option_map (λ (r : ℕ). Some r) (number_of f))

-- "- for none"; an empty run of digits is no key
abbrev pub key_of : List ℕ → Option (List ℕ)
key_of f = cond (is_dash f) (Some []) (cond (leb 1 (length f)) (bytes_of f) None)

-- readable if every field is
abbrev pub together : Option ℕ → Option ℕ → Option (Option ℕ) → Option (List ℕ) → Option Line
together None l r k = None
together (Some d) None r k = None
together (Some d) (Some l) None k = None
together (Some d) (Some l) (Some r) None = None
together (Some d) (Some l) (Some r) (Some k) = Some (record { d = d; limit = l; rounds = r; key = k })

-- a line has four fields
abbrev pub four_of : List (List ℕ) → Option Line
four_of [] = None
four_of (d ∷ []) = None
four_of (d ∷ l ∷ []) = None
four_of (d ∷ l ∷ r ∷ []) = None
four_of (d ∷ l ∷ r ∷ k ∷ []) = together (number_of d) (number_of l) (rounds_of r) (key_of k)
four_of (d ∷ l ∷ r ∷ k ∷ f ∷ fs) = None

-- what a line says; none if it is unreadable
unfoldable pub line_of : List ℕ → Option Line
line_of line = four_of (fields line)
