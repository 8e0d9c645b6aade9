-- Definitions: numbers and words as hexadecimal digits, and back. Document 01, "Suspended text": "digits 0 to 9 and a to f; a capital is
-- refused". A text is a list of bytes.
use mathlib.Core.List.{List, [], ◌∷◌, ◌++◌, map, flatten}
use Rattle.std.specs.Prelude.{Option, Some, None, option_and_then, ℕ, zero, suc, ◌+◌, ◌*◌, ◌/◌, ◌%◌, ◌^◌, take, drop}
use Rattle.digits.specs.Hex.{digit_of, hex_digit}

-- n hexadecimal digits of a number, high digit first
unfoldable pub hex_digits : ℕ → ℕ → List ℕ
hex_digits zero x = []
hex_digits (suc n) x = hex_digit (x / 16 ^ n % 16) ∷ hex_digits n x

-- the digits of words, 16 each
abbrev pub word_digits : List ℕ → List ℕ
word_digits ws = flatten (map (hex_digits 16) ws)

-- "each line ended by byte 10"
abbrev pub line : List ℕ → List ℕ
line ds = ds ++ (10 ∷ [])

-- the number that digits spell, high digit first, after those that spelt x; none if a byte is refused
abbrev pub spelt : ℕ → List ℕ → Option ℕ
spelt x [] = Some x
spelt x (b ∷ bs) = option_and_then (λ (v : ℕ). spelt (x * 16 + v) bs) (digit_of b)

-- n words of 16 digits each, each spelt or none
unfoldable pub spelt_words : ℕ → List ℕ → List (Option ℕ)
spelt_words zero text = []
spelt_words (suc n) text = spelt 0 (take 16 text) ∷ spelt_words n (drop 16 text)

-- the words, if each is spelt; none if one is not
abbrev pub with_word : Option ℕ → Option (List ℕ) → Option (List ℕ)
with_word None ws = None
with_word (Some w) None = None
with_word (Some w) (Some ws) = Some (w ∷ ws)

abbrev pub all_spelt : List (Option ℕ) → Option (List ℕ)
all_spelt [] = Some []
all_spelt (w ∷ ws) = with_word w (all_spelt ws)

-- the bytes that an even count of digits spells, two digits a byte, high digit first; none if a digit is refused or one is left
abbrev pub bytes_of : List ℕ → Option (List ℕ)
bytes_of [] = Some []
bytes_of (a ∷ []) = None
bytes_of (a ∷ b ∷ bs) = with_word (spelt 0 (a ∷ b ∷ [])) (bytes_of bs)
