-- Definitions: a suspended stream as text. Document 01, "Suspended text", and the calls write and read; document 02, M-108 and M-109.
-- A text is a list of bytes.
use Rattle.std.specs.Prelude.{Bool, true, false, not, cond, ◌||◌, ◌&&◌, Option, Some, None, unwrap_or, ℕ, suc, ◌+◌, ◌*◌, eqb, length, take, drop, get_or, set, replicate}
use mathlib.Core.List.{List, [], ◌∷◌, ◌++◌, map, flatten}
use Rattle.lists.specs.Part.{put}
use Rattle.lists.specs.Same.{same}
use Rattle.digits.specs.Digits.{hex_digits, line, word_digits, spelt, spelt_words, all_spelt}
use Rattle.refusals.specs.Refusals.{first_refusal, answer_of, output_test}
use Rattle.calls.specs.Area.{Hold, head_words, block_words, area_levels, phase_of, total_of, k_of, params_of, own_words, levels_of, empty_level, holds_for, sound}
use Rattle.calls.specs.Calls.{short_test, area_tests}

-- ---- the text of an area

-- a field of line 1: the word of the area that it tells, and its bytes, of two digits each
pub record Field : Type 0 where
  pub word : ℕ
  pub bytes : ℕ

abbrev pub field_of : ℕ → ℕ → Field
field_of word bytes = record { word = word; bytes = bytes }

-- "Line 1: phase (1 byte), r (1), L (1), key bytes (1), d (2), total (8), compressions (8): 44 digits." M-108: "Line 1 of the
-- suspended text holds r in two bytes, 46 digits. Old lines of 44 digits are still read; writing gives the new form." So the
-- bytes of r, w, are left open here and in what follows; these are what writing gives and what it gave before:
abbrev pub rounds_bytes : ℕ
rounds_bytes = 2

abbrev pub old_rounds_bytes : ℕ
old_rounds_bytes = 1

abbrev pub line1_fields : ℕ → List Field
line1_fields w = field_of 0 1 ∷ field_of 5 w ∷ field_of 4 1 ∷ field_of 2 1 ∷ field_of 3 2 ∷ field_of 1 8 ∷ field_of 14 8 ∷ []

abbrev pub digits_of : Field → ℕ
digits_of f = 2 * f.bytes

abbrev pub field_digits : List Field → List ℕ → List ℕ
field_digits fs area = flatten (map (λ (f : Field). hex_digits (digits_of f) (get_or area f.word 0)) fs)

abbrev pub line1 : List Field → List ℕ → List ℕ
line1 fs area = line (field_digits fs area)

-- "Line 2: K, 128 digits."
abbrev pub line2 : List ℕ → List ℕ
line2 area = line (word_digits (k_of area))

-- "level (1 byte) and its 64 words, 1,026 digits"
abbrev pub level_line : ℕ → List ℕ → List ℕ
level_line level ws = line (hex_digits 2 level ++ word_digits ws)

-- whether a level holds bits or has a sequential output
abbrev pub has_line : Hold → Bool
has_line h = h.output || not (eqb h.bits 0)

-- the same for each level, level 1 first, by the phase, the limit and the total
abbrev pub held_levels : ℕ → ℕ → ℕ → List Bool
held_levels phase limit T = map has_line (holds_for (area_levels limit) phase limit T)

-- and for an area
abbrev pub held_of : List ℕ → List Bool
held_of area = held_levels (phase_of area) (params_of area).limit (total_of area)

-- "Then, rising, a line for each level that holds bits or has a sequential output"
abbrev pub level_lines : ℕ → List Bool → List (List ℕ) → List ℕ
level_lines level [] levels = []
level_lines level (h ∷ hs) [] = []
level_lines level (true ∷ hs) (ws ∷ up) = level_line level ws ++ level_lines (suc level) hs up
level_lines level (false ∷ hs) (ws ∷ up) = level_lines (suc level) hs up

-- the whole text, with r in w bytes
unfoldable pub text_with : ℕ → List ℕ → List ℕ
text_with w area = line1 (line1_fields w) area ++ (line2 area ++ level_lines 1 (held_of area) (levels_of area))

-- what writing an area gives, and what it gave before M-108
abbrev pub text_of : List ℕ → List ℕ
text_of area = text_with rounds_bytes area

abbrev pub old_text_of : List ℕ → List ℕ
old_text_of area = text_with old_rounds_bytes area

-- ---- the area that a text's digits spell

-- the digits of fields
abbrev pub digits_in : List Field → ℕ
digits_in [] = 0
digits_in (f ∷ fs) = digits_of f + digits_in fs

-- the bytes of line 1, of line 2 and of a level's line, with their ends
abbrev pub line1_bytes : List Field → ℕ
line1_bytes fs = digits_in fs + 1

abbrev pub line2_bytes : ℕ
line2_bytes = 16 * 8 + 1

abbrev pub level_bytes : ℕ
level_bytes = 2 + 16 * block_words + 1

abbrev pub head_bytes : ℕ → ℕ
head_bytes w = line1_bytes (line1_fields w) + line2_bytes

-- what follows goes on with what is spelt, and a refused digit refuses
abbrev pub with_spelt : {A : Type 0} → Option A → (A → Option (List ℕ)) → Option (List ℕ)
with_spelt None go = None
with_spelt (Some x) go = go x

-- words with each field of line 1 in its word
abbrev pub spelt_fields : List Field → List ℕ → List ℕ → Option (List ℕ)
spelt_fields [] text ws = Some ws
spelt_fields (f ∷ fs) text ws =
    with_spelt (spelt 0 (take (digits_of f) text)) (λ (x : ℕ). spelt_fields fs (drop (digits_of f) text) (set ws f.word x))

-- words 0 to 15: the fields of line 1, and K from line 2, in words that are zero
unfoldable pub spelt_head : List Field → List ℕ → Option (List ℕ)
spelt_head fs text =
    with_spelt (spelt_fields fs text (replicate head_words 0))
    (λ (ws : List ℕ). with_spelt (all_spelt (spelt_words 8 (drop (line1_bytes fs) text))) (λ (key : List ℕ). Some (put 6 8 ws key)))

-- the words of the levels, from the lines of those that have one, in their order. A level's number and the ends of lines are not
-- spelt here: `readable` compares them with those of the area's text
abbrev pub spelt_levels : List Bool → List ℕ → List (Option ℕ)
spelt_levels [] text = []
spelt_levels (true ∷ hs) text = spelt_words block_words (drop 2 text) ++ spelt_levels hs (drop level_bytes text)
spelt_levels (false ∷ hs) text = map Some empty_level ++ spelt_levels hs text

-- the words of the area, as many as the L of line 1 gives, or none if a digit is refused; which levels have a line goes by the phase,
-- L and total of line 1
unfoldable pub spelt_area : ℕ → List ℕ → Option (List ℕ)
spelt_area w text =
    with_spelt (spelt_head (line1_fields w) text)
    (λ (head : List ℕ). all_spelt (map Some head ++ spelt_levels (held_of head) (drop (head_bytes w) text)))

-- ---- write text

pub record Written : Type 0 where
  pub number : ℕ
  pub count : ℕ
  pub text : List ℕ

-- "Write 7, 9"
unfoldable pub write_number : List ℕ → List ℕ → ℕ
write_number area out = first_refusal (area_tests area ++ (output_test (length (text_of area)) out ∷ []))

-- "for writing the text's bytes" as count; "Output bytes past the digest or text stay."
unfoldable pub write_of : List ℕ → List ℕ → Written
write_of area out =
    answer_of (write_number area out)
    record { number = 0; count = length (text_of area); text = text_of area ++ drop (length (text_of area)) out }
    (λ k. record { number = k; count = 0; text = out })

-- ---- read text

pub record Taken : Type 0 where
  pub number : ℕ
  pub count : ℕ
  pub area : List ℕ

-- whether the area that the digits spell is sound, and the text is its text with r in w bytes; if a digit is refused, there is none
abbrev pub text_is : ℕ → List ℕ → Option (List ℕ) → Bool
text_is w text None = false
text_is w text (Some area) = sound area && same (text_with w area) text

unfoldable pub readable_with : ℕ → List ℕ → Bool
readable_with w text = text_is w text (spelt_area w text)

-- M-108: "So a text is read exactly if it is new writing or was old writing, any other gets 11, .."
unfoldable pub readable : List ℕ → Bool
readable text = readable_with rounds_bytes text || readable_with old_rounds_bytes text

-- ".. and either reads back to its area": what its digits spell, in the form in which it is read. Of a text that is not read this is what
-- its digits spell in the old form, or none if one of them is refused: that text gets 11, and what is answered does not go by this
unfoldable pub read_area : List ℕ → Option (List ℕ)
read_area text = cond (readable_with rounds_bytes text) (spelt_area rounds_bytes text) (spelt_area old_rounds_bytes text)

-- the words of that area, or [] if there is none; a text that is read has one
abbrev pub area_in : List ℕ → List ℕ
area_in text = unwrap_or (read_area text) []

-- M-109: "reading tests 11 and then 7": whether the area is short goes by the L of the text
unfoldable pub read_number : List ℕ → List ℕ → ℕ
read_number area text = first_refusal ((not (readable text), 11) ∷ short_test area (params_of (area_in text)).limit ∷ [])

-- "a text read into an area just long enough gives the same stream", and the words past that length are "the untouched tail"
unfoldable pub read_of : List ℕ → List ℕ → Taken
read_of area text =
    answer_of (read_number area text)
    record { number = 0; count = 0; area = area_in text ++ drop (own_words (area_in text)) area }
    (λ k. record { number = k; count = 0; area = area })
