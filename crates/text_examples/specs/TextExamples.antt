-- Examples: texts by computing: of an opened area, of areas that hold bits, of an ended one; and texts that are read and that are not,
-- in both forms.
use Rattle.std.specs.Prelude.{◌≡◌, refl, true, None, ℕ, ◌+◌, ◌-◌, ◌*◌, ◌^◌, take, drop, replicate}
use mathlib.Core.List.{List, [], ◌∷◌, ◌++◌, map}
use Rattle.bits.specs.Bits.{numbers}
use Rattle.bits.specs.Piece.{piece_of}
use Rattle.compress.specs.Compress.{grown, compressed}
use Rattle.tree.specs.Tree.{Params, key_words, output, most_limit, out_words}
use Rattle.calls.specs.Area.{area_words, params_of, levels_of, with_levels, empty_level, empty_levels, sound}
use Rattle.calls.specs.Calls.{with_bit, receive, feed_bit, feed_bits, last_above, last_nodes, open_number, opened_area, open_of, fed_bits, feed_number, fed_area, feed_of, last_nodes_of, end_number, ended_area, digest_out, end_of}
use Rattle.digits.specs.Digits.{hex_digits, spelt_words}
use Rattle.texts.specs.Text.{rounds_bytes, old_rounds_bytes, text_with, text_of, old_text_of, spelt_head, spelt_area, readable_with, readable, read_area, write_number, write_of, read_number, read_of}
use Rattle.texts.specs.Vocabulary.{text_before, widened}
use Rattle.texts.proofs.FieldExamples.{ascii}

abbrev zeros : ℕ → List ℕ
zeros n = replicate n 48

-- an area with something in it, and two words more than the longest needs
abbrev used : List ℕ
used = replicate (area_words most_limit + 2) 7

abbrev out : List ℕ
out = replicate 200 7

-- ---- an opened area: two lines, 176 bytes

-- a key of three bytes, d = 256, L = 64, r = 104
abbrev keyed : Params
keyed = record { key = 1 ∷ 2 ∷ 171 ∷ []; d = 256; limit = 64; rounds = 104 }

abbrev opened : List ℕ
opened = (open_of used keyed).area

abbrev opened_text : List ℕ
opened_text = ascii "0100684003010000000000000000000000000000000000\n0102ab" ++ (zeros 122 ++ ascii "\n")

-- written: phase 1, r, L, 3 key bytes, d, total and compressions 0; then K; and what the output held past the 176 bytes stays
pub opened-written : write_of opened out ≡ record { number = 0; count = 176; text = opened_text ++ drop 176 out }
unfolding key_words numbers open_number opened_area open_of params_of levels_of empty_levels empty_level sound hex_digits text_with write_number write_of mathlib.Core.List.flatten
opened-written = refl

-- it is read into an area that holds something else, whose last two words stay
pub opened-read : read_of used opened_text ≡ record { number = 0; count = 0; area = opened }
unfolding key_words numbers open_number opened_area open_of params_of levels_of empty_levels empty_level sound hex_digits text_with spelt_words spelt_head spelt_area readable_with readable read_area read_number read_of mathlib.Core.List.flatten
opened-read = refl

-- "Old lines of 44 digits are still read": the text that this area had before M-108
abbrev opened_old : List ℕ
opened_old = ascii "01684003010000000000000000000000000000000000\n0102ab" ++ (zeros 122 ++ ascii "\n")

-- its 44 digits are read back to the same area, and with the two digits of r's high byte it is what is written now
pub old_read : (old_text_of opened ≡ opened_old) × (read_of used opened_old ≡ record { number = 0; count = 0; area = opened }) × (widened opened_old ≡ opened_text)
unfolding key_words numbers open_number opened_area open_of params_of levels_of empty_levels empty_level sound hex_digits text_with spelt_words spelt_head spelt_area readable_with readable read_area read_number read_of mathlib.Core.List.flatten
old_read = (refl, refl, refl)

-- ---- areas that hold bits

abbrev ones : ℕ → Params → List ℕ
ones n P = (feed_of (open_of used P).area (piece_of (replicate (n + 1) 255) 0 n) out).area

-- line 2 of an area without a key
abbrev no_key : List ℕ
no_key = zeros 128 ++ ascii "\n"

-- no key, d = 8, r = 0
abbrev plain : ℕ → Params
plain limit = record { key = []; d = 8; limit = limit; rounds = 0 }

-- nine bits, L = 64: a line for level 1
abbrev nine_text : List ℕ
nine_text = ascii "0100004000000800000000000000090000000000000000\n" ++ (no_key ++ (ascii "01ff8" ++ (zeros 1021 ++ ascii "\n")))

pub nine-bits : text_of (ones 9 (plain 64)) ≡ nine_text
unfolding key_words numbers output compressed grown params_of levels_of with_levels empty_levels empty_level sound with_bit out_words receive feed_bit feed_bits open_number opened_area open_of fed_bits feed_number fed_area feed_of hex_digits text_with mathlib.Core.List.flatten
nine-bits = refl

-- 4,097 bits, all ones, L = 1: one compression. Level 2 is sequential and has no output yet, and what it holds follows 16 words
-- of zeros. The words are given here, and not fed.
abbrev two_levels : List ℕ
two_levels =
    1 ∷ 4097 ∷ 0 ∷ 8 ∷ 1 ∷ 0 ∷ (replicate 8 0
    ++ (1 ∷ 0 ∷ 2 ^ 63 ∷ (replicate 63 0
    ++ (replicate 16 0 ++ (replicate 16 (2 ^ 64 - 1) ++ replicate 32 0)))))

abbrev two_levels_text : List ℕ
two_levels_text =
    ascii "0100000100000800000000000010010000000000000001\n"
    ++ (no_key ++ (ascii "018" ++ (zeros 1023 ++ (ascii "\n02" ++ (zeros 256 ++ (replicate 256 102 ++ (zeros 512 ++ ascii "\n")))))))

pub two-levels : (text_of two_levels ≡ two_levels_text) × (readable two_levels_text ≡ true)
unfolding numbers params_of levels_of empty_level sound hex_digits text_with spelt_words spelt_head spelt_area readable_with readable read_area mathlib.Core.List.flatten
two-levels = (refl, refl)

-- ---- short areas: the words go by L, and those past them stay

-- nine bits, L = 0: 80 words, of which 16 are for the sequential output
abbrev flat : List ℕ
flat = 1 ∷ 9 ∷ 0 ∷ 8 ∷ (replicate 28 0 ++ (511 * 2 ^ 55 ∷ replicate 47 0))

abbrev flat_text : List ℕ
flat_text =
    ascii "0100000000000800000000000000090000000000000000\n"
    ++ (no_key ++ (ascii "01" ++ (zeros 256 ++ (ascii "ff8" ++ (zeros 765 ++ ascii "\n")))))

-- fed and written where the tail is not zero, and read into 80 words and into 1,744
pub flat-written : text_of (ones 9 (plain 0)) ≡ flat_text
unfolding key_words numbers output compressed grown params_of levels_of with_levels empty_levels empty_level sound with_bit out_words receive feed_bit feed_bits open_number opened_area open_of fed_bits feed_number fed_area feed_of hex_digits text_with mathlib.Core.List.flatten
flat-written = refl

pub flat-read : (read_of (replicate 80 7) flat_text ≡ record { number = 0; count = 0; area = flat })
    × (read_of (replicate 1744 7) flat_text ≡ record { number = 0; count = 0; area = flat ++ replicate 1664 7 })
unfolding numbers params_of levels_of empty_level sound hex_digits text_with spelt_words spelt_head spelt_area readable_with readable read_area read_number read_of mathlib.Core.List.flatten
flat-read = (refl, refl)

-- in 79 nothing is changed
pub flat-short : read_of (replicate 79 7) flat_text ≡ record { number = 7; count = 0; area = replicate 79 7 }
unfolding numbers params_of levels_of empty_level sound hex_digits text_with spelt_words spelt_head spelt_area readable_with readable read_area read_number read_of mathlib.Core.List.flatten
flat-short = refl

-- texts, old ones too, of L = 0, 1, 25, 26 and 64 with the words that are just enough for them
abbrev enough : List (ℕ × List ℕ)
enough =
    (80, flat_text)
    ∷ (144, two_levels_text)
    ∷ (1680, ascii "0100001900000800000000000000000000000000000000\n" ++ no_key)
    ∷ (1744, ascii "0100001a00000800000000000000000000000000000000\n" ++ no_key)
    ∷ (1744, opened_text)
    ∷ (1744, opened_old)
    ∷ []

-- "reading tests 11 and then 7": a text that is not read gets 11, also in an area that is short for the text that it was made from
pub enough-read : (map (λ (e : ℕ × List ℕ). (read_of (replicate e.0 7) e.1).number) enough ≡ replicate 6 0)
    × (map (λ (e : ℕ × List ℕ). (read_of (replicate (e.0 - 1) 7) e.1).number) enough ≡ replicate 6 7)
    × (map (λ (e : ℕ × List ℕ). (read_of (replicate (e.0 - 1) 7) (10 ∷ e.1)).number) enough ≡ replicate 6 11)
    × ((read_of [] []).number ≡ 11)
unfolding numbers params_of levels_of empty_level sound hex_digits text_with spelt_words spelt_head spelt_area readable_with readable read_area read_number read_of mathlib.Core.List.flatten
enough-read = (refl, refl, refl, refl)

-- "Texts do not change": what writing gave before M-109
pub same-before : (text_before rounds_bytes (two_levels ++ replicate 1600 0) ≡ two_levels_text) × (text_before rounds_bytes (flat ++ replicate 1664 0) ≡ flat_text)
unfolding numbers params_of hex_digits mathlib.Core.List.flatten
same-before = (refl, refl)

-- ---- an ended area: two lines, one compression for the empty message

pub ended-text : text_of (end_of (open_of used (plain 64)).area out out).area ≡ ascii "0200004000000800000000000000000000000000000001\n" ++ no_key
unfolding key_words numbers output compressed grown params_of levels_of with_levels empty_levels empty_level sound out_words last_above last_nodes open_number opened_area open_of last_nodes_of end_number ended_area digest_out end_of hex_digits text_with mathlib.Core.List.flatten
ended-text = refl

-- ---- texts that are not read, and texts that are, from which each but the empty one differs in one thing; in the old form and, with
-- the two digits of r's high byte, in the new one

abbrev in_both : List (List ℕ) → List (List ℕ)
in_both texts = texts ++ map widened texts

abbrev numbers_of : List (List ℕ) → List ℕ
numbers_of texts = map (λ (text : List ℕ). (read_of used text).number) texts

-- an opened area without a key, d = 8, L = 64, r = 0
abbrev plain_text : List ℕ
plain_text = ascii "01004000000800000000000000000000000000000000\n" ++ no_key

-- nine bits
abbrev nine_old : List ℕ
nine_old = ascii "01004000000800000000000000090000000000000000\n" ++ (no_key ++ (ascii "01ff8" ++ (zeros 1021 ++ ascii "\n")))

abbrev undamaged : List (List ℕ)
undamaged =
    opened_old
    ∷ plain_text
    ∷ nine_old
    -- r = 10 and 255; a key of one byte
    ∷ (ascii "010a4000000800000000000000000000000000000000\n" ++ no_key)
    ∷ (ascii "01ff4000000800000000000000000000000000000000\n" ++ no_key)
    ∷ (ascii "01004001000800000000000000000000000000000000\na0" ++ drop 2 no_key)
    ∷ []

-- r = 256 and 4,095 have only the new form
abbrev many_rounds : List (List ℕ)
many_rounds =
    (ascii "0101004000000800000000000000000000000000000000\n" ++ no_key)
    ∷ (ascii "010fff4000000800000000000000000000000000000000\n" ++ no_key)
    ∷ []

-- each of these 14 is read, the six of `undamaged` in both forms
pub undamaged-read : numbers_of (in_both undamaged ++ many_rounds) ≡ replicate 14 0
unfolding numbers params_of levels_of empty_level sound hex_digits text_with spelt_words spelt_head spelt_area readable_with readable read_area read_number read_of mathlib.Core.List.flatten
undamaged-read = refl

-- "a capital is refused": in r, in K, in a level's words; and a byte that is neither digit nor letter, in the total
abbrev no_digits : List (List ℕ)
no_digits =
    (ascii "010A4000000800000000000000000000000000000000\n" ++ no_key)
    ∷ (ascii "01004001000800000000000000000000000000000000\nA0" ++ drop 2 no_key)
    ∷ (ascii "01004000000800000000000000090000000000000000\n" ++ (no_key ++ (ascii "01fF8" ++ (zeros 1021 ++ ascii "\n"))))
    ∷ (ascii "010040000008 0000000000000000000000000000000\n" ++ no_key)
    ∷ []

-- they spell no area
pub nothing-spelt : map (spelt_area old_rounds_bytes) no_digits ++ map (spelt_area rounds_bytes) (map widened no_digits) ≡ replicate 8 None
unfolding numbers params_of levels_of empty_level sound hex_digits spelt_words spelt_head spelt_area
nothing-spelt = refl

abbrev damaged : List (List ℕ)
damaged =
    -- a byte more than the opened area's text, its last byte missing, no byte at all
    (opened_old ++ (10 ∷ []))
    ∷ take 173 opened_old
    ∷ []
    -- the plain text with phase 0 and 3, L = 65, 65 key bytes, d = 0 and 513
    ∷ (ascii "00004000000800000000000000000000000000000000\n" ++ no_key)
    ∷ (ascii "03004000000800000000000000000000000000000000\n" ++ no_key)
    ∷ (ascii "01004100000800000000000000000000000000000000\n" ++ no_key)
    ∷ (ascii "01004041000800000000000000000000000000000000\n" ++ no_key)
    ∷ (ascii "01004000000000000000000000000000000000000000\n" ++ no_key)
    ∷ (ascii "01004000020100000000000000000000000000000000\n" ++ no_key)
    -- with a compression too many, a key byte past the key, a line of zeros
    ∷ (ascii "01004000000800000000000000000000000000000001\n" ++ no_key)
    ∷ (ascii "01004000000800000000000000000000000000000000\n01" ++ drop 2 no_key)
    ∷ (plain_text ++ (ascii "01" ++ (zeros 1024 ++ ascii "\n")))
    -- nine bits without the line of level 1, with another number of it, with a bit past the nine
    ∷ (ascii "01004000000800000000000000090000000000000000\n" ++ no_key)
    ∷ (ascii "01004000000800000000000000090000000000000000\n" ++ (no_key ++ (ascii "02ff8" ++ (zeros 1021 ++ ascii "\n"))))
    ∷ (ascii "01004000000800000000000000090000000000000000\n" ++ (no_key ++ (ascii "01ffc" ++ (zeros 1021 ++ ascii "\n"))))
    ∷ []

-- each of these 19 gets 11, in both forms
pub damaged-refused : numbers_of (in_both (no_digits ++ damaged)) ≡ replicate 38 11
unfolding numbers params_of levels_of empty_level sound hex_digits text_with spelt_words spelt_head spelt_area readable_with readable read_area read_number read_of mathlib.Core.List.flatten
damaged-refused = refl

-- texts that are of neither form
abbrev mixed : List (List ℕ)
mixed =
    -- r = 4,096 and 65,535 in two bytes
    (ascii "0110004000000800000000000000000000000000000000\n" ++ no_key)
    ∷ (ascii "01ffff4000000800000000000000000000000000000000\n" ++ no_key)
    -- 44 digits with r in two bytes and d in one; 45 digits; 48, with r in three bytes
    ∷ (ascii "01006840000800000000000000000000000000000000\n" ++ no_key)
    ∷ (ascii "010004000000800000000000000000000000000000000\n" ++ no_key)
    ∷ (ascii "010000004000000800000000000000000000000000000000\n" ++ no_key)
    -- nine bits in the new form with a level line two digits shorter, and in the old form with one two digits longer
    ∷ (ascii "0100004000000800000000000000090000000000000000\n" ++ (no_key ++ (ascii "01ff8" ++ (zeros 1019 ++ ascii "\n"))))
    ∷ (ascii "01004000000800000000000000090000000000000000\n" ++ (no_key ++ (ascii "01ff8" ++ (zeros 1023 ++ ascii "\n"))))
    ∷ []

-- each of these 7 gets 11
pub mixed-refused : numbers_of mixed ≡ replicate 7 11
unfolding numbers params_of levels_of empty_level sound hex_digits text_with spelt_words spelt_head spelt_area readable_with readable read_area read_number read_of mathlib.Core.List.flatten
mixed-refused = refl
