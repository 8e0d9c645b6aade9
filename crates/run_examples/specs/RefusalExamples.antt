-- Examples: every number of the table of refusals and every order of documents 01 and 02, by computing. For any two numbers that follow
-- each other in an order there is a call to which both apply, which answers the first, and then one to which only the later
-- applies; after these come the edges, each with what is accepted at it and refused past it.
use Rattle.std.specs.Prelude.{◌≡◌, refl, true, ℕ, ◌-◌, ◌^◌, take, set, replicate}
use mathlib.Core.List.{List, [], ◌∷◌, ◌++◌, map}
use Rattle.bits.specs.Bits.{numbers}
use Rattle.bits.specs.Piece.{piece_of}
use Rattle.compress.specs.Compress.{grown, compressed}
use Rattle.tree.specs.Tree.{Params, most_limit, key_words, output, no_chain, out_words}
use Rattle.calls.specs.Area.{area_words, params_of, levels_of, with_levels, empty_level, empty_levels, sound}
use Rattle.calls.specs.Calls.{with_bit, receive, feed_bit, feed_bits, last_above, last_nodes, open_number, opened_area, open_of, fed_bits, feed_number, fed_area, feed_of, last_nodes_of, end_number, ended_area, digest_out, end_of, preview_number, preview_of, close_number, close_of, log_words_number, log_words_of, area_words_of}
use Rattle.digits.specs.Digits.{hex_digits, spelt_words}
use Rattle.texts.specs.Text.{text_with, text_of, old_text_of, spelt_head, spelt_area, write_number, write_of, readable_with, readable, read_area, read_number, read_of}
use Rattle.lists.specs.Same.{same}
use Rattle.lists.specs.SameLaws.{same_eq}
use Rattle.hash.specs.Hash.{hash_number, hash_of, default_rounds_of}

-- ---- parameters and areas

-- d, the key's bytes, L and r
abbrev params : ℕ → ℕ → ℕ → ℕ → Params
params d key_bytes limit rounds = record { key = replicate key_bytes 1; d = d; limit = limit; rounds = rounds }

-- an area with something in it, which is not sound
abbrev used : List ℕ
used = replicate (area_words most_limit) 7

-- one word short, for L = 26 and above
abbrev shorter : List ℕ → List ℕ
shorter area = take (area_words most_limit - 1) area

abbrev opened : List ℕ
opened = (open_of used (params 8 0 64 0)).area

-- the same with L = 0, in a slice of 1,744 words, of which all past the first 80 are as they were
abbrev opened0 : List ℕ
opened0 = (open_of used (params 8 0 0 0)).area

-- after the end of the empty message
abbrev ended : List ℕ
ended = (end_of opened (0 ∷ []) (0 ∷ 0 ∷ [])).area

-- after 4,096 bits: the next bit makes a node
abbrev full : List ℕ
full = (feed_of opened (piece_of (replicate 512 255) 0 4096) []).area

-- the same with a digest of 9 bits, which are all ones: two bytes, the second with 7 spare bits
abbrev full9 : List ℕ
full9 = (feed_of (open_of used (params 9 0 64 0)).area (piece_of (replicate 512 255) 0 4096) []).area

-- after t bits, all zero, of 2^64 - 4,096 or more: 4,503,599,627,370,495 blocks were compressed at level 1, a quarter of them
-- rounded down at level 2, and so on
abbrev late : ℕ → List ℕ
late t = set (set opened 1 t) 14 6004799503160634

-- ---- a call's number, and the number of document 01

abbrev Row : Type 0
Row = ℕ × ℕ

abbrev byte : List ℕ
byte = 0 ∷ []

-- an output that is long enough
abbrev room : List ℕ
room = replicate 65 0

-- M-109: "Open tests 1, 2, 3, 4 and then 7"
abbrev open_rows : List Row
open_rows =
    ((open_of (shorter used) (params 0 0 64 0)).number, 1)
    ∷ ((open_of used (params 0 0 64 0)).number, 1)
    ∷ ((open_of used (params 513 65 64 0)).number, 1)
    ∷ ((open_of used (params 8 65 64 0)).number, 2)
    ∷ ((open_of used (params 8 65 65 0)).number, 2)
    ∷ ((open_of used (params 8 0 65 0)).number, 3)
    ∷ ((open_of used (params 8 0 65 4096)).number, 3)
    ∷ ((open_of used (params 8 0 64 4096)).number, 4)
    ∷ ((open_of (shorter used) (params 8 0 64 4096)).number, 4)
    ∷ ((open_of (shorter used) (params 8 0 64 0)).number, 7)
    -- edges: the length of the area for L 0, 1, 2, 25, 26, 27 and 64, and no words; d 1, 512 and 513; key 64; L 64; r 255, 256 and
    -- 4,095
    ∷ ((open_of [] (params 0 0 0 0)).number, 1)
    ∷ ((open_of [] (params 8 0 0 0)).number, 7)
    ∷ ((open_of (take 79 used) (params 8 0 0 0)).number, 7)
    ∷ ((open_of (take 80 used) (params 8 0 0 0)).number, 0)
    ∷ ((open_of (take 143 used) (params 8 0 1 0)).number, 7)
    ∷ ((open_of (take 144 used) (params 8 0 1 0)).number, 0)
    ∷ ((open_of (take 207 used) (params 8 0 2 0)).number, 7)
    ∷ ((open_of (take 208 used) (params 8 0 2 0)).number, 0)
    ∷ ((open_of (take 1679 used) (params 8 0 25 0)).number, 7)
    ∷ ((open_of (take 1680 used) (params 8 0 25 0)).number, 0)
    ∷ ((open_of (take 1743 used) (params 8 0 26 0)).number, 7)
    ∷ ((open_of (take 1744 used) (params 8 0 26 0)).number, 0)
    ∷ ((open_of (take 1743 used) (params 8 0 27 0)).number, 7)
    ∷ ((open_of (take 1744 used) (params 8 0 27 0)).number, 0)
    ∷ ((open_of (take 1744 used) (params 8 0 64 0)).number, 0)
    ∷ ((open_of used (params 1 0 0 0)).number, 0)
    ∷ ((open_of used (params 512 64 64 255)).number, 0)
    ∷ ((open_of used (params 512 64 64 256)).number, 0)
    ∷ ((open_of used (params 512 64 64 4095)).number, 0)
    ∷ ((open_of used (params 513 0 64 0)).number, 1)
    ∷ []

-- "Feed 7, 10, 5, 6, 8"
abbrev feed_rows : List Row
feed_rows =
    ((feed_of (shorter ended) (piece_of byte 0 8) []).number, 7)
    ∷ ((feed_of (set ended 15 1) (piece_of byte 0 8) []).number, 7)
    ∷ ((feed_of ended (piece_of byte 0 8) []).number, 10)
    ∷ ((feed_of ended (piece_of byte 0 9) []).number, 10)
    ∷ ((feed_of opened (piece_of byte 0 9) []).number, 5)
    ∷ ((feed_of (late (2 ^ 64 - 1)) (piece_of byte 0 9) []).number, 5)
    ∷ ((feed_of (late (2 ^ 64 - 1)) (piece_of byte 0 1) []).number, 6)
    ∷ ((feed_of (late (2 ^ 64 - 1)) (piece_of byte 0 2) []).number, 6)
    ∷ ((feed_of full (piece_of byte 0 1) []).number, 8)
    -- document 02, M-104: a start bit above 7, after 7 and 10, before 6 and 8; start and count together, before 8 too
    ∷ ((feed_of (set ended 15 1) (piece_of byte 8 0) []).number, 7)
    ∷ ((feed_of ended (piece_of byte 8 0) []).number, 10)
    ∷ ((feed_of opened (piece_of byte 8 0) []).number, 5)
    ∷ ((feed_of (late (2 ^ 64 - 1)) (piece_of byte 8 1) []).number, 5)
    ∷ ((feed_of full (piece_of byte 8 1) []).number, 5)
    ∷ ((feed_of full (piece_of byte 7 2) []).number, 5)
    ∷ ((feed_of full (piece_of byte 7 1) []).number, 8)
    ∷ ((feed_of opened (piece_of byte 7 1) []).number, 0)
    ∷ ((feed_of opened (piece_of byte 7 (2 ^ 64 - 8)) []).number, 5)
    ∷ ((feed_of opened (piece_of byte 7 (2 ^ 64 - 1)) []).number, 5)
    ∷ ((feed_of opened (piece_of [] 3 0) []).number, 5)
    -- M-109: no word 4; fewer words than word 4 asks; just as many; word 4 over 64, and the highest word 4, for which L + 1 is 2^64; in
    -- a slice of 1,744 words a word 4 of 1 takes in words that are not zero
    ∷ ((feed_of [] (piece_of byte 0 8) []).number, 7)
    ∷ ((feed_of (take 4 opened0) (piece_of byte 0 8) []).number, 7)
    ∷ ((feed_of (take 5 opened0) (piece_of byte 0 8) []).number, 7)
    ∷ ((feed_of (take 16 opened0) (piece_of byte 0 8) []).number, 7)
    ∷ ((feed_of (take 79 opened0) (piece_of byte 0 8) []).number, 7)
    ∷ ((feed_of (take 80 opened0) (piece_of byte 0 8) []).number, 0)
    ∷ ((feed_of opened0 (piece_of byte 0 8) []).number, 0)
    ∷ ((feed_of (set opened 4 65) (piece_of byte 0 8) []).number, 7)
    ∷ ((feed_of (set opened 4 (2 ^ 64 - 1)) (piece_of byte 0 8) []).number, 7)
    ∷ ((feed_of (set opened0 4 1) (piece_of byte 0 8) []).number, 7)
    -- edges: 8 times the bytes; 0 bits; the highest total; no node made; a word short of one node
    ∷ ((feed_of opened (piece_of byte 0 8) []).number, 0)
    ∷ ((feed_of full (piece_of [] 0 0) []).number, 0)
    ∷ ((feed_of full (piece_of [] 0 1) []).number, 5)
    ∷ ((feed_of (late (2 ^ 64 - 2)) (piece_of byte 0 1) []).number, 0)
    ∷ ((feed_of (late (2 ^ 64 - 2)) (piece_of byte 0 2) []).number, 6)
    ∷ ((feed_of (late (2 ^ 64 - 1)) (piece_of byte 0 0) []).number, 0)
    ∷ ((feed_of full (piece_of byte 0 1) (0 ∷ [])).number, 8)
    ∷ ((feed_of full (piece_of byte 0 1) (0 ∷ 0 ∷ [])).number, 0)
    ∷ []

-- "End 7, 10, 9, 8"
abbrev end_rows : List Row
end_rows =
    ((end_of (shorter ended) byte (0 ∷ 0 ∷ [])).number, 7)
    ∷ ((end_of (set ended 15 1) byte (0 ∷ 0 ∷ [])).number, 7)
    ∷ ((end_of ended byte (0 ∷ 0 ∷ [])).number, 10)
    ∷ ((end_of ended [] (0 ∷ 0 ∷ [])).number, 10)
    ∷ ((end_of opened [] (0 ∷ 0 ∷ [])).number, 9)
    ∷ ((end_of opened [] []).number, 9)
    ∷ ((end_of opened byte []).number, 8)
    -- edges: a word short of one node; a digest of 9 bits is two bytes
    ∷ ((end_of opened byte (0 ∷ [])).number, 8)
    ∷ ((end_of opened byte (0 ∷ 0 ∷ [])).number, 0)
    ∷ ((end_of (open_of used (params 9 0 64 0)).area byte (0 ∷ 0 ∷ [])).number, 9)
    ∷ ((end_of (open_of used (params 9 0 64 0)).area (0 ∷ 0 ∷ []) (0 ∷ 0 ∷ [])).number, 0)
    ∷ []

-- M-106: a preview "refuses 7, 10, 9"
abbrev preview_rows : List Row
preview_rows =
    ((preview_of (shorter ended) []).number, 7)
    ∷ ((preview_of (set ended 15 1) []).number, 7)
    ∷ ((preview_of ended []).number, 10)
    ∷ ((preview_of ended byte).number, 10)
    ∷ ((preview_of opened []).number, 9)
    ∷ ((preview_of opened byte).number, 0)
    -- edges: a digest of 9 bits is two bytes
    ∷ ((preview_of full9 byte).number, 9)
    ∷ ((preview_of full9 (0 ∷ 0 ∷ [])).number, 0)
    ∷ []

-- M-106: "the order 7, 10, 8, 14 for closing"; the digest of `full` is ff, that of `full9` ff 80
abbrev close_rows : List Row
close_rows =
    ((close_of (shorter ended) byte []).number, 7)
    ∷ ((close_of (set ended 15 1) byte []).number, 7)
    ∷ ((close_of ended byte []).number, 10)
    ∷ ((close_of ended byte (0 ∷ 0 ∷ [])).number, 10)
    ∷ ((close_of full byte []).number, 8)
    ∷ ((close_of full (0xff ∷ []) (0 ∷ [])).number, 8)
    ∷ ((close_of full byte (0 ∷ 0 ∷ [])).number, 14)
    ∷ ((close_of full (0xff ∷ []) (0 ∷ 0 ∷ [])).number, 0)
    -- edges: no byte, a byte more or fewer, a set spare bit
    ∷ ((close_of full [] (0 ∷ 0 ∷ [])).number, 14)
    ∷ ((close_of full (0xff ∷ 0 ∷ []) (0 ∷ 0 ∷ [])).number, 14)
    ∷ ((close_of full9 (0xff ∷ []) (0 ∷ 0 ∷ [])).number, 14)
    ∷ ((close_of full9 (0xff ∷ 0x81 ∷ []) (0 ∷ 0 ∷ [])).number, 14)
    ∷ ((close_of full9 (0xff ∷ 0x80 ∷ []) (0 ∷ 0 ∷ [])).number, 0)
    ∷ []

-- "Write 7, 9": the text of an opened or ended area has 176 bytes
abbrev write_rows : List Row
write_rows =
    ((write_of (shorter opened) []).number, 7)
    ∷ ((write_of (take 79 opened0) (replicate 176 0)).number, 7)
    ∷ ((write_of (take 80 opened0) (replicate 176 0)).number, 0)
    ∷ ((write_of used []).number, 7)
    ∷ ((write_of opened []).number, 9)
    ∷ ((write_of opened (replicate 175 0)).number, 9)
    ∷ ((write_of opened (replicate 176 0)).number, 0)
    ∷ ((write_of ended (replicate 176 0)).number, 0)
    ∷ []

-- M-109: "reading tests 11 and then 7": what the area holds does not matter; how long it has to be goes by the L of the text
abbrev read_rows : List Row
read_rows =
    ((read_of (shorter used) []).number, 11)
    ∷ ((read_of [] []).number, 11)
    ∷ ((read_of used []).number, 11)
    ∷ ((read_of (shorter used) (text_of ended)).number, 7)
    ∷ ((read_of [] (text_of opened0)).number, 7)
    ∷ ((read_of (take 79 used) (text_of opened0)).number, 7)
    ∷ ((read_of (take 80 used) (text_of opened0)).number, 0)
    ∷ ((read_of (take 80 used) (text_of opened)).number, 7)
    ∷ ((read_of used (text_of ended)).number, 0)
    ∷ ((read_of used (old_text_of ended)).number, 0)
    ∷ ((read_of used (old_text_of ended ++ (10 ∷ []))).number, 11)
    ∷ ((read_of used (text_of ended ++ (10 ∷ []))).number, 11)
    ∷ []

-- "Whole message 5, 1, 2, 3, 4, 9"
abbrev whole_rows : List Row
whole_rows =
    ((hash_of (piece_of byte 0 9) (params 0 0 64 0) room).number, 5)
    ∷ ((hash_of (piece_of byte 0 8) (params 0 0 64 0) room).number, 1)
    ∷ ((hash_of (piece_of byte 0 8) (params 513 65 64 0) room).number, 1)
    ∷ ((hash_of (piece_of byte 0 8) (params 8 65 64 0) room).number, 2)
    ∷ ((hash_of (piece_of byte 0 8) (params 8 65 65 0) room).number, 2)
    ∷ ((hash_of (piece_of byte 0 8) (params 8 0 65 0) room).number, 3)
    ∷ ((hash_of (piece_of byte 0 8) (params 8 0 65 4096) room).number, 3)
    ∷ ((hash_of (piece_of byte 0 8) (params 8 0 64 4096) room).number, 4)
    ∷ ((hash_of (piece_of byte 0 8) (params 8 0 64 4096) []).number, 4)
    ∷ ((hash_of (piece_of byte 0 8) (params 8 0 64 0) []).number, 9)
    -- document 02, M-104: a start bit above 7; start and count together
    ∷ ((hash_of (piece_of byte 8 0) (params 0 0 64 0) room).number, 5)
    ∷ ((hash_of (piece_of byte 8 0) (params 8 0 64 0) room).number, 5)
    ∷ ((hash_of (piece_of byte 3 6) (params 8 0 64 0) room).number, 5)
    ∷ ((hash_of (piece_of byte 3 5) (params 8 0 64 0) room).number, 0)
    ∷ ((hash_of (piece_of byte 1 (2 ^ 64 - 1)) (params 8 0 64 0) room).number, 5)
    ∷ ((hash_of (piece_of [] 3 0) (params 8 0 64 0) room).number, 5)
    ∷ ((hash_of (piece_of [] 0 0) (params 8 0 64 0) room).number, 0)
    -- edges: 8 times the bytes and one more; d 1, 512 and 513; key 64; L 64; r 255, 256 and 4,095; the bytes of a digest
    ∷ ((hash_of (piece_of byte 0 8) (params 1 64 64 255) byte).number, 0)
    ∷ ((hash_of (piece_of byte 0 8) (params 1 64 64 256) byte).number, 0)
    ∷ ((hash_of (piece_of byte 0 8) (params 1 64 64 4095) byte).number, 0)
    ∷ ((hash_of (piece_of byte 0 9) (params 1 64 64 4095) byte).number, 5)
    ∷ ((hash_of (piece_of byte 0 8) (params 512 0 0 0) (take 64 room)).number, 0)
    ∷ ((hash_of (piece_of byte 0 8) (params 512 0 0 0) (take 63 room)).number, 9)
    ∷ ((hash_of (piece_of byte 0 8) (params 513 0 0 0) room).number, 1)
    ∷ []

-- document 02, M-102: "refuses 1, then 2"; edges: d 0, 1, 512 and 513; key 64 and 65
abbrev rounds_rows : List Row
rounds_rows =
    ((default_rounds_of 0 65).number, 1)
    ∷ ((default_rounds_of 513 65).number, 1)
    ∷ ((default_rounds_of 512 65).number, 2)
    ∷ ((default_rounds_of 512 64).number, 0)
    ∷ ((default_rounds_of 513 0).number, 1)
    ∷ ((default_rounds_of 1 0).number, 0)
    ∷ ((default_rounds_of 0 0).number, 1)
    ∷ []

-- document 02, M-103: "It refuses 7, 10 and 6 in that order"; edges: the length of the area; the highest total
abbrev told_rows : List Row
told_rows =
    ((log_words_of (shorter ended) 8).number, 7)
    ∷ ((log_words_of (set ended 15 1) 8).number, 7)
    ∷ ((log_words_of ended 8).number, 10)
    ∷ ((log_words_of (set ended 1 1) (2 ^ 64 - 1)).number, 10)
    ∷ ((log_words_of (late (2 ^ 64 - 1)) 1).number, 6)
    ∷ ((log_words_of (set (late (2 ^ 64 - 1)) 15 1) 1).number, 7)
    ∷ ((log_words_of (shorter opened) 0).number, 7)
    ∷ ((log_words_of opened 0).number, 0)
    ∷ ((log_words_of opened (2 ^ 64 - 1)).number, 0)
    ∷ ((log_words_of (late (2 ^ 64 - 1)) 0).number, 0)
    ∷ ((log_words_of (late (2 ^ 64 - 2)) 1).number, 0)
    ∷ ((log_words_of (late (2 ^ 64 - 2)) 2).number, 6)
    ∷ []

-- M-109: "3, 0: L over 64"
abbrev words_rows : List Row
words_rows = ((area_words_of 64).number, 0) ∷ ((area_words_of 65).number, 3) ∷ ((area_words_of (2 ^ 64 - 1)).number, 3) ∷ []

abbrev pub rows : List Row
rows = open_rows ++ (feed_rows ++ (end_rows ++ (preview_rows ++ (close_rows ++ (write_rows ++ (read_rows ++ (whole_rows ++ (rounds_rows ++ (told_rows ++ words_rows)))))))))

abbrev answered : List ℕ
answered = map (λ (w : Row). w.0) rows

abbrev expected : List ℕ
expected = map (λ (w : Row). w.1) rows

computed : same answered expected ≡ true
unfolding numbers key_words output no_chain compressed grown params_of levels_of with_levels empty_level empty_levels sound with_bit out_words receive feed_bit feed_bits last_above last_nodes open_number opened_area open_of fed_bits feed_number fed_area feed_of last_nodes_of end_number ended_area digest_out end_of preview_number preview_of close_number close_of log_words_number log_words_of area_words_of hex_digits text_with spelt_words spelt_head spelt_area write_number write_of readable_with readable read_area read_number read_of hash_number hash_of default_rounds_of mathlib.Core.List.flatten
computed = refl

pub rows-hold : map (λ (w : Row). w.0) rows ≡ map (λ (w : Row). w.1) rows
rows-hold = same_eq answered expected computed
