-- Examples: the rows of document 01, "Reels by hand", fed to a stream: by computing, the log and the digest are the tree's; log words
-- told, document 02, M-103; the words of an area, its tail and the levels that it shows, M-109.
-- "r = 0 gives C = the last 16 words of B. Message all ones."
use Rattle.std.specs.Prelude.{◌≡◌, refl, Bool, true, ℕ, zero, suc, ◌+◌, ◌-◌, ◌*◌, ◌/◌, ◌^◌, take, drop, set, replicate}
use Rattle.std.proofs.Common.{sym, ◌∙◌}
use mathlib.Core.List.{List, [], ◌∷◌, ◌++◌, map}
use Rattle.bits.specs.Bits.{numbers}
use Rattle.bits.specs.Piece.{Piece, piece_of}
use Rattle.compress.specs.Compress.{grown, compressed}
use Rattle.tree.specs.Tree.{Params, Mark, most_limit, key_words, output, no_chain, digest, order, digest_bytes, out_words, node_log}
use Rattle.refusals.specs.Refusals.{Told}
use Rattle.calls.specs.Area.{area_words, count_for, params_of, levels_of, with_levels, empty_level, empty_levels, sound}
use Rattle.calls.specs.Calls.{AreaLog, Finished, with_bit, receive, feed_bit, feed_bits, last_above, last_nodes, open_number, opened_area, open_of, fed_bits, feed_number, fed_area, feed_of, last_nodes_of, end_number, ended_area, digest_out, end_of, shown, level_of, log_words_number, log_words_of, area_words_of}

-- a row: the bit counts of the pieces, d and L; U and V of each node, and the digest
pub record Row : Type 0 where
  pub pieces : List ℕ
  pub d : ℕ
  pub limit : ℕ
  pub log : List ℕ
  pub digest : List ℕ

abbrev pub rows : List Row
rows =
    record { pieces = []; d = 8; limit = 64; log = 0x0100000000000000 ∷ 0x0000401100000008 ∷ []; digest = 0x00 ∷ [] }
    ∷ record { pieces = 4095 ∷ 1 ∷ []; d = 8; limit = 64; log = 0x0100000000000000 ∷ 0x0000401000000008 ∷ []; digest = 0xff ∷ [] }
    ∷ record { pieces = 3072 ∷ 1 ∷ []; d = 8; limit = 0; log = 0x0100000000000000 ∷ 0x0000000000000008 ∷ 0x0100000000000001 ∷ 0x00000010bff00008 ∷ []; digest = 0x00 ∷ [] }
    ∷ record { pieces = 5000 ∷ 0 ∷ 7289 ∷ []; d = 8; limit = 1; log = 0x0100000000000000 ∷ 0x0000010000000008 ∷ 0x0100000000000001 ∷ 0x0000010000000008 ∷ 0x0100000000000002 ∷ 0x0000010000000008 ∷ 0x0200000000000000 ∷ 0x0000010000000008 ∷ 0x0100000000000003 ∷ 0x00000100fff00008 ∷ 0x0200000000000001 ∷ 0x0000011080000008 ∷ []; digest = 0x00 ∷ [] }
    ∷ record { pieces = 16384 ∷ 1 ∷ []; d = 8; limit = 64; log = 0x0100000000000000 ∷ 0x0000400000000008 ∷ 0x0100000000000001 ∷ 0x0000400000000008 ∷ 0x0100000000000002 ∷ 0x0000400000000008 ∷ 0x0100000000000003 ∷ 0x0000400000000008 ∷ 0x0200000000000000 ∷ 0x0000400000000008 ∷ 0x0100000000000004 ∷ 0x00004000fff00008 ∷ 0x0200000000000001 ∷ 0x00004000c0000008 ∷ 0x0300000000000000 ∷ 0x0000401080000008 ∷ []; digest = 0x00 ∷ [] }
    ∷ []

abbrev pub params : Row → Params
params w = record { key = []; d = w.d; limit = w.limit; rounds = 0 }

-- ---- by the tree

abbrev sum : List ℕ → ℕ
sum [] = 0
sum (n ∷ ns) = n + sum ns

abbrev pub tree_row : Row → Row
tree_row w =
    let M : List Bool = replicate (sum w.pieces) true in
    record {
      pieces = w.pieces;
      d = w.d;
      limit = w.limit;
      log = node_log (map (λ (m : Mark). m.node) (order (params w) M));
      digest = digest (params w) M;
    }

-- ---- by the stream

-- what the calls left: the joined logs, each as far as its count says, and the digest; nothing if a call is refused
pub record Left : Type 0 where
  pub log : List ℕ
  pub digest : List ℕ

abbrev left_if : ℕ → Left → Left
left_if zero l = l
left_if (suc n) l = record { log = []; digest = [] }

-- a log and an output with room to spare, a piece of ones and an area with something in it
abbrev pub spare : List ℕ
spare = replicate 54 0

abbrev pub ones : ℕ → Piece
ones n = piece_of (replicate (n / 8 + 1) 255) 0 n

abbrev used : List ℕ
used = replicate (area_words most_limit + 1) 7

abbrev calls : List ℕ → ℕ → List ℕ → Left
calls area bytes [] =
    let e : Finished = end_of area spare spare in
    left_if e.number (record { log = take (2 * e.count) e.log; digest = take bytes e.digest })
calls area bytes (n ∷ ns) =
    let f : AreaLog = feed_of area (ones n) spare in
    let l : Left = calls f.area bytes ns in
    left_if f.number (record { log = take (2 * f.count) f.log ++ l.log; digest = l.digest })

abbrev pub stream_row : Row → Row
stream_row w =
    let l : Left = calls (open_of used (params w)).area (digest_bytes w.d) w.pieces in
    record { pieces = w.pieces; d = w.d; limit = w.limit; log = l.log; digest = l.digest }

tree-rows : map tree_row rows ≡ rows
unfolding numbers key_words output no_chain compressed grown mathlib.Core.List.flatten
tree-rows = refl

stream_rows : map stream_row rows ≡ rows
unfolding numbers key_words output compressed grown params_of levels_of with_levels empty_level empty_levels sound with_bit out_words receive feed_bit feed_bits last_above last_nodes open_number opened_area open_of fed_bits feed_number fed_area feed_of last_nodes_of end_number ended_area digest_out end_of mathlib.Core.List.flatten
stream_rows = refl

pub rows_agree : map stream_row rows ≡ map tree_row rows
rows_agree = stream_rows ∙ sym tree-rows

-- ---- word 14, open and ended, for a limit and a total

abbrev counts : ℕ × ℕ → ℕ × ℕ
counts q = (count_for 1 q.0 q.1, count_for 2 q.0 q.1)

pub counts-hold : map counts
    ((64, 0) ∷ (64, 4096) ∷ (64, 4097) ∷ (64, 16384) ∷ (64, 16385) ∷ (0, 3072) ∷ (0, 3073) ∷ (1, 12288) ∷ (1, 12289) ∷ (2, 16384)
    ∷ (64, 2 ^ 64 - 1) ∷ (26, 2 ^ 64 - 1) ∷ (1, 2 ^ 64 - 1) ∷ (0, 2 ^ 64 - 1) ∷ [])
    ≡ (0, 1) ∷ (0, 1) ∷ (1, 3) ∷ (3, 5) ∷ (5, 8) ∷ (0, 1) ∷ (1, 2) ∷ (2, 4) ∷ (4, 6) ∷ (3, 5)
    ∷ (6004799503160634, 6004799503160661) ∷ (6004799503160635, 6004799503160662) ∷ (6004799503160660, 6004799503160662)
    ∷ (6004799503160661, 6004799503160662) ∷ []
counts-hold = refl

-- ---- log words told: L, the total, word 14 and a bit count, and the words

-- an open area with no bits, in a slice that is longer than any L asks
abbrev open_in : ℕ → List ℕ
open_in limit = (open_of used record { key = []; d = 8; limit = limit; rounds = 0 }).area

-- an open area of that total, all zero bits
abbrev after : ℕ → ℕ → ℕ → List ℕ
after limit total done = set (set (open_in limit) 1 total) 14 done

abbrev told : ℕ × ℕ × ℕ × ℕ → Told
told q = log_words_of (after q.0 q.1 q.2) q.3

abbrev accepted : ℕ → Told
accepted n = record { number = 0; count = n }

pub told-hold : map told
    -- no bits; a bit that makes no node, as its block is not full; the bit behind a full block
    ((64, 0, 0, 0) ∷ (64, 4096, 0, 0) ∷ (64, 4095, 0, 1) ∷ (64, 4096, 0, 1)
    -- 4,097 bits to an open area with none; the bit behind four full blocks, which makes a node of level 2 too
    ∷ (64, 0, 0, 4097) ∷ (64, 16384, 3, 1)
    -- L = 0: blocks of 3,072 bits; L = 1: the bit behind three full blocks, whose outputs fill a sequential block
    ∷ (0, 3072, 0, 3073) ∷ (1, 12287, 2, 1) ∷ (1, 12288, 2, 1)
    -- one bit that makes 27 nodes, and 26 with a higher limit; the last bit that a stream can have
    ∷ (26, 3 * 2 ^ 62, 4503599627370469, 1) ∷ (27, 3 * 2 ^ 62, 4503599627370469, 1) ∷ (64, 2 ^ 64 - 2, 6004799503160634, 1) ∷ [])
    ≡ accepted 0 ∷ accepted 0 ∷ accepted 0 ∷ accepted 2 ∷ accepted 2 ∷ accepted 4 ∷ accepted 4 ∷ accepted 0 ∷ accepted 4 ∷ accepted 54 ∷ accepted 52 ∷ accepted 0 ∷ []
unfolding numbers key_words output compressed grown params_of levels_of with_levels empty_level empty_levels sound with_bit out_words receive feed_bit feed_bits open_number opened_area open_of fed_bits log_words_number log_words_of mathlib.Core.List.flatten
told-hold = refl

-- ---- M-109: "16 words plus 64 times the smaller of L + 1 and 27"

pub words-hold : map area_words_of (0 ∷ 1 ∷ 2 ∷ 25 ∷ 26 ∷ 27 ∷ 64 ∷ 65 ∷ (2 ^ 64 - 1) ∷ [])
    ≡ accepted 80 ∷ accepted 144 ∷ accepted 208 ∷ accepted 1680 ∷ accepted 1744 ∷ accepted 1744 ∷ accepted 1744
    ∷ record { number = 3; count = 0 } ∷ record { number = 3; count = 0 } ∷ []
unfolding area_words_of
words-hold = refl

-- opened with L = 0 in a longer slice: the words from 80 on stay, level 1 shows 64 zeros, and level 2 the empty part; opened with
-- L = 1 level 2 shows, and level 3 does not
abbrev shown_in : ℕ → ℕ → List ℕ
shown_in limit level = level_of (open_in limit) level

pub tail-holds : (drop 80 (open_in 0) ≡ replicate 1665 7)
    × (shown_in 0 1 ≡ replicate 64 0) × (shown_in 0 2 ≡ []) × (shown_in 1 2 ≡ replicate 64 0) × (shown_in 1 3 ≡ []) × (shown_in 64 27 ≡ replicate 64 0)
    × (shown_in 64 0 ≡ []) × (shown_in 64 28 ≡ [])
unfolding numbers key_words params_of levels_of empty_level empty_levels sound open_number opened_area open_of shown level_of mathlib.Core.List.flatten
tail-holds = (refl, refl, refl, refl, refl, refl, refl, refl)

-- an area that is short, an unsound one, and one whose word 4 is 65 show nothing
pub none_shown : (level_of (take 79 (open_in 0)) 1 ≡ []) × (level_of used 1 ≡ [])
    × (level_of (set (open_in 64) 4 65) 1 ≡ [])
unfolding numbers key_words params_of levels_of empty_level empty_levels sound open_number opened_area open_of shown level_of mathlib.Core.List.flatten
none_shown = (refl, refl, refl)

-- a feed and an end in such a slice leave its words from 80 on, too
pub tail-kept : (drop 80 (feed_of (open_in 0) (ones 9) []).area ≡ replicate 1665 7) × (drop 80 (end_of (open_in 0) spare spare).area ≡ replicate 1665 7)
unfolding numbers key_words output compressed grown params_of levels_of with_levels empty_level empty_levels sound with_bit out_words receive feed_bit feed_bits last_above last_nodes open_number opened_area open_of fed_bits feed_number fed_area feed_of last_nodes_of end_number ended_area digest_out end_of mathlib.Core.List.flatten
tail-kept = (refl, refl)
