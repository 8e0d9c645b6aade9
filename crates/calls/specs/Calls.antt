-- Definitions: what each call on an area answers: number, count and all that was lent, on exit. Document 01, "The stream's area" and the
-- table of numbers; document 02, M-103, M-104, M-106 and M-109.
use Rattle.std.specs.Prelude.{Bool, true, false, not, ◌&&◌, ℕ, zero, suc, ◌+◌, ◌-◌, ◌*◌, ◌/◌, ◌%◌, ◌^◌, eqb, leb, ltb, length, drop, get_or, set, replicate}
use mathlib.Core.List.{List, [], ◌∷◌, ◌++◌, flatten}
use Rattle.lists.specs.Part.{put}
use Rattle.lists.specs.Same.{same}
use Rattle.bits.specs.Bits.{bits, spell}
use Rattle.bits.specs.Piece.{Piece, piece_bits, bits_test}
use Rattle.tree.specs.Tree.{Params, Node, block_bits, sequential_bits, output_bits, key_words, node, last_or, no_node, digest_bytes, root_digest, output_words, out_words, logged}
use Rattle.refusals.specs.Refusals.{first_refusal, answer_of, Told, told_for, param_tests, output_test, log_test}
use Rattle.calls.specs.Area.{block_words, area_levels, area_words, own_levels, own_words, phase_of, total_of, compressions_of, params_of, level_words, levels_of, with_levels, empty_level, empty_levels, done_blocks, held_bits, held_parallel, held_sequential, sound}

-- ---- one bit more

-- what a step makes: the levels after it, and the nodes, in order
pub record Made : Type 0 where
  pub levels : List (List ℕ)
  pub nodes : List Node

-- words with bit h set to b: bits go into words high bit first
unfoldable pub with_bit : ℕ → Bool → List ℕ → List ℕ
with_bit h b ws = set ws (h / 64) (spell 0 (set (bits 64 (get_or ws (h / 64) 0)) (h % 64) b))

-- a sequential level after its node m: "the first 16 words are its last output .. and what is held follows them"
abbrev pub chained : Params → Node → List ℕ
chained P m = out_words P m ++ replicate (block_words - output_words) 0

-- an output joined to the outputs that a level holds: "What is held is joined from the level's first word", or follows the
-- sequential output
abbrev pub join_parallel : ℕ → List ℕ → List ℕ → List ℕ
join_parallel i out ws = put (output_words * held_parallel i) output_words ws out

abbrev pub join_sequential : ℕ → List ℕ → List ℕ → List ℕ
join_sequential i out ws = put (output_words + output_words * held_sequential i) output_words ws out

-- output i comes to a level, which then is compressed if its block is full: a later message bit has come;
-- n levels from this one up may be parallel, and the one above those is sequential
unfoldable pub receive : Params → ℕ → ℕ → ℕ → List ℕ → List (List ℕ) → Made
receive P n level i out [] = record { levels = []; nodes = [] }
receive P zero level i out (ws ∷ up) =
    let block : List ℕ = join_sequential i out ws in
    elim (eqb (held_sequential i) 2) [
      | true ↦ let m : Node = node P level (i / 3) 0 0 block in record { levels = chained P m ∷ up; nodes = m ∷ [] }
      | false ↦ record { levels = block ∷ up; nodes = [] }
    ]
receive P (suc n) level i out (ws ∷ up) =
    let block : List ℕ = join_parallel i out ws in
    elim (eqb (held_parallel i) 3) [
      | true ↦ let m : Node = node P level (i / 4) 0 0 block in
          let above : Made = receive P n (suc level) (i / 4) (out_words P m) up in
          record { levels = empty_level ∷ above.levels; nodes = m ∷ above.nodes }
      | false ↦ record { levels = block ∷ up; nodes = [] }
    ]

-- "A block is compressed as soon as it is full and a later message bit has come": bit b comes after T bits;
-- the first number is the limit
unfoldable pub feed_bit : Params → ℕ → ℕ → Bool → List (List ℕ) → Made
feed_bit P limit T b [] = record { levels = []; nodes = [] }
feed_bit P zero T b (ws ∷ up) =
    let held : ℕ = held_bits sequential_bits T in
    elim (eqb held sequential_bits) [
      | true ↦ let m : Node = node P 1 (done_blocks sequential_bits T) 0 0 ws in
          record { levels = with_bit output_bits b (chained P m) ∷ up; nodes = m ∷ [] }
      | false ↦ record { levels = with_bit (output_bits + held) b ws ∷ up; nodes = [] }
    ]
feed_bit P (suc n) T b (ws ∷ up) =
    let held : ℕ = held_bits block_bits T in
    elim (eqb held block_bits) [
      | true ↦ let m : Node = node P 1 (done_blocks block_bits T) 0 0 ws in
          let above : Made = receive P n 2 (done_blocks block_bits T) (out_words P m) up in
          record { levels = with_bit 0 b empty_level ∷ above.levels; nodes = m ∷ above.nodes }
      | false ↦ record { levels = with_bit held b ws ∷ up; nodes = [] }
    ]

-- one bit after the other
unfoldable pub feed_bits : Params → ℕ → List Bool → List (List ℕ) → Made
feed_bits P T [] levels = record { levels = levels; nodes = [] }
feed_bits P T (b ∷ bs) levels =
    let one : Made = feed_bit P P.limit T b levels in
    let more : Made = feed_bits P (suc T) bs one.levels in
    record { levels = more.levels; nodes = one.nodes ++ more.nodes }

-- ---- the end

-- the last output, i, comes to a level: the level is compressed, and it is the root if it has one node only or is sequential
unfoldable pub last_above : Params → ℕ → ℕ → ℕ → List ℕ → List (List ℕ) → List Node
last_above P n level i out [] = []
last_above P zero level i out (ws ∷ up) = node P level (i / 3) 1 (output_bits * (2 - held_sequential i)) (join_sequential i out ws) ∷ []
last_above P (suc n) level i out (ws ∷ up) =
    let block : List ℕ = join_parallel i out ws in
    let padding : ℕ = output_bits * (3 - held_parallel i) in
    elim (eqb (i / 4) 0) [
      | true ↦ node P level 0 1 padding block ∷ []
      | false ↦ let m : Node = node P level (i / 4) 0 padding block in m ∷ last_above P n (suc level) (i / 4) (out_words P m) up
    ]

-- the nodes that the end makes after T bits, the root last; the first number is the limit; it changes no level
unfoldable pub last_nodes : Params → ℕ → ℕ → List (List ℕ) → List Node
last_nodes P limit T [] = []
last_nodes P zero T (ws ∷ up) = node P 1 (done_blocks sequential_bits T) 1 (sequential_bits - held_bits sequential_bits T) ws ∷ []
last_nodes P (suc n) T (ws ∷ up) =
    let padding : ℕ = block_bits - held_bits block_bits T in
    elim (eqb (done_blocks block_bits T) 0) [
      | true ↦ node P 1 0 1 padding ws ∷ []
      | false ↦ let m : Node = node P 1 (done_blocks block_bits T) 0 padding ws in
          m ∷ last_above P n 2 (done_blocks block_bits T) (out_words P m) up
    ]

-- ---- tests

-- "7, 0: area short or (except for open and read) unsound": fewer words than a limit asks, which is that of the arguments for open,
-- of the text for read, and of word 4 for all others
abbrev pub short_test : List ℕ → ℕ → Bool × ℕ
short_test area limit = (ltb (length area) (area_words limit), 7)

abbrev pub area_tests : List ℕ → List (Bool × ℕ)
area_tests area = short_test area (params_of area).limit ∷ (not (sound area), 7) ∷ []

-- "10, 0: area has ended": an area that passes is long enough, sound and open
abbrev pub open_tests : List ℕ → List (Bool × ℕ)
open_tests area = area_tests area ++ ((eqb (phase_of area) 2, 10) ∷ [])

-- "6, 0: total would pass 2^64 - 1"
abbrev pub total_test : ℕ → ℕ → Bool × ℕ
total_test total n = (ltb (2 ^ 64 - 1) (total + n), 6)

-- ---- open (key, d, L, r)

pub record Opened : Type 0 where
  pub number : ℕ
  pub count : ℕ
  pub area : List ℕ

-- M-109: "Open tests 1, 2, 3, 4 and then 7"
unfoldable pub open_number : List ℕ → Params → ℕ
open_number area P = first_refusal (param_tests P ++ (short_test area P.limit ∷ []))

-- an open area with no bits, whatever it held
unfoldable pub opened_area : List ℕ → Params → List ℕ
opened_area area P =
    1 ∷ 0 ∷ length P.key ∷ P.d ∷ P.limit ∷ P.rounds
    ∷ (key_words P.key ++ (0 ∷ 0 ∷ (flatten (empty_levels (area_levels P.limit)) ++ drop (area_words P.limit) area)))

unfoldable pub open_of : List ℕ → Params → Opened
open_of area P =
    answer_of (open_number area P)
    record { number = 0; count = 0; area = opened_area area P }
    (λ k. record { number = k; count = 0; area = area })

-- ---- feed (piece bytes, start bit, bit count)

-- what a feed and a close answer: number and count, and the area and the log on exit
pub record AreaLog : Type 0 where
  pub number : ℕ
  pub count : ℕ
  pub area : List ℕ
  pub log : List ℕ

-- what the bits make of an area's levels
unfoldable pub fed_bits : List ℕ → List Bool → Made
fed_bits area bs = feed_bits (params_of area) (total_of area) bs (levels_of area)

-- "Feed 7, 10, 5, 6, 8": after the tests of the area, those of a feed of a piece that comes after so many bits and makes so many nodes
abbrev pub feed_tests : ℕ → ℕ → Piece → List ℕ → List (Bool × ℕ)
feed_tests total nodes piece log = bits_test piece ∷ total_test total piece.count ∷ log_test nodes log ∷ []

unfoldable pub feed_number : List ℕ → Piece → List ℕ → ℕ
feed_number area piece log =
    first_refusal (open_tests area ++ feed_tests (total_of area) (length (fed_bits area (piece_bits piece)).nodes) piece log)

-- the total and the compressions go on, and the levels are what the bits made of them
unfoldable pub fed_area : List ℕ → ℕ → Made → List ℕ
fed_area area n made = with_levels (set (set area 1 (total_of area + n)) 14 (compressions_of area + length made.nodes)) made.levels

unfoldable pub feed_of : List ℕ → Piece → List ℕ → AreaLog
feed_of area piece log =
    let made : Made = fed_bits area (piece_bits piece) in
    answer_of (feed_number area piece log)
    record { number = 0; count = length made.nodes; area = fed_area area piece.count made; log = logged made.nodes log }
    (λ k. record { number = k; count = 0; area = area; log = log })

-- ---- end (digest out)

pub record Finished : Type 0 where
  pub number : ℕ
  pub count : ℕ
  pub area : List ℕ
  pub digest : List ℕ
  pub log : List ℕ

-- the nodes that an end makes of an area, which it does not change
unfoldable pub last_nodes_of : List ℕ → List Node
last_nodes_of area = last_nodes (params_of area) (params_of area).limit (total_of area) (levels_of area)

-- "End 7, 10, 9, 8": after the tests of the area, those of an end with that digest size that makes so many nodes
abbrev pub end_tests : ℕ → ℕ → List ℕ → List ℕ → List (Bool × ℕ)
end_tests d nodes out log = output_test (digest_bytes d) out ∷ log_test nodes log ∷ []

unfoldable pub end_number : List ℕ → List ℕ → List ℕ → ℕ
end_number area out log = first_refusal (open_tests area ++ end_tests (params_of area).d (length (last_nodes_of area)) out log)

-- "end changes words 0, 14 and the levels, no others"
unfoldable pub ended_area : List ℕ → List Node → List ℕ
ended_area area nodes = with_levels (set (set area 0 2) 14 (compressions_of area + length nodes)) (empty_levels (own_levels area))

-- the digest of an area whose end makes these nodes, the root last
abbrev pub nodes_digest : List ℕ → List Node → List ℕ
nodes_digest area nodes = root_digest (params_of area) (last_or no_node nodes)

-- "Output bytes past the digest or text stay."
unfoldable pub digest_out : List ℕ → List Node → List ℕ → List ℕ
digest_out area nodes out = nodes_digest area nodes ++ drop (digest_bytes (params_of area).d) out

unfoldable pub end_of : List ℕ → List ℕ → List ℕ → Finished
end_of area out log =
    let nodes : List Node = last_nodes_of area in
    answer_of (end_number area out log)
    record { number = 0; count = length nodes; area = ended_area area nodes; digest = digest_out area nodes out; log = logged nodes log }
    (λ k. record { number = k; count = 0; area = area; digest = out; log = log })

-- ---- preview (digest out)

pub record Previewed : Type 0 where
  pub number : ℕ
  pub count : ℕ
  pub digest : List ℕ

-- document 02, M-106: "it refuses 7, 10, 9"
unfoldable pub preview_number : List ℕ → List ℕ → ℕ
preview_number area out = first_refusal (open_tests area ++ (output_test (digest_bytes (params_of area).d) out ∷ []))

-- "A preview writes the digest that end would and leaves the area unchanged, open as it was; it .. has count 0 and writes no log":
-- the area is lent to it only to be read, and a log is not lent
unfoldable pub preview_of : List ℕ → List ℕ → Previewed
preview_of area out =
    answer_of (preview_number area out)
    record { number = 0; count = 0; digest = digest_out area (last_nodes_of area) out }
    (λ k. record { number = k; count = 0; digest = out })

-- ---- close (a figure, the digest that is given)

-- M-106: "14, the figure differs": it is not "byte for byte, length included, the one a preview would write"
abbrev pub figure_test : List ℕ → List ℕ → Bool × ℕ
figure_test digest figure = (not (same digest figure), 14)

-- "last in the order 7, 10, 8, 14 for closing": after the tests of the area, those of a close that makes so many nodes, for an area
-- with that digest
abbrev pub close_tests : ℕ → List ℕ → List ℕ → List ℕ → List (Bool × ℕ)
close_tests nodes digest figure log = log_test nodes log ∷ figure_test digest figure ∷ []

unfoldable pub close_number : List ℕ → List ℕ → List ℕ → ℕ
close_number area figure log =
    let nodes : List Node = last_nodes_of area in
    first_refusal (open_tests area ++ close_tests (length nodes) (nodes_digest area nodes) figure log)

-- "Closing is given a digest and ends the area, with log and count as end does, only if it is .. the one a preview would write"
unfoldable pub close_of : List ℕ → List ℕ → List ℕ → AreaLog
close_of area figure log =
    let nodes : List Node = last_nodes_of area in
    answer_of (close_number area figure log)
    record { number = 0; count = length nodes; area = ended_area area nodes; log = logged nodes log }
    (λ k. record { number = k; count = 0; area = area; log = log })

-- ---- show a level

-- "gives back that level's part of the caller's area, or an empty part if the area is short or unsound or the level outside
-- 1 to 27"; M-109: "Showing a level that the area lacks gives the empty part."
unfoldable pub shown : List ℕ → ℕ → Bool
shown area level = leb (own_words area) (length area) && (sound area && (leb 1 level && leb level (own_levels area)))

unfoldable pub level_of : List ℕ → ℕ → List ℕ
level_of area level = elim (shown area level) [ true ↦ level_words area level | false ↦ [] ]

-- ---- log words (area, bit count)

-- document 02, M-103: "It refuses 7, 10 and 6 in that order."
unfoldable pub log_words_number : List ℕ → ℕ → ℕ
log_words_number area n = first_refusal (open_tests area ++ (total_test (total_of area) n ∷ []))

-- "It is now told from the area and the bit count, and is exactly two words for each node that the feed would make": that a feed
-- of n zero bits would make, and any n bits make as many (`any_bits` in LogWords)
unfoldable pub log_words_of : List ℕ → ℕ → Told
log_words_of area n =
    answer_of (log_words_number area n)
    record { number = 0; count = 2 * length (fed_bits area (replicate n false)).nodes }
    (λ k. record { number = k; count = 0 })

-- ---- area words (L)

-- M-109: the words of an area for an L; "3, 0: L over 64"
unfoldable pub area_words_of : ℕ → Told
area_words_of limit = told_for limit (area_words limit)
