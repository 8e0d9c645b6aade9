-- Definitions: the stream's area. Document 01, "The stream's area", and document 02, M-109: how many words it has, where each stands,
-- what a level holds, and soundness. An area is a list of words.
use Rattle.std.specs.Prelude.{Bool, true, false, not, ◌||◌, ◌&&◌, ℕ, zero, suc, ◌+◌, ◌-◌, ◌*◌, ◌/◌, ◌%◌, ◌≤◌, min, eqb, ltb, length, take, drop, get_or, replicate}
use mathlib.Core.List.{List, [], ◌∷◌, ◌++◌, flatten}
use Rattle.bits.specs.Bits.{bits_of, numbers}
use Rattle.tree.specs.Tree.{Params, block_bits, sequential_bits, output_bits, most_levels}
use Rattle.tree.specs.Sizes.{tree_nodes}
use Rattle.refusals.specs.Refusals.{first_refusal, param_tests}

-- the words before the levels, and the words of a level
abbrev pub head_words : ℕ
head_words = 16

abbrev pub block_words : ℕ
block_words = 64

-- M-109: "The area is now 16 words plus 64 times the smaller of L + 1 and 27": the levels of an area, and its words, by L
abbrev pub area_levels : ℕ → ℕ
area_levels limit = min (limit + 1) most_levels

abbrev pub area_words : ℕ → ℕ
area_words limit = head_words + block_words * area_levels limit

-- ---- the layout

-- "Word 0: 1 open, 2 ended. Word 1: total bits. Words 2 to 5: key bytes, d, L, r. Words 6 to 13: K.
-- Word 14: compressions done. Word 15: 0."
abbrev pub phase_of : List ℕ → ℕ
phase_of area = get_or area 0 0

abbrev pub total_of : List ℕ → ℕ
total_of area = get_or area 1 0

abbrev pub key_bytes_of : List ℕ → ℕ
key_bytes_of area = get_or area 2 0

abbrev pub k_of : List ℕ → List ℕ
k_of area = take 8 (drop 6 area)

abbrev pub compressions_of : List ℕ → ℕ
compressions_of area = get_or area 14 0

-- the parameters that an area stands for; the key's bytes are the first of K
unfoldable pub params_of : List ℕ → Params
params_of area = record {
  key = numbers 8 (key_bytes_of area) (bits_of 64 (k_of area));
  d = get_or area 3 0;
  limit = get_or area 4 0;
  rounds = get_or area 5 0;
}

-- "Soundness, every call on an area and the untouched tail go by this length": the levels and the words that an area's own L, its
-- word 4, gives
abbrev pub own_levels : List ℕ → ℕ
own_levels area = area_levels (params_of area).limit

abbrev pub own_words : List ℕ → ℕ
own_words area = area_words (params_of area).limit

-- an area that is not short. One with no word 4 is: its L counts as 0, which asks for 80 words
abbrev pub Long : List ℕ → Type 0
Long area = own_words area ≤ length area

-- "Level k has 64 words from 16 + 64(k - 1)"
abbrev pub level_start : ℕ → ℕ
level_start k = head_words + block_words * (k - 1)

abbrev pub level_words : List ℕ → ℕ → List ℕ
level_words area k = take block_words (drop (level_start k) area)

-- n levels from level k on, all from level k on, and all
abbrev pub levels_from : List ℕ → ℕ → ℕ → List (List ℕ)
levels_from area zero k = []
levels_from area (suc n) k = level_words area k ∷ levels_from area n (suc k)

abbrev pub levels_up : List ℕ → ℕ → List (List ℕ)
levels_up area k = levels_from area (own_levels area + 1 - k) k

unfoldable pub levels_of : List ℕ → List (List ℕ)
levels_of area = levels_from area (own_levels area) 1

-- an area with other levels; the words past its own are "the untouched tail"
unfoldable pub with_levels : List ℕ → List (List ℕ) → List ℕ
with_levels area levels = take head_words area ++ (flatten levels ++ drop (own_words area) area)

unfoldable pub empty_level : List ℕ
empty_level = replicate block_words 0

unfoldable pub empty_levels : ℕ → List (List ℕ)
empty_levels n = replicate n empty_level

-- ---- what each level holds

-- "A block is compressed as soon as it is full and a later message bit has come": how many blocks of a size are compressed
-- when T bits came to level 1, and how many bits it then holds; "So level 1 holds 1 to 4,096 bits once the total is above 0"
abbrev pub done_blocks : ℕ → ℕ → ℕ
done_blocks size T = (T - 1) / size

abbrev pub held_bits : ℕ → ℕ → ℕ
held_bits size T = T - size * done_blocks size T

-- what a level holds: at a sequential level its first 1,024 bits are for its last output, if it has one; then come the bits held
pub record Hold : Type 0 where
  pub reserved : ℕ
  pub output : Bool
  pub bits : ℕ

abbrev pub parallel_hold : ℕ → Hold
parallel_hold bits = record { reserved = 0; output = false; bits = bits }

-- "At a sequential level, L = 0 included, the first 16 words are its last output, zero before there is one, and what is held
-- follows them": after c compressions of that level
abbrev pub sequential_hold : ℕ → ℕ → Hold
sequential_hold c bits = record { reserved = output_bits; output = ltb 0 c; bits = bits }

-- "a higher level holds 0 to 3 outputs (0 to 2 if sequential)": of i outputs that came to it
abbrev pub held_parallel : ℕ → ℕ
held_parallel i = i % 4

abbrev pub held_sequential : ℕ → ℕ
held_sequential i = i % 3

-- k levels from one up to which i outputs came; n of them may be parallel, and the one above those is sequential. The levels of an
-- area end with that one, and any that were asked for above it would hold nothing
abbrev pub holds_above : ℕ → ℕ → ℕ → List Hold
holds_above zero n i = []
holds_above (suc k) zero i = sequential_hold (i / 3) (output_bits * held_sequential i) ∷ replicate k (parallel_hold 0)
holds_above (suc k) (suc n) i = parallel_hold (output_bits * held_parallel i) ∷ holds_above k n (i / 4)

-- the k levels of an open area, for a limit and a total
abbrev pub open_holds : ℕ → ℕ → ℕ → List Hold
open_holds zero limit T = []
open_holds (suc k) zero T = sequential_hold (done_blocks sequential_bits T) (held_bits sequential_bits T) ∷ replicate k (parallel_hold 0)
open_holds (suc k) (suc n) T = parallel_hold (held_bits block_bits T) ∷ holds_above k n (done_blocks block_bits T)

-- and of an ended one: "Ended areas hold nothing in any level and keep no sequential output"
abbrev pub holds_for : ℕ → ℕ → ℕ → ℕ → List Hold
holds_for k phase limit T = elim (eqb phase 2) [ true ↦ replicate k (parallel_hold 0) | false ↦ open_holds k limit T ]

-- ---- how many nodes were made

-- the compressions of an open area from a level up, when i outputs came to that level; n levels from it up may be parallel,
-- and the one above those is sequential
abbrev pub open_above : ℕ → ℕ → ℕ
open_above zero i = i / 3
open_above (suc n) i = i / 4 + open_above n (i / 4)

abbrev pub open_count : ℕ → ℕ → ℕ
open_count zero T = done_blocks sequential_bits T
open_count (suc n) T = done_blocks block_bits T + open_above n (done_blocks block_bits T)

-- "the count that total, L and phase give"
abbrev pub count_for : ℕ → ℕ → ℕ → ℕ
count_for phase limit T = elim (eqb phase 2) [ true ↦ tree_nodes limit T | false ↦ open_count limit T ]

-- ---- soundness

abbrev pub all_false : List Bool → Bool
all_false [] = true
all_false (b ∷ bs) = not b && all_false bs

-- "and so is every bit of a level that is neither held nor of a sequential output"
abbrev pub clean : Hold → List ℕ → Bool
clean h ws = (h.output || all_false (take h.reserved (bits_of 64 ws))) && all_false (drop (h.reserved + h.bits) (bits_of 64 ws))

abbrev pub clean_all : List Hold → List (List ℕ) → Bool
clean_all [] levels = true
clean_all (h ∷ hs) [] = true
clean_all (h ∷ hs) (ws ∷ levels) = clean h ws && clean_all hs levels

abbrev pub sound_levels : List ℕ → Bool
sound_levels area = clean_all (holds_for (own_levels area) (phase_of area) (params_of area).limit (total_of area)) (levels_of area)

-- "word 0 is 1 or 2"
abbrev pub sound_phase : List ℕ → Bool
sound_phase area = eqb (phase_of area) 1 || eqb (phase_of area) 2

-- "its parameters are in range"
abbrev pub sound_params : List ℕ → Bool
sound_params area = eqb (first_refusal (param_tests (params_of area))) 0

-- "unused key bytes are zero"
abbrev pub sound_key : List ℕ → Bool
sound_key area = all_false (drop (8 * key_bytes_of area) (bits_of 64 (k_of area)))

-- "word 14 is the count that total, L and phase give"
abbrev pub sound_count : List ℕ → Bool
sound_count area = eqb (compressions_of area) (count_for (phase_of area) (params_of area).limit (total_of area))

-- "word 15 is 0"
abbrev pub sound_last : List ℕ → Bool
sound_last area = eqb (get_or area 15 0) 0

unfoldable pub sound : List ℕ → Bool
sound area = sound_phase area && (sound_params area && (sound_key area && (sound_count area && (sound_last area && sound_levels area))))
