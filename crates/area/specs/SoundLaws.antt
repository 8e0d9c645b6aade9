-- Laws: of soundness in Area, as the code tests it: level by level, and then the words before the levels.
use Rattle.std.specs.Prelude.{◌≡◌, refl, Bool, true, false, not, ◌&&◌, Result, Ok, Err, List, ℕ, zero, suc, ◌+◌, ◌-◌, ◌*◌, ◌/◌, ◌%◌, ◌≤◌, ◌<◌, eqb, length, take, drop, get_or}
use Rattle.std.proofs.Common.{sym, ap, ◌∙◌, arith, ltb-false, eq-eqb, ne_eqb, eqb-true}
use Rattle.std.specs.Result.{is_err}
use Rattle.std.proofs.Math.Bool.{and_assoc}
use Rattle.std.proofs.lemmas.Bool.{not-false}
use Rattle.lists.specs.And.{and_first, and_second}
use Rattle.bits.specs.Bits.{bits_of}
use Rattle.bits.specs.BitsLaws.{bits_of-take}
use Rattle.tree.specs.Tree.{block_bits, sequential_bits, output_bits, output_words}
use Rattle.refusals.specs.declared.Params as refusals
use Rattle.refusals.specs.declared.Refusal.{Refusal}
use Rattle.refusals.specs.Refusals.{first_refusal, range_tests, param_tests, told_number}
use Rattle.refusals.specs.RefusalLaws.{passed, number_not0, InRange, in_range}
use Rattle.calls.proofs.Moved.{length-key}
use Rattle.calls.specs.Area.{Hold, phase_of, head_words, clean_all, all_false, level_words, levels_of, done_blocks, held_bits, params_of, count_for, open_count, sound_phase, sound_params, sound_key, sound_count, sound_last, sound_levels, sound, own_levels, Long, block_words, level_start, levels_up}
use Rattle.calls.specs.Calls.{area_tests}
use Rattle.calls.proofs.SoundParts.{empty_from, all_empty, clean-empty, empty-levels}
use Rattle.area.specs.declared.Phase.{Phase}
use Rattle.area.specs.declared.Phase.TheVariants as phase
use Rattle.area.specs.Phase.{phase_word}
use Rattle.area.specs.LevelTests.{clean_open, holds-ended, holds_open, sound_sequential, sound_above, sound_open}
use Rattle.calls.proofs.AreaLaws.{levels_split, levels_up-cons, levels_up_none}

-- an area that is long enough and sound
pub record LongSound (area : List ℕ) : Type 0 where
  pub long : Long area
  pub is_sound : sound area ≡ true

-- it is one that number 7 does not refuse
pub sound-passed : {n : ℕ} (area : List ℕ) → n ≡ first_refusal (area_tests area) → n ≡ 0 → LongSound area
sound-passed area e z =
    let p = passed (area_tests area) refl (sym e ∙ z) in
    record { long = ltb-false _ _ (p 0); is_sound = not-false _ (p 1) }

-- ---- levels

-- a part of an area that is a level's
pub record LevelPart (area : List ℕ) (k : ℕ) (part : List ℕ) : Type 0 where
  pub words : part ≡ level_words area k
  pub size : length part ≡ block_words

-- the part that the code lends is the level's
pub lent_level : (area : List ℕ) (k : ℕ) → take ((level_start k + block_words) - level_start k) (drop (level_start k) area) ≡ level_words area k
lent_level area k = let e : (level_start k + block_words) - level_start k ≡ block_words = omega arith in rw e

pub empty-all : (area : List ℕ) → all_empty (levels_of area) ≡ empty_from 0 (take (block_words * own_levels area) (drop head_words area))
unfolding levels_of
empty-all area = empty-levels area (own_levels area) 1 (omega arith)

-- the output in front of a sequential level
chain-empty : (ws : List ℕ) → all_false (take output_bits (bits_of 64 ws)) ≡ empty_from 0 (take output_words ws)
chain-empty ws = ap all_false (bits_of-take 64 output_words ws)

pub sequential-kept : (c held : ℕ) (ws : List ℕ) → (c ≡ 0 → ⊥) → sound_sequential c held ws ≡ empty_from (output_bits + held) ws
sequential-kept c held ws h = rw (ne_eqb c 0 h)

pub sequential_none : (c held : ℕ) (ws : List ℕ) → c ≡ 0
    → sound_sequential c held ws ≡ (empty_from 0 (take output_words ws) && empty_from (output_bits + held) ws)
sequential_none c held ws h = rw (eq-eqb c 0 h, chain-empty ws)

and-true : (b : Bool) → (b && true) ≡ b
and-true true = refl
and-true false = refl

-- all levels of an open area: level 1, and those above it, of which there are none if level 1 is sequential
pub open_none : (area : List ℕ) (limit T : ℕ) → limit ≡ (params_of area).limit → limit < 1
    → sound_open limit T (levels_of area) ≡ sound_sequential (done_blocks sequential_bits T) (held_bits sequential_bits T) (level_words area 1)
open_none area zero T e h = rw (levels_split area, levels_up_none area 2 (omega arith)) (and-true _)
open_none area (suc n) T e h = absurd (omega arith)

pub open_more : (area : List ℕ) (limit T : ℕ) → 1 ≤ limit
    → sound_open limit T (levels_of area) ≡ (empty_from (held_bits block_bits T) (level_words area 1) && sound_above (limit - 1) (done_blocks block_bits T) (levels_up area 2))
open_more area zero T h = absurd (omega arith)
open_more area (suc n) T h = let f : suc n - 1 ≡ n = omega arith in rw (levels_split area, f)

-- the levels of an area, one after the other
pub above_more : (area : List ℕ) (n i k : ℕ) → 1 ≤ n → k ≤ own_levels area
    → sound_above n i (levels_up area k) ≡ (empty_from (output_bits * (i % 4)) (level_words area k) && sound_above (n - 1) (i / 4) (levels_up area (k + 1)))
above_more area zero i k h g = absurd (omega arith)
above_more area (suc n) i k h g = let f : suc n - 1 ≡ n = omega arith in rw (levels_up-cons area k g, f)

-- the sequential level is the last
pub above-last : (area : List ℕ) (n i k : ℕ) → n < 1 → k ≡ own_levels area
    → sound_above n i (levels_up area k) ≡ sound_sequential (i / 3) (output_bits * (i % 3)) (level_words area k)
above-last area zero i k h g = rw (levels_up-cons area k (omega arith), levels_up_none area (k + 1) (omega arith)) (and-true _)
above-last area (suc n) i k h g = absurd (omega arith)

pub above_none : (area : List ℕ) (n i k : ℕ) → own_levels area < k → sound_above n i (levels_up area k) ≡ true
above_none area n i k h = rw (levels_up_none area k h) refl

-- ---- the words before the levels

-- the tests of the parameters, by the words that hold their numbers
pub refused-words : (area : List ℕ)
    → first_refusal (param_tests (params_of area)) ≡ first_refusal (range_tests (get_or area 2 0) (get_or area 3 0) (get_or area 4 0) (get_or area 5 0))
unfolding params_of
refused-words area = rw (length-key area)

-- and what a check of them tells
pub params_told : {A : Type 0} (area : List ℕ) (given : refusals.Params) (t : Result A Refusal) → told_number t ≡ first_refusal (range_tests given.keylen given.d given.limit given.rounds)
    → given ≡ record { keylen = get_or area 2 0; d = get_or area 3 0; limit = get_or area 4 0; rounds = get_or area 5 0 } → sound_params area ≡ not (is_err t)
params_told area given t e g =
    let words = ap (λ (x : refusals.Params). first_refusal (range_tests x.keylen x.d x.limit x.rounds)) g in
    rw (refused-words area, ← words, ← e) (tested t)
  where
    tested : {A : Type 0} (t : Result A Refusal) → eqb (told_number t) 0 ≡ not (is_err t)
    tested (Ok a) = refl
    tested (Err r) = ne_eqb _ 0 (number_not0 r)

pub params_in_range : (area : List ℕ) → sound_params area ≡ true → InRange (get_or area 2 0) (get_or area 3 0) (get_or area 4 0) (get_or area 5 0)
params_in_range area p =
    in_range (get_or area 2 0) (get_or area 3 0) (get_or area 4 0) (get_or area 5 0) (sym (refused-words area) ∙ eqb-true (first_refusal (param_tests (params_of area))) 0 p)

pub count_word : (area : List ℕ) → sound_count area ≡ eqb (get_or area 14 0) (count_for (get_or area 0 0) (get_or area 4 0) (get_or area 1 0))
unfolding params_of
count_word area = refl

pub count_open : (p limit T : ℕ) → (p ≡ 2 → ⊥) → count_for p limit T ≡ open_count limit T
count_open p limit T h = rw (ne_eqb p 2 h, count_for)

-- a phase that word 0 says
pub phase_sound : (p : Phase) (area : List ℕ) → phase_word p ≡ phase_of area → sound_phase area ≡ true
phase_sound phase.Open area e = rw (← e)
phase_sound phase.Ended area e = rw (← e)

-- the tests one after the other: a first that fails decides, and one that holds leaves the rest
pub phase_fails : (area : List ℕ) → sound_phase area ≡ false → sound area ≡ false
unfolding sound
phase_fails area p = and_first (sound_phase area) _ p

pub params_fail : (area : List ℕ) → sound_phase area ≡ true → sound_params area ≡ false → sound area ≡ false
unfolding sound
params_fail area p q = and_second (sound_phase area) _ p ∙ and_first (sound_params area) _ q

pub rest_tests : (area : List ℕ) → sound_phase area ≡ true → sound_params area ≡ true
    → sound area ≡ ((sound_key area && (sound_count area && sound_last area)) && sound_levels area)
unfolding sound
rest_tests area p q =
    let a = sound_key area in
    let b = sound_count area in
    let c = sound_last area in
    let d = sound_levels area in
    and_second (sound_phase area) _ p ∙ and_second (sound_params area) _ q ∙ ap (λ (x : Bool). a && x) (sym (and_assoc b c d)) ∙ sym (and_assoc a (b && c) d)

-- ---- the levels, by the phase

pub levels-ended : (area : List ℕ) → phase_of area ≡ 2 → sound_levels area ≡ all_empty (levels_of area)
unfolding levels_of
levels-ended area h =
    ap (λ (hs : List Hold). clean_all hs (levels_of area)) (holds-ended (own_levels area) (get_or area 0 0) (params_of area).limit (get_or area 1 0) h)
    ∙ clean-empty area (own_levels area) 1

pub levels_open : (area : List ℕ) → phase_of area ≡ 1 → sound_levels area ≡ sound_open (get_or area 4 0) (get_or area 1 0) (levels_of area)
unfolding params_of levels_of
levels_open area h =
    ap (λ (hs : List Hold). clean_all hs (levels_of area)) (holds_open (own_levels area) (get_or area 0 0) (params_of area).limit (get_or area 1 0) h)
    ∙ clean_open area (own_levels area) (get_or area 4 0) (get_or area 1 0) 1
