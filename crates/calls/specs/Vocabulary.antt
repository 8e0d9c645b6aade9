-- Definitions: the terms of the theorems about areas that docs/PROOFS.md cites.
use Rattle.std.specs.Prelude.{◌≡◌, ℕ, zero, suc, ◌+◌, ◌-◌, ◌*◌, ◌/◌, ◌≤◌, get_or, length, take, true, List}
use Rattle.tree.specs.Tree.{block_bits, sequential_bits, output_bits, most_levels}
use Rattle.calls.specs.Area.{parallel_hold, open_holds, area_levels, area_words, Long, sound}
use Rattle.calls.specs.Calls.{Opened, AreaLog, Finished}

-- the bits that a level of an open area holds, for a limit and a total
abbrev pub bits_at : ℕ → ℕ → ℕ → ℕ
bits_at limit T level = (get_or (open_holds (area_levels limit) limit T) (level - 1) (parallel_hold 0)).bits

-- the most bits that level 1 holds
abbrev pub most_first : ℕ → ℕ
most_first zero = sequential_bits
most_first (suc n) = block_bits

-- a level above level 1 holds whole outputs: 0 to 3, and 0 to 2 if it is the sequential one
pub record HoldsOutputs (limit level bits : ℕ) : Type 0 where
  pub outputs : ℕ
  pub whole : bits ≡ output_bits * outputs
  pub parallel : outputs ≤ 3
  pub sequential : level ≡ limit + 1 → outputs ≤ 2

-- two areas that are alike in the words that an L gives: what stands past those may differ, and so may the lengths
abbrev pub SameFront : ℕ → List ℕ → List ℕ → Type 0
SameFront limit x y = take (area_words limit) x ≡ take (area_words limit) y

-- what open, feed and close, and end answer to two such areas: the same, and the areas are alike again
abbrev pub OpenedAlike : ℕ → Opened → Opened → Type 0
OpenedAlike limit f g = (f.number ≡ g.number) × (f.count ≡ g.count) × SameFront limit f.area g.area

abbrev pub AreaLogAlike : ℕ → AreaLog → AreaLog → Type 0
AreaLogAlike limit f g = (f.number ≡ g.number) × (f.count ≡ g.count) × (f.log ≡ g.log) × SameFront limit f.area g.area

abbrev pub FinishedAlike : ℕ → Finished → Finished → Type 0
FinishedAlike limit f g =
    (f.number ≡ g.number) × (f.count ≡ g.count) × (f.digest ≡ g.digest) × (f.log ≡ g.log) × SameFront limit f.area g.area

-- what an accepted call leaves of an area: an area of the same length, which is long enough, and sound
pub record LeavesSound (area after : List ℕ) : Type 0 where
  pub size : length after ≡ length area
  pub long : Long after
  pub is_sound : sound after ≡ true

-- words of log that are enough for a feed of n bits, whatever the area
unfoldable pub enough_words : ℕ → ℕ
enough_words n = 4 * ((n + (block_bits - 1)) / block_bits) + 2 * most_levels
