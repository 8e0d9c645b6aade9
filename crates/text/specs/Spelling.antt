-- Laws: what the code says of digits that are spelt: of a level's line.
use Rattle.std.specs.Prelude.{Option, List, ℕ, ◌*◌, drop, replicate}
use Rattle.calls.specs.Area.{block_words}
use Rattle.digits.specs.Digits.{spelt_words}

-- the words of n levels that hold nothing
unfoldable pub zero_levels : ℕ → List ℕ
zero_levels n = replicate (block_words * n) 0

-- the words that a level's line spells
abbrev pub level_spelt : List ℕ → List (Option ℕ)
level_spelt line = spelt_words block_words (drop 2 line)
