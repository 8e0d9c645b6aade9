-- Definitions: a list of numbers that are all below a bound: bytes are below 2 ^ 8, words below 2 ^ 64.
use Rattle.std.specs.Prelude.{List, [], ◌∷◌, ℕ, ◌<◌}

pub data Below (b : ℕ) : List ℕ → Type 0 where
  none : Below b []
  more : {w : ℕ} {ws : List ℕ} → w < b → Below b ws → Below b (w ∷ ws)
