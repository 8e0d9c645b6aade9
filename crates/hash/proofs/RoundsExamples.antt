-- Examples: what is told as default rounds, computed from the definition.
use Rattle.std.specs.Prelude.{◌≡◌, refl, List, [], ◌∷◌, map, ℕ, ◌-◌, ◌^◌}
use Rattle.refusals.specs.Refusals.{Told}
use Rattle.hash.specs.Hash.{default_rounds_of}

-- a digest size, a key length, and what is told for them
pub record Row : Type 0 where
  pub d : ℕ
  pub key_bytes : ℕ
  pub told : Told

abbrev row : ℕ → ℕ → ℕ → ℕ → Row
row d key_bytes number count = record { d = d; key_bytes = key_bytes; told = record { number = number; count = count } }

abbrev pub table : List Row
table =
    -- document 003: "d 160 224 256 384 512", "r 80 96 104 136 168"
    row 160 0 0 80
    ∷ row 224 0 0 96
    ∷ row 256 0 0 104
    ∷ row 384 0 0 136
    ∷ row 512 0 0 168
    -- 40 + d/4 goes below 80, and the quarter is rounded down
    ∷ row 1 0 0 40
    ∷ row 128 0 0 72
    ∷ row 159 0 0 79
    -- "the larger of 80 and 40 + d/4 if the key has any byte": any key, however long
    ∷ row 1 1 0 80
    ∷ row 128 1 0 80
    ∷ row 128 64 0 80
    ∷ row 159 63 0 80
    ∷ row 160 1 0 80
    ∷ row 163 1 0 80
    ∷ row 164 1 0 81
    ∷ row 256 1 0 104
    ∷ row 512 64 0 168
    -- "refuses 1, then 2": with count 0
    ∷ row 0 0 1 0
    ∷ row 513 0 1 0
    ∷ row 0 65 1 0
    ∷ row 513 65 1 0
    ∷ row 1 65 2 0
    ∷ row 512 (2 ^ 64 - 1) 2 0
    ∷ []

pub told-rounds : map (λ (w : Row). default_rounds_of w.d w.key_bytes) table ≡ map (λ (w : Row). w.told) table
unfolding default_rounds_of
told-rounds = refl
