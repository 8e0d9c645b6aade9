-- Definitions: a list cut by sizes into parts. A part begins where the parts before it end, and ends where its size says or where the
-- list ends, so that a size past the end gives a shorter part.
use Rattle.std.specs.Prelude.{List, [], ◌∷◌, ℕ, take, drop}

-- the parts, one for each size
abbrev pub cut_by : {A : Type 0} → List ℕ → List A → List (List A)
cut_by [] l = []
cut_by (n ∷ sizes) l = take n l ∷ cut_by sizes (drop n l)

-- what no part has: the list from where the last part ends
abbrev pub past_parts : {A : Type 0} → List ℕ → List A → List A
past_parts [] l = l
past_parts (n ∷ sizes) l = past_parts sizes (drop n l)
