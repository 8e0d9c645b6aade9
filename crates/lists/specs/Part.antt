-- Definitions: a part of a list replaced by another list of its length: what a slice holds after a part of it was lent.
use Rattle.std.specs.Prelude.{List, ◌++◌, ℕ, take, drop}

-- `put a k l ys` is l with ys in the place of the k elements from a on: what a slice holds after `&mut l[a..a + k]` was lent and left at ys
abbrev pub put : ℕ → ℕ → List ℕ → List ℕ → List ℕ
put a k l ys = take a l ++ (ys ++ drop k (drop a l))
