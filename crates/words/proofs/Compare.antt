-- Two lists compared byte by byte, without stopping early.
use mathlib.Core.Path.{◌≡◌, sym}
use mathlib.Core.Bool.{false, ◌&&◌}
use mathlib.Core.List.{List, ◌∷◌}
use Prim.Native.Nat.{ℕ}
use lib.Bits.{bit_or, bit_xor}
use lib.Dec.{eqb}
use lib.ListN.{length}
use Rattle.lists.specs.Same.{same}
use Rattle.lists.specs.SameLaws.{same-other-length, same_more}
use native.Mathlib.Omega.{arith}

pub other_length : (xs ys : List ℕ) → (length xs ≡ length ys → ⊥) → same xs ys ≡ false
other_length xs ys h = sym (same-other-length xs ys h)

pub one_more : (seen x y : ℕ) (xs ys : List ℕ) → (eqb (bit_or seen (bit_xor x y)) 0 && same xs ys) ≡ (eqb seen 0 && same (x ∷ xs) (y ∷ ys))
one_more seen x y xs ys = same_more seen (x ∷ xs) (y ∷ ys) 0 (omega arith) (omega arith)
