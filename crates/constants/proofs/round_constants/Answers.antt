-- `round_constants` meets its contract: the table's rule is one test, which antt computes from entry to entry.
use mathlib.Core.Path.{◌≡◌, refl, sym, ap, ◌∙◌, subst}
use mathlib.Core.Bool.{Bool, true, ◌&&◌}
use mathlib.Core.List.{List, [], ◌∷◌, flatten}
use Prim.Native.Nat.{ℕ, zero, suc, ◌+◌, ◌<◌}
use native.Mathlib.Nat.{add-zero, add-suc, suc-add, le_of_suc-le-suc, not-suc-le-zero}
use lib.Bits.{bit_and, bit_or, bit_xor, or_comm}
use lib.Dec.{T, eqb, eqb→eq}
use lib.ListN.{length, get_or}
use Rattle.lists.specs.And.{and_left, and_right}
use Rattle.constants.specs.Constants.{shr, shl, S, next_s, RoundTable}
use Rattle.constants.proofs.round_constants.Goals as goal

-- `next_s`, with the bit that is rotated out first: an operation on bits takes as many steps as its first number has digits
abbrev next : ℕ → ℕ
next s = bit_xor (bit_or (shr s 63) (shl s 1)) (bit_and s 0x7311c2812425cfa0)

next-is : (s : ℕ) → next s ≡ next_s s
unfolding next_s
next-is s = ap (λ (r : ℕ). bit_xor r (bit_and s 0x7311c2812425cfa0)) (or_comm (shr s 63) (shl s 1))

-- the first entry is s, and each other follows from the one before it
abbrev chain : ℕ → List ℕ → Bool
chain s [] = true
chain s (x ∷ xs) = eqb x s && chain (next x) xs

chained : (xs : List ℕ) (j : ℕ) → T (chain (S j) xs) → (k : ℕ) → k < length xs → get_or xs k 0 ≡ S (j + k)
unfolding S
chained [] j t k h = absurd (not-suc-le-zero h)
chained (x ∷ xs) j t zero h = eqb→eq x (S j) (and_left (eqb x (S j)) (chain (next x) xs) t) ∙ ap S (sym (add-zero j))
chained (x ∷ xs) j t (suc k) h =
    let e : x ≡ S j = eqb→eq x (S j) (and_left (eqb x (S j)) (chain (next x) xs) t) in
    chained xs (suc j) (subst (λ (s : ℕ). T (chain s xs)) (next-is x ∙ ap next_s e) (and_right (eqb x (S j)) (chain (next x) xs) t)) k (le_of_suc-le-suc h)
    ∙ ap S (suc-add j k ∙ sym (add-suc j k))

table : {xs : List ℕ} → T (chain (S 0) xs) → RoundTable 0 xs
table {xs} t = record { rule = chained xs 0 t }

pub returns : goal.returns
unfolding S flatten
returns c = (table tt, refl, refl)
