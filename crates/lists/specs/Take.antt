-- Laws: a part of a list, whether its end is cut off before its front or after it.
use Rattle.std.specs.Prelude.{◌≡◌, List, [], ◌∷◌, ℕ, zero, suc, ◌+◌, ◌-◌, ◌≤◌, take, drop}
use Rattle.std.proofs.Common.{sym, ap, ◌∙◌, zero-add, suc-add, arith, take-take}
use Rattle.std.proofs.Math.Seq.{take-nil}

pub drop-take : {A : Type 0} (n m : ℕ) (l : List A) → drop n (take (n + m) l) ≡ take m (drop n l)
drop-take zero m l = ap (λ (k : ℕ). take k l) (zero-add m)
drop-take (suc n) m [] = ap (drop (suc n)) (take-nil (suc n + m)) ∙ sym (take-nil m)
drop-take (suc n) m (x ∷ l) = ap (λ (k : ℕ). drop (suc n) (take k (x ∷ l))) (suc-add n m) ∙ drop-take n m l

-- m elements from place n on are a part of the first k
pub take-drop-take : {A : Type 0} (k n m : ℕ) (l : List A) → n + m ≤ k → take m (drop n (take k l)) ≡ take m (drop n l)
take-drop-take k n m l h =
    let e : k ≡ n + (k - n) = omega arith in
    ap (λ (j : ℕ). take m (drop n (take j l))) e ∙ ap (take m) (drop-take n (k - n) l) ∙ take-take m (k - n) (drop n l) (omega arith)
