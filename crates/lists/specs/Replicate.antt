-- Laws: parts of a list that repeats one element.
use Rattle.std.specs.Prelude.{◌≡◌, refl, ℕ, zero, suc, ◌-◌, ◌≤◌, take, drop, replicate}
use Rattle.std.proofs.Common.{arith}
use Rattle.lists.specs.Append.{cons_eq}

pub take-replicate : {A : Type 0} (n m : ℕ) (x : A) → n ≤ m → take n (replicate m x) ≡ replicate n x
take-replicate zero m x h = refl
take-replicate (suc n) zero x h = absurd (omega arith)
take-replicate (suc n) (suc m) x h = cons_eq refl (take-replicate n m x (omega arith))

pub drop-replicate : {A : Type 0} (n m : ℕ) (x : A) → n ≤ m → drop n (replicate m x) ≡ replicate (m - n) x
drop-replicate zero m x h = let e : m - 0 ≡ m = omega arith in rw e
drop-replicate (suc n) zero x h = absurd (omega arith)
drop-replicate (suc n) (suc m) x h =
    let e : suc m - suc n ≡ m - n = omega arith in
    rw e (drop-replicate n m x (omega arith))
