-- Laws: two joined lists are equal only if their parts are, when the first parts are equally long.
use mathlib.Core.List.{List, [], ◌∷◌, ◌++◌, head-eq_of_cons-eq, tail-eq_of_cons-eq}
use Rattle.std.specs.Prelude.{◌≡◌, refl, length}
use Rattle.std.proofs.Common.{arith}

pub cons_eq : {A : Type 0} {x y : A} {xs ys : List A} → x ≡ y → xs ≡ ys → x ∷ xs ≡ y ∷ ys
cons_eq p q = cc

pub append_split : {A : Type 0} (a b c d : List A) → length a ≡ length b → a ++ c ≡ b ++ d → (a ≡ b) × (c ≡ d)
append_split [] [] c d h e = (refl, e)
append_split [] (y ∷ b) c d h e = absurd (omega arith)
append_split (x ∷ a) [] c d h e = absurd (omega arith)
append_split (x ∷ a) (y ∷ b) c d h e =
    let r = append_split a b c d (omega arith) (tail-eq_of_cons-eq e) in
    (cons_eq (head-eq_of_cons-eq e) r.0, r.1)
