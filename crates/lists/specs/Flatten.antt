-- Laws: lists joined one after the other, by the library's `flatten`.
use Rattle.std.specs.Prelude.{◌≡◌, refl}
use Rattle.std.proofs.Common.{sym, ap}
use mathlib.Core.List.{List, [], ◌∷◌, ◌++◌, map, flatten, append_assoc}

pub flatten-append {ℓ} : {A : Type ℓ} (G H : List (List A)) → flatten (G ++ H) ≡ flatten G ++ flatten H
unfolding flatten
flatten-append [] H = refl
flatten-append (g ∷ G) H = rw (flatten-append G H) (sym (append_assoc g (flatten G) (flatten H)))

pub map-append : {A B : Type 0} (f : A → B) (xs ys : List A) → map f (xs ++ ys) ≡ map f xs ++ map f ys
map-append f [] ys = refl
map-append f (x ∷ xs) ys = ap (λ (l : List _). f x ∷ l) (map-append f xs ys)
