-- Laws: of `same`, and of numbers joined by `|` and compared by `^`, as code compares lists without stopping early.
use Rattle.std.specs.Prelude.{◌≡◌, refl, Bool, true, false, ◌&&◌, List, [], ◌∷◌, ℕ, suc, ◌+◌, ◌≤◌, ◌<◌, eqb, length, drop, get_or}
use Rattle.std.proofs.Common.{sym, ap, ◌∙◌, arith, eq-eqb, ne_eqb, eqb-true, drop_of_length-le, drop-cons}
use Rattle.std.proofs.Math.Bool.{and-false, and_assoc}
use Rattle.std.proofs.lemmas.Bool.{eqb-false}
use Rattle.std.specs.Int.Bits.{bit_or, bit_xor, or_add_and, xor_add_and, xor_self}
use Rattle.std.proofs.lemmas.Nat.{and_le_l, and_le_r}
use Rattle.lists.specs.And.{and_intro, and_parts}
use Rattle.lists.specs.Append.{cons_eq}
use Rattle.lists.specs.Same.{same}

-- ---- equal lists, and no others

pub same_refl : (xs : List ℕ) → same xs xs ≡ true
same_refl [] = refl
same_refl (x ∷ xs) = and_intro (eq-eqb x x refl) (same_refl xs)

pub same_eq : (xs ys : List ℕ) → same xs ys ≡ true → xs ≡ ys
same_eq [] [] e = refl
same_eq [] (y ∷ ys) e = let z : ◌≡◌ {A = ℕ} 0 1 = cc in absurd (omega arith)
same_eq (x ∷ xs) [] e = let z : ◌≡◌ {A = ℕ} 0 1 = cc in absurd (omega arith)
same_eq (x ∷ xs) (y ∷ ys) e =
    let p = and_parts (eqb x y) (same xs ys) e in
    cons_eq (eqb-true x y p.0) (same_eq xs ys p.1)

pub same-other-length : (xs ys : List ℕ) → (length xs ≡ length ys → ⊥) → false ≡ same xs ys
same-other-length [] [] h = absurd (h refl)
same-other-length [] (y ∷ ys) h = refl
same-other-length (x ∷ xs) [] h = refl
same-other-length (x ∷ xs) (y ∷ ys) h =
    let r = same-other-length xs ys (λ e. h (ap suc e)) in
    sym (and-false (eqb x y)) ∙ ap (◌&&◌ (eqb x y)) r

-- ---- joined by `|`, compared by `^`

-- two numbers joined by `|` are zero if both are
pub or-zero : (a b : ℕ) → eqb (bit_or a b) 0 ≡ (eqb a 0 && eqb b 0)
or-zero a b = by (eqb a 0) (eqb b 0) refl refl
  where
    by : (p q : Bool) → eqb a 0 ≡ p → eqb b 0 ≡ q → eqb (bit_or a b) 0 ≡ (p && q)
    by true true e f =
        let x = eqb-true a 0 e in
        let y = eqb-true b 0 f in
        eq-eqb (bit_or a b) 0 (omega (arith, or_add_and a b))
    by true false e f =
        let y = eqb-false b 0 f in
        ne_eqb (bit_or a b) 0 (λ z. omega (arith, or_add_and a b, and_le_l a b, and_le_r a b))
    by false q e f =
        let x = eqb-false a 0 e in
        ne_eqb (bit_or a b) 0 (λ z. omega (arith, or_add_and a b, and_le_l a b, and_le_r a b))

-- `^` of two numbers is zero if they are equal
xor-zero : (a b : ℕ) → eqb (bit_xor a b) 0 ≡ eqb a b
xor-zero a b = by (eqb (bit_xor a b) 0) refl
  where
    by : (p : Bool) → eqb (bit_xor a b) 0 ≡ p → p ≡ eqb a b
    by true e =
        let z = eqb-true (bit_xor a b) 0 e in
        sym (eq-eqb a b (omega (arith, xor_add_and a b, and_le_l a b, and_le_r a b)))
    by false e = sym (ne_eqb a b (λ q. eqb-false (bit_xor a b) 0 e (rw q (xor_self b))))

-- one number more is compared
pub same_more : (seen : ℕ) (xs ys : List ℕ) (i : ℕ) → i < length xs → i < length ys
    → (eqb (bit_or seen (bit_xor (get_or xs i 0) (get_or ys i 0))) 0 && same (drop (i + 1) xs) (drop (i + 1) ys)) ≡ (eqb seen 0 && same (drop i xs) (drop i ys))
same_more seen xs ys i h g =
    let x : ℕ = get_or xs i 0 in
    let y : ℕ = get_or ys i 0 in
    let q : i + 1 ≡ suc i = omega arith in
    ap (λ (k : ℕ). eqb (bit_or seen (bit_xor x y)) 0 && same (drop k xs) (drop k ys)) q
    ∙ ap (λ (b : Bool). b && same (drop (suc i) xs) (drop (suc i) ys)) (or-zero seen (bit_xor x y) ∙ ap (◌&&◌ (eqb seen 0)) (xor-zero x y))
    ∙ and_assoc (eqb seen 0) (eqb x y) (same (drop (suc i) xs) (drop (suc i) ys))
    ∙ rw (drop-cons xs i 0 h, drop-cons ys i 0 g) refl

-- nothing is left past the ends
pub same_end : (xs ys : List ℕ) (i : ℕ) → length xs ≤ i → length ys ≤ i → same (drop i xs) (drop i ys) ≡ true
same_end xs ys i h g = rw (drop_of_length-le xs h, drop_of_length-le ys g)
