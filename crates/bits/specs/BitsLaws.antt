-- Laws: of the definitions in Bits: what is written as bits is read back, for numbers of any width k.
use Rattle.std.specs.Prelude.{Bool, true, false, List, [], ◌∷◌, ◌++◌, ◌≡◌, refl, ℕ, zero, suc, ◌+◌, ◌-◌, ◌*◌, ◌/◌, ◌%◌, ◌^◌, ◌≤◌, ◌<◌, eqb, length, take, drop, replicate}
use Rattle.std.proofs.Common.{append_assoc, append-nil, sym, ap, ◌∙◌, mod-eq_of_lt, zero-mul, lt_of_lt_of_le, arith, length-append, length-take, length-drop, take-append-drop, pow-add, pow_mono, shr-shr, take_at, drop_at, take-add, take_all, take-take, drop-drop, length-take-le}
use Rattle.std.proofs.Math.Nat.{zero-div}
use Rattle.std.proofs.lemmas.List.{replicate-append-replicate, take-append-le, drop-append-le}
use Rattle.std.proofs.lemmas.Nat.{mod-pow-add}
use Rattle.std.proofs.Math.Pow.{high, low}
use Rattle.std.proofs.Math.Seq.{take-nil, drop-nil, take-append-add, drop-append-add}
use Rattle.lists.specs.Append.{cons_eq, append_split}
use Rattle.lists.specs.Below.{Below, none, more}
use Rattle.bits.specs.Bits.{digit, bits, bits_of, spell, numbers}

-- Lengths

pub digit_le : (b : Bool) → digit b ≤ 1
digit_le true = omega arith
digit_le false = omega arith

pub length-bits : (k n : ℕ) → length (bits k n) ≡ k
length-bits zero n = refl
length-bits (suc k) n = ap suc (length-bits k n)

pub length-bits_of : (k : ℕ) (ws : List ℕ) → length (bits_of k ws) ≡ length ws * k
length-bits_of k [] = omega arith
length-bits_of k (w ∷ ws) = simp (length-append, length-bits) (omega (arith, length-bits_of k ws))

pub length-numbers : (k n : ℕ) (bs : List Bool) → length (numbers k n bs) ≡ n
unfolding numbers
length-numbers k zero bs = refl
length-numbers k (suc n) bs = ap suc (length-numbers k n (drop k bs))

-- The number that bits spell

pub spell-append : (m : ℕ) (xs ys : List Bool) → spell m (xs ++ ys) ≡ spell (spell m xs) ys
spell-append m [] ys = refl
spell-append m (x ∷ xs) ys = spell-append (m * 2 + digit x) xs ys

-- bits spelt before weigh as much as the bits after them leave room for
pub spell-from : (m : ℕ) (bs : List Bool) → spell m bs ≡ m * 2 ^ length bs + spell 0 bs
spell-from m [] = omega arith
spell-from m (b ∷ bs) =
    let s : suc (length bs) ≡ 1 + length bs = omega arith in
    rw (s, pow-add 2 1 (length bs), spell-from (m * 2 + digit b) bs, spell-from (0 * 2 + digit b) bs) (omega arith)

digit-below : (b : Bool) (p n : ℕ) → n < p → (0 * 2 + digit b) * p + n < 2 * p
digit-below true p n h = omega arith
digit-below false p n h = omega arith

pub spell_lt : (bs : List Bool) → spell 0 bs < 2 ^ length bs
spell_lt [] = omega arith
spell_lt (b ∷ bs) =
    let s : suc (length bs) ≡ 1 + length bs = omega arith in
    rw (s, pow-add 2 1 (length bs), spell-from (0 * 2 + digit b) bs) (digit-below b (2 ^ length bs) (spell 0 bs) (spell_lt bs))

-- the first n of some bits, and the rest, spell the quotient and the remainder
spell-parts : (n : ℕ) (bs : List Bool) → spell 0 bs ≡ spell 0 (take n bs) * 2 ^ (length bs - n) + spell 0 (drop n bs)
spell-parts n bs =
    ap (spell 0) (sym (take-append-drop n bs)) ∙ spell-append 0 (take n bs) (drop n bs)
    ∙ rw (spell-from (spell 0 (take n bs)) (drop n bs), length-drop n bs)

rest_lt : (n : ℕ) (bs : List Bool) → spell 0 (drop n bs) < 2 ^ (length bs - n)
rest_lt n bs = rw length-drop at (spell_lt (drop n bs))

pub spell-take : (n : ℕ) (bs : List Bool) → spell 0 (take n bs) ≡ spell 0 bs / 2 ^ (length bs - n)
spell-take n bs = rw (spell-parts n bs) (sym (high (spell 0 (take n bs)) (length bs - n) (rest_lt n bs)))

pub spell-drop : (n : ℕ) (bs : List Bool) → spell 0 (drop n bs) ≡ spell 0 bs % 2 ^ (length bs - n)
spell-drop n bs = rw (spell-parts n bs) (sym (low (spell 0 (take n bs)) (length bs - n) (rest_lt n bs)))

digit-eqb : (b : ℕ) → b < 2 → digit (eqb b 1) ≡ b
digit-eqb zero h = refl
digit-eqb (suc zero) h = refl
digit-eqb (suc (suc b)) h = absurd (omega arith)

pub spell-bits : (k m w : ℕ) → spell m (bits k w) ≡ m * 2 ^ k + w % 2 ^ k
spell-bits zero m w = omega arith
spell-bits (suc k) m w =
    let b : ℕ = w / 2 ^ k % 2 in
    let e = spell-bits k (m * 2 + digit (eqb b 1)) w in
    let s : suc k ≡ 1 + k = omega arith in
    e ∙ rw (digit-eqb b (omega arith), s, mod-pow-add w 1 k, pow-add 2 1 k) (omega arith)

digit_inj : (m n : ℕ) (a b : Bool) → m * 2 + digit a ≡ n * 2 + digit b → (m ≡ n) × (a ≡ b)
digit_inj m n true true h = (omega arith, refl)
digit_inj m n true false h = absurd (omega arith)
digit_inj m n false true h = absurd (omega arith)
digit_inj m n false false h = (omega arith, refl)

spell_inj : (m n : ℕ) (xs ys : List Bool) → length xs ≡ length ys → spell m xs ≡ spell n ys → (m ≡ n) × (xs ≡ ys)
spell_inj m n [] [] h e = (e, refl)
spell_inj m n [] (y ∷ ys) h e = absurd (omega arith)
spell_inj m n (x ∷ xs) [] h e = absurd (omega arith)
spell_inj m n (x ∷ xs) (y ∷ ys) h e =
    let r = spell_inj (m * 2 + digit x) (n * 2 + digit y) xs ys (omega arith) e in
    let s = digit_inj m n x y r.0 in
    (s.0, cons_eq s.1 r.1)

-- The bits of a number

pub bits-spell : (k : ℕ) (bs : List Bool) → length bs ≡ k → bits k (spell 0 bs) ≡ bs
bits-spell k bs h =
    let b : spell 0 bs < 2 ^ k = rw h at (spell_lt bs) in
    (spell_inj 0 0 (bits k (spell 0 bs)) bs (length-bits k (spell 0 bs) ∙ sym h) (spell-bits k 0 (spell 0 bs) ∙ omega (arith, mod-eq_of_lt b))).1

bits_inj : (k m n : ℕ) → bits k m ≡ bits k n → m % 2 ^ k ≡ n % 2 ^ k
bits_inj k m n e = omega (arith, spell-bits k 0 m, spell-bits k 0 n, ap (spell 0) e)

-- the high bits and the low bits
pub bits_split : (j k w : ℕ) → bits (j + k) w ≡ bits j (w / 2 ^ k) ++ bits k w
bits_split zero k w = let e : 0 + k ≡ k = omega arith in rw e
bits_split (suc j) k w =
    let e : suc j + k ≡ suc (j + k) = omega arith in
    let c : j + k ≡ k + j = omega arith in
    let q : w / 2 ^ k / 2 ^ j ≡ w / 2 ^ (j + k) = rw c (shr-shr w k j) in
    rw (e, q) (cons_eq refl (bits_split j k w))

bits-zero : (k : ℕ) → bits k 0 ≡ replicate k false
bits-zero zero = refl
bits-zero (suc k) =
    rw (zero-div (2 ^ k)) (cons_eq refl (bits-zero k))

-- The bits of numbers

pub bits_of-append : (k : ℕ) (ws vs : List ℕ) → bits_of k (ws ++ vs) ≡ bits_of k ws ++ bits_of k vs
bits_of-append k [] vs = refl
bits_of-append k (w ∷ ws) vs = rw (bits_of-append k ws vs) (sym (append_assoc (bits k w) (bits_of k ws) (bits_of k vs)))

pub bits_of-zeros : (k n : ℕ) → bits_of k (replicate n 0) ≡ replicate (n * k) false
bits_of-zeros k zero = rw (zero-mul k)
bits_of-zeros k (suc n) =
    let e : suc n * k ≡ k + n * k = omega arith in
    rw (e, bits-zero k, bits_of-zeros k n, replicate-append-replicate k (n * k) false)

pub bits_of-take : (k n : ℕ) (ws : List ℕ) → take (n * k) (bits_of k ws) ≡ bits_of k (take n ws)
bits_of-take k zero ws = ap (λ (m : ℕ). take m (bits_of k ws)) (zero-mul k)
bits_of-take k (suc n) [] = take-nil (suc n * k)
bits_of-take k (suc n) (w ∷ ws) =
    let e : suc n * k ≡ length (bits k w) + n * k = rw (length-bits k w) (omega arith) in
    rw e (take-append-add (bits k w) (bits_of k ws) (n * k) ∙ ap (λ (bs : List Bool). bits k w ++ bs) (bits_of-take k n ws))

pub bits_of-drop : (k n : ℕ) (ws : List ℕ) → drop (n * k) (bits_of k ws) ≡ bits_of k (drop n ws)
bits_of-drop k zero ws = ap (λ (m : ℕ). drop m (bits_of k ws)) (zero-mul k)
bits_of-drop k (suc n) [] = drop-nil (suc n * k)
bits_of-drop k (suc n) (w ∷ ws) =
    let e : suc n * k ≡ length (bits k w) + n * k = rw (length-bits k w) (omega arith) in
    rw e (drop-append-add (bits k w) (bits_of k ws) (n * k) ∙ bits_of-drop k n ws)

pub bits_of_inj : (k : ℕ) {ws vs : List ℕ} → Below (2 ^ k) ws → Below (2 ^ k) vs → length ws ≡ length vs → bits_of k ws ≡ bits_of k vs → ws ≡ vs
bits_of_inj k none none h e = refl
bits_of_inj k none (more b bs) h e = absurd (omega arith)
bits_of_inj k (more a as') none h e = absurd (omega arith)
bits_of_inj k (more {w = w} {ws = ws} a as') (more {w = v} {ws = vs} b bs) h e =
    let s = append_split (bits k w) (bits k v) (bits_of k ws) (bits_of k vs) (simp length-bits) e in
    cons_eq (sym (mod-eq_of_lt a) ∙ bits_inj k w v s.0 ∙ mod-eq_of_lt b) (bits_of_inj k as' bs (omega arith) s.1)

-- The numbers that bits spell

pub numbers-below : (k n : ℕ) (bs : List Bool) → Below (2 ^ k) (numbers k n bs)
unfolding numbers
numbers-below k zero bs = none
numbers-below k (suc n) bs =
    let l : length (take k bs) ≤ k = simp length-take (omega arith) in
    more (lt_of_lt_of_le (spell_lt (take k bs)) (pow_mono l)) (numbers-below k n (drop k bs))

pub numbers-add : (k n m : ℕ) (bs : List Bool) → numbers k (n + m) bs ≡ numbers k n bs ++ numbers k m (drop (n * k) bs)
unfolding numbers
numbers-add k zero m bs =
    let e : 0 + m ≡ m = omega arith in
    let z : 0 * k ≡ 0 = omega arith in
    rw (e, z)
numbers-add k (suc n) m bs =
    let e : suc n + m ≡ suc (n + m) = omega arith in
    let s : suc n * k ≡ k + n * k = omega arith in
    rw (e, s, ← drop-drop (n * k) k bs) (cons_eq refl (numbers-add k n m (drop k bs)))

-- only the first n * k bits count
pub numbers-front : (k n : ℕ) (xs ys : List Bool) → n * k ≤ length xs → numbers k n (xs ++ ys) ≡ numbers k n xs
unfolding numbers
numbers-front k zero xs ys h = refl
numbers-front k (suc n) xs ys h =
    let l : k ≤ length xs = omega arith in
    rw (take-append-le k xs ys l, drop-append-le k xs ys l) (cons_eq refl (numbers-front k n (drop k xs) ys (simp length-drop (omega arith))))

pub numbers-append : (k n m : ℕ) (xs ys : List Bool) → length xs ≡ n * k → numbers k (n + m) (xs ++ ys) ≡ numbers k n xs ++ numbers k m ys
numbers-append k n m xs ys h = numbers-add k n m (xs ++ ys) ∙ rw (drop_at xs ys (n * k) h, numbers-front k n xs ys (omega arith))

pub numbers-take : (k n : ℕ) (bs : List Bool) → n * k ≤ length bs → numbers k n bs ≡ numbers k n (take (n * k) bs)
numbers-take k n bs h =
    let f = numbers-front k n (take (n * k) bs) (drop (n * k) bs) (simp length-take (omega arith)) in
    ap (numbers k n) (sym (take-append-drop (n * k) bs)) ∙ f

pub numbers-one : (k : ℕ) (bs : List Bool) → length bs ≡ k → numbers k 1 bs ≡ spell 0 bs ∷ []
unfolding numbers
numbers-one k bs h = rw (take_all k bs (omega arith))

-- There and back

pub numbers-bits_of : (k : ℕ) {ws : List ℕ} (rest : List Bool) → Below (2 ^ k) ws → numbers k (length ws) (bits_of k ws ++ rest) ≡ ws
unfolding numbers
numbers-bits_of k rest none = refl
numbers-bits_of k rest (more {w = w} {ws = ws} h hs) =
    let a = append_assoc (bits k w) (bits_of k ws) rest in
    let t = take_at (bits k w) (bits_of k ws ++ rest) k (length-bits k w) in
    let d = drop_at (bits k w) (bits_of k ws ++ rest) k (length-bits k w) in
    rw (a, t, d) (cons_eq (spell-bits k 0 w ∙ omega (arith, mod-eq_of_lt h)) (numbers-bits_of k rest hs))

-- the same with no more bits after them
pub numbers-exact : (k n : ℕ) {ws : List ℕ} → Below (2 ^ k) ws → length ws ≡ n → numbers k n (bits_of k ws) ≡ ws
numbers-exact k n {ws} h e = rw (← e, ← append-nil (bits_of k ws)) (numbers-bits_of k [] h)

pub bits_of-numbers : (k n : ℕ) (bs : List Bool) → n * k ≤ length bs → bits_of k (numbers k n bs) ≡ take (n * k) bs
unfolding numbers
bits_of-numbers k zero bs h = rw (zero-mul k)
bits_of-numbers k (suc n) bs h =
    let l : k ≤ length bs = omega arith in
    let s : suc n * k ≡ k + n * k = omega arith in
    rw (bits-spell k (take k bs) (length-take-le k bs l), bits_of-numbers k n (drop k bs) (simp length-drop (omega arith)), s, take-add k (n * k) bs)

pub numbers_inj : (k n : ℕ) (xs ys : List Bool) → n * k ≤ length xs → n * k ≤ length ys → numbers k n xs ≡ numbers k n ys → take (n * k) xs ≡ take (n * k) ys
numbers_inj k n xs ys h g e = sym (bits_of-numbers k n xs h) ∙ ap (bits_of k) e ∙ bits_of-numbers k n ys g

-- bits written to bytes, the last byte filled up with zeros
pub bytes_inj : (d : ℕ) (x y : List Bool) → length x ≡ d → length y ≡ d
    → numbers 8 ((d + 7) / 8) (x ++ replicate 7 false) ≡ numbers 8 ((d + 7) / 8) (y ++ replicate 7 false)
    → x ≡ y
bytes_inj d x y hx hy e =
    let z : List Bool = replicate 7 false in
    let n : ℕ = (d + 7) / 8 in
    let t = numbers_inj 8 n (x ++ z) (y ++ z) (simp length-append (omega arith)) (simp length-append (omega arith)) e in
    cc (t, take-take d (n * 8) (x ++ z) (omega arith), take-take d (n * 8) (y ++ z) (omega arith), take_at x z d hx, take_at y z d hy)
