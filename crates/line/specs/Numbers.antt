-- Laws: a number's field, read byte by byte, says what its definition says.
use Rattle.std.specs.Prelude.{Option, Some, None, option_map, ◌≡◌, refl, Bool, true, false, cond, ◌&&◌, List, [], ◌∷◌, ℕ, suc, ◌+◌, ◌-◌, ◌*◌, ◌%◌, ◌^◌, ◌≤◌, ◌<◌, leb, ltb, eqb, length}
use Rattle.std.proofs.Common.{lt_of_lt_of_le, le_of_suc-le-suc, pow-suc, mod-eq_of_lt, arith, ltb-true, ltb-false, le-leb, eqb-true}
use Rattle.std.proofs.Math.Nat.{pow-le-pow_right}
use Rattle.std.proofs.lemmas.Bool.{lt-leb}
use Rattle.line.specs.Line.{is_dash, is_decimal, decimal, number_of, rounds_of}
use Rattle.line.specs.Digits.{decimal-at-least, decimal-at-most}
use Rattle.line.specs.Fold.{push_number, number_in, rounds_in}
use Rattle.line.specs.declared.Number.{Number}
use Rattle.line.specs.declared.Number.TheVariants.{Empty, Digits, Dash, Wrong}

-- the bytes of a field, one after the other
abbrev pub push_numbers : Number → List ℕ → Number
push_numbers n [] = n
push_numbers n (b ∷ bs) = push_numbers (push_number n b) bs

stays_wrong : (f : List ℕ) → push_numbers Wrong f ≡ Wrong
stays_wrong [] = refl
stays_wrong (b ∷ bs) = stays_wrong bs

-- the field of k bytes, at most five, that spell a number
abbrev numbered : Bool → ℕ → Option ℕ → Number
numbered fits k None = Wrong
numbered true k (Some v) = Digits k v
numbered false k (Some v) = Wrong

too_long : (k : ℕ) (o : Option ℕ) → numbered false k o ≡ Wrong
too_long k None = refl
too_long k (Some v) = refl

-- a digit more keeps the bound, and of a number below it `%` takes nothing away
next-below : (k v b : ℕ) → v < 10 ^ k → is_decimal b ≡ true → v * 10 + (b - 48) < 10 ^ suc k
next-below k v b g e =
    let h : b ≤ 57 = decimal-at-most b e in
    rw (pow-suc 10 k) (omega arith)

same-value : (k v : ℕ) → k < 5 → v < 10 ^ k → v % 10000 ≡ v
same-value k v h g = mod-eq_of_lt (lt_of_lt_of_le g (pow-le-pow_right (omega arith) (le_of_suc-le-suc h)))

-- from k digits on, which spell v
more_digits : (f : List ℕ) (k v : ℕ) → k ≤ 5 → v < 10 ^ k
    → push_numbers (Digits k v) f ≡ numbered (leb (k + length f) 5) (k + length f) (decimal v f)
more_digits [] k v h g = let e : k + 0 ≡ k = omega arith in rw (e, le-leb k 5 h)
more_digits (b ∷ bs) k v h g = by (ltb k 5) (is_decimal b) refl refl (λ (k' v' : ℕ) h' g'. more_digits bs k' v' h' g')
  where
    by : (s t : Bool) → ltb k 5 ≡ s → is_decimal b ≡ t
        → ((k' v' : ℕ) → k' ≤ 5 → v' < 10 ^ k'
        → push_numbers (Digits k' v') bs ≡ numbered (leb (k' + length bs) 5) (k' + length bs) (decimal v' bs))
        → push_numbers (cond s (cond t (Digits (k + 1) (v % 10000 * 10 + (b - 48))) Wrong) Wrong) bs
        ≡ numbered (leb (k + suc (length bs)) 5) (k + suc (length bs)) (cond t (decimal (v * 10 + (b - 48)) bs) None)
    by false t p q ih =
        let l : 5 ≤ k = ltb-false k 5 p in
        rw (stays_wrong bs, lt-leb (k + suc (length bs)) 5 (omega arith), too_long)
    by true false p q ih = stays_wrong bs
    by true true p q ih =
        let l : k < 5 = ltb-true k 5 p in
        let e : k + suc (length bs) ≡ suc k + length bs = omega arith in
        let m : k + 1 ≡ suc k = omega arith in
        rw (same-value k v l g, m, e) (ih (suc k) (v * 10 + (b - 48)) l (next-below k v b g q))

-- from the first digit on
first-digit : (b : ℕ) (bs : List ℕ) → is_decimal b ≡ true
    → push_numbers (Digits 1 (b - 48)) bs ≡ numbered (leb (suc (length bs)) 5) (suc (length bs)) (decimal (b - 48) bs)
first-digit b bs e =
    let h : b ≤ 57 = decimal-at-most b e in
    let k : 1 + length bs ≡ suc (length bs) = omega arith in
    rw (← k) (more_digits bs 1 (b - 48) (omega arith) (omega arith))

number_in_lem : (fits : Bool) (k : ℕ) (o : Option ℕ) → number_in (numbered fits k o) ≡ cond fits o None
number_in_lem true k None = refl
number_in_lem false k None = refl
number_in_lem true k (Some v) = refl
number_in_lem false k (Some v) = refl

no_number : (t : Bool) → cond {A = Option ℕ} t None None ≡ None
no_number true = refl
no_number false = refl

number-after_dash : (bs : List ℕ) → number_in (push_numbers Dash bs) ≡ None
number-after_dash [] = refl
number-after_dash (b ∷ bs) = rw (stays_wrong bs)

-- the field of d or L
pub number-field : (f : List ℕ) → number_in (push_numbers Empty f) ≡ number_of f
number-field [] = refl
number-field (b ∷ bs) = by (is_decimal b) (eqb b 45) refl
  where
    by : (s t : Bool) → is_decimal b ≡ s
        → number_in (push_numbers (cond s (Digits 1 (b - 48)) (cond t Dash Wrong)) bs)
        ≡ cond (leb 1 (suc (length bs)) && leb (suc (length bs)) 5) (cond s (decimal (0 * 10 + (b - 48)) bs) None) None
    by true t p =
        let z : 0 * 10 + (b - 48) ≡ b - 48 = omega arith in
        rw (first-digit b bs p, number_in_lem, le-leb 1 (suc (length bs)) (omega arith), z)
    by false true p = rw (number-after_dash bs, no_number)
    by false false p = rw (stays_wrong bs, no_number)

-- the field of r
dashed : Number → Bool
dashed Empty = false
dashed (Digits k v) = false
dashed Dash = true
dashed Wrong = false

numbered-dashed : (fits : Bool) (k : ℕ) (o : Option ℕ) → dashed (numbered fits k o) ≡ false
unfolding dashed
numbered-dashed true k None = refl
numbered-dashed false k None = refl
numbered-dashed true k (Some v) = refl
numbered-dashed false k (Some v) = refl

dash_field : (f : List ℕ) → dashed (push_numbers Empty f) ≡ is_dash f
unfolding dashed
dash_field [] = refl
dash_field (b ∷ []) = by (is_decimal b) (eqb b 45) refl refl
  where
    by : (s t : Bool) → is_decimal b ≡ s → eqb b 45 ≡ t → dashed (cond s (Digits 1 (b - 48)) (cond t Dash Wrong)) ≡ t
    by true true p q = let h : 48 ≤ b = decimal-at-least b p in let e : b ≡ 45 = eqb-true b 45 q in absurd (omega arith)
    by true false p q = refl
    by false true p q = refl
    by false false p q = refl
dash_field (b ∷ c ∷ bs) = by (is_decimal b) (eqb b 45) refl
  where
    by : (s t : Bool) → is_decimal b ≡ s → dashed (push_numbers (cond s (Digits 1 (b - 48)) (cond t Dash Wrong)) (c ∷ bs)) ≡ false
    by true t p =
        let n : ℕ = suc (suc (length bs)) in
        rw (first-digit b (c ∷ bs) p) (numbered-dashed (leb n 5) n (decimal (b - 48) (c ∷ bs)))
    by false true p = rw (stays_wrong bs)
    by false false p = rw (stays_wrong bs)

rounds_in_lem : (n : Number) → rounds_in n ≡ cond (dashed n) (Some None) (option_map (λ (r : ℕ). Some r) (number_in n))
unfolding dashed
rounds_in_lem Empty = refl
rounds_in_lem (Digits k v) = refl
rounds_in_lem Dash = refl
rounds_in_lem Wrong = refl

pub rounds-field : (f : List ℕ) → rounds_in (push_numbers Empty f) ≡ rounds_of f
rounds-field f = rw (rounds_in_lem (push_numbers Empty f), dash_field f, number-field f)
