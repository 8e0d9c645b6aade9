-- What the filler reads from the bytes, and what it writes into a word, as bits.
use mathlib.Core.Bool.{Bool, false}
use mathlib.Core.List.{List, [], ◌∷◌, ◌++◌, append_assoc}
use mathlib.Core.Path.{◌≡◌, refl, sym, ap, ◌∙◌}
use Prim.Native.Nat.{ℕ, zero, suc, ◌+◌, ◌-◌, ◌*◌, ◌/◌, ◌%◌, ◌^◌, ◌≤◌, ◌<◌}
use native.Mathlib.Nat.{mod-eq_of_lt}
use native.Mathlib.Omega.{arith}
use lib.ListN.{length, take, drop, get_or, replicate, length-append, length-drop, length-replicate}
use lib.Pow.{field, shr_lt}
use lib.Seq.{paste, take_at, drop_at, take-take, drop-drop, drop-cons, take-append-le, drop-append-le, length-take-le}
use Rattle.lists.specs.Append.{cons_eq}
use Rattle.lists.specs.Take.{take-drop-take}
use Rattle.lists.specs.Below.{Below, none, more}
use Rattle.lists.specs.BelowLaws.{below-append, below-zeros, below-take, below-drop}
use Rattle.bits.specs.Bits.{bits, bits_of, spell}
use Rattle.bits.specs.BitsLaws.{length-bits, length-bits_of, bits_split, bits_of-append, bits_of-zeros, bits_of-take, bits_of-drop, spell-append, spell-bits, spell-from, spell-take, spell-drop}
use Rattle.bits.specs.Read.{eight_from, word_from}

get_d_zeros : (xs : List ℕ) (n i : ℕ) → get_or (xs ++ replicate n 0) i 0 ≡ get_or xs i 0
get_d_zeros [] zero i = refl
get_d_zeros [] (suc n) zero = refl
get_d_zeros [] (suc n) (suc i) = get_d_zeros [] n i
get_d_zeros (x ∷ xs) n zero = refl
get_d_zeros (x ∷ xs) n (suc i) = get_d_zeros xs n i

byte_lt : {bytes : List ℕ} (i : ℕ) → Below 256 bytes → get_or bytes i 0 < 256
byte_lt i none = omega arith
byte_lt zero (more h hs) = h
byte_lt (suc i) (more h hs) = byte_lt i hs

-- n elements one by one, from place j + i on; past the end they are 0
abbrev elems : List ℕ → ℕ → ℕ → ℕ → List ℕ
elems l j i zero = []
elems l j i (suc n) = get_or l (j + i) 0 ∷ elems l j (suc i) n

one_by_one : (l : List ℕ) (z j i n : ℕ) → j + i + n ≤ length l + z → take n (drop (j + i) (l ++ replicate z 0)) ≡ elems l j i n
one_by_one l z j i zero h = refl
one_by_one l z j i (suc n) h =
    let e : suc (j + i) ≡ j + suc i = omega arith in
    rw (drop-cons (l ++ replicate z 0) (j + i) 0 (simp (length-append, length-replicate) (omega arith)), e, get_d_zeros l z (j + i))
    (cons_eq refl (one_by_one l z j (suc i) n (omega arith)))

-- the number of some digits to the base 2 ^ k, after digits that made m
abbrev number : ℕ → ℕ → List ℕ → ℕ
number k m [] = m
number k m (x ∷ xs) = number k (m * 2 ^ k + x) xs

spell-bits_of : (k m : ℕ) {ws : List ℕ} → Below (2 ^ k) ws → spell m (bits_of k ws) ≡ number k m ws
spell-bits_of k m none = refl
spell-bits_of k m (more {w = w} {ws = ws} h hs) =
    rw (spell-append m (bits k w) (bits_of k ws), spell-bits k m w, mod-eq_of_lt h) (spell-bits_of k (m * 2 ^ k + w) hs)

-- the bits of nine bytes from byte j on
abbrev pub nine : List ℕ → ℕ → List Bool
nine bytes j = take 72 (drop (8 * j) (bits_of 8 bytes ++ replicate 72 false))

nine-bytes : (bytes : List ℕ) (j : ℕ) → nine bytes j ≡ bits_of 8 (take 9 (drop j (bytes ++ replicate 9 0)))
nine-bytes bytes j =
    let l : List ℕ = bytes ++ replicate 9 0 in
    let e : 8 * j ≡ j * 8 = omega arith in
    let z : bits_of 8 l ≡ bits_of 8 bytes ++ replicate 72 false = rw (bits_of-append 8 bytes (replicate 9 0), bits_of-zeros 8 9) refl in
    rw (← z, e, bits_of-drop 8 j l) (bits_of-take 8 9 (drop j l))

length-nine : (bytes : List ℕ) (j : ℕ) → j ≤ length bytes → length (nine bytes j) ≡ 72
length-nine bytes j h = length-take-le 72 (drop (8 * j) (bits_of 8 bytes ++ replicate 72 false)) (simp (length-drop, length-append, length-bits_of, length-replicate) (omega arith))

nine-spelt : {bytes : List ℕ} (j : ℕ) → Below 256 bytes → j ≤ length bytes → spell 0 (nine bytes j) ≡ eight_from bytes j * 2 ^ 8 + get_or bytes (j + 8) 0
unfolding eight_from
nine-spelt {bytes} j hb h =
    let z : j + 0 ≡ j = omega arith in
    let t : take 9 (drop j (bytes ++ replicate 9 0)) ≡ elems bytes j 0 9 =
    ap (λ (x : ℕ). take 9 (drop x (bytes ++ replicate 9 0))) (sym z) ∙ one_by_one bytes 9 j 0 9 (omega arith) in
    ap (spell 0) (nine-bytes bytes j)
    ∙ spell-bits_of 8 0 (below-take 9 (below-drop j (below-append hb (below-zeros 256 9 (omega arith)))))
    ∙ ap (number 8 0) t
    ∙ rw z (omega arith)

eight_lt : {bytes : List ℕ} (j : ℕ) → Below 256 bytes → eight_from bytes j < 2 ^ 64
unfolding eight_from
eight_lt j hb =
    omega (arith, byte_lt j hb, byte_lt (j + 1) hb, byte_lt (j + 2) hb, byte_lt (j + 3) hb, byte_lt (j + 4) hb, byte_lt (j + 5) hb, byte_lt (j + 6) hb, byte_lt (j + 7) hb)

pub word_read : {bytes : List ℕ} (j b : ℕ) → Below 256 bytes → j ≤ length bytes → b < 8
    → (eight_from bytes j * 2 ^ 8 + get_or bytes (j + 8) 0) / 2 ^ (8 - b) % 2 ^ 64 ≡ word_from bytes (8 * j + b)
unfolding word_from
word_read {bytes} j b hb h hk =
    let y : List Bool = drop (8 * j) (bits_of 8 bytes ++ replicate 72 false) in
    let n : List Bool = nine bytes j in
    let ln : length n ≡ 72 = length-nine bytes j h in
    let d : length (drop b n) ≡ 72 - b = rw (length-drop, ln) refl in
    let s : 72 - b - 64 ≡ 8 - b = omega arith in
    let m : 72 - b ≡ 64 + (8 - b) = omega arith in
    let e : take 64 (drop b y) ≡ take 64 (drop b n) =
    sym (take-drop-take 72 b 64 y (omega arith)) in
    sym
    (rw (← drop-drop b (8 * j) (bits_of 8 bytes ++ replicate 72 false), e, spell-take 64 (drop b n), d, s, spell-drop b n, ln, m, nine-spelt j hb h)
    (field (eight_from bytes j * 2 ^ 8 + get_or bytes (j + 8) 0) 64 (8 - b)))

pub eight_read : {bytes : List ℕ} (j : ℕ) → Below 256 bytes → j ≤ length bytes → eight_from bytes j ≡ word_from bytes (8 * j)
eight_read {bytes} j hb h =
    let z : 8 * j + 0 ≡ 8 * j = omega arith in
    let r = rw z at (word_read j 0 hb h (omega arith)) in
    omega (arith, r, eight_lt j hb, byte_lt (j + 8) hb)

-- the first n of the 64 bits, all of them there
pub few-read : (bytes : List ℕ) (start n : ℕ) → n ≤ 64 → start + n ≤ 8 * length bytes → word_from bytes start / 2 ^ (64 - n) ≡ spell 0 (take n (drop start (bits_of 8 bytes)))
unfolding word_from
few-read bytes start n hn h =
    let d : List Bool = bits_of 8 bytes in
    let x : List Bool = drop start (d ++ replicate 72 false) in
    let ld : length d ≡ length bytes * 8 = length-bits_of 8 bytes in
    let l : length (take 64 x) ≡ 64 = length-take-le 64 x (simp (length-drop, length-append, length-replicate) (omega arith)) in
    let e : take n (take 64 x) ≡ take n (drop start d) =
    take-take n 64 x hn
    ∙ rw (drop-append-le start d (replicate 72 false) (omega arith), take-append-le n (drop start d) (replicate 72 false) (rw length-drop (omega arith))) in
    sym (ap (spell 0) (sym e) ∙ rw (spell-take n (take 64 x), l))

-- all 64 bits there
pub whole-read : (bytes : List ℕ) (start : ℕ) → start + 64 ≤ 8 * length bytes → word_from bytes start ≡ spell 0 (take 64 (drop start (bits_of 8 bytes)))
whole-read bytes start h = omega (arith, few-read bytes start 64 (omega arith) h)

-- a number of m bits with bits of s in the place of the n bits above its low t ones
pub put-spelt : (m o n t w : ℕ) (s : List Bool) → o + (n + t) ≡ m → w < 2 ^ m → n ≤ length s
    → (w / 2 ^ (n + t) * 2 ^ n + spell 0 (take n s)) * 2 ^ t + w % 2 ^ t ≡ spell 0 (paste (bits m w) o s n)
put-spelt m o n t w s e hw hs =
    let a : List Bool = bits o (w / 2 ^ (n + t)) in
    let x : List Bool = take n s in
    let parts : bits m w ≡ a ++ (bits n (w / 2 ^ t) ++ bits t w) = rw (← e, bits_split o (n + t) w, bits_split n t w) in
    let back : bits m w ≡ (a ++ bits n (w / 2 ^ t)) ++ bits t w = parts ∙ sym (append_assoc a (bits n (w / 2 ^ t)) (bits t w)) in
    let ta : take o (bits m w) ≡ a = rw parts (take_at a (bits n (w / 2 ^ t) ++ bits t w) o (length-bits o (w / 2 ^ (n + t)))) in
    let dt : drop (o + n) (bits m w) ≡ bits t w = rw back (drop_at (a ++ bits n (w / 2 ^ t)) (bits t w) (o + n) (simp (length-append, length-bits))) in
    let hi : w / 2 ^ (n + t) % 2 ^ o ≡ w / 2 ^ (n + t) = mod-eq_of_lt (shr_lt o (n + t) (rw e hw)) in
    sym
    (rw (ta, dt, spell-append 0 (a ++ x) (bits t w), spell-bits t (spell 0 (a ++ x)) w, spell-append 0 a x, spell-from (spell 0 a) x, length-take-le n s hs, spell-bits o 0 (w / 2 ^ (n + t)), hi)
    (omega arith))
