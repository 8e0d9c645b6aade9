-- Laws: of digits: what is written as digits is read back, and what is read has its bound.
use Rattle.std.specs.Prelude.{◌≡◌, refl, ℕ, Option, Some, None, option_and_then, zero, suc, ◌+◌, ◌*◌, ◌/◌, ◌%◌, ◌^◌, ◌≤◌, ◌<◌, length, take, drop, get_or}
use Rattle.std.proofs.Common.{sym, ap, ◌∙◌, mod-eq_of_lt, lt_of_lt_of_le, pow-suc, arith, pow-add, pow_mono, length-append, length-take, take-append-drop, take_at, drop_at, drop-cons}
use mathlib.Core.List.{List, [], ◌∷◌, ◌++◌, map, flatten, append_assoc}
use Rattle.std.proofs.lemmas.Nat.{mod-pow-add}
use Rattle.std.proofs.Math.Nat.{mul-suc}
use Rattle.lists.specs.Append.{cons_eq}
use Rattle.lists.specs.Below.{Below}
use Rattle.digits.specs.Hex.{digit_of}
use Rattle.digits.proofs.HexLaws.{digit_of_hex, hex_of_digit}
use Rattle.digits.specs.Digits.{hex_digits, word_digits, spelt, spelt_words, with_word, all_spelt, bytes_of}

-- a digit is four bits
pub pow_16 : (n : ℕ) → 16 ^ n ≡ 2 ^ (4 * n)
pow_16 zero = refl
pow_16 (suc n) =
    let e : 4 * suc n ≡ 4 + 4 * n = omega arith in
    rw (e, pow-add 2 4 (4 * n), ← pow_16 n) (omega arith)

-- ---- digits of a number

pub length_digits : (n x : ℕ) → length (hex_digits n x) ≡ n
unfolding hex_digits
length_digits zero x = refl
length_digits (suc n) x = ap suc (length_digits n x)

mod_16 : (x n : ℕ) → x % 16 ^ suc n ≡ x / 16 ^ n % 16 * 16 ^ n + x % 16 ^ n
mod_16 x n =
    let e : 4 * suc n ≡ 4 + 4 * n = omega arith in
    rw (pow_16 (suc n), pow_16 n, e) (mod-pow-add x 4 (4 * n))

spelt_digits : (n m x : ℕ) → spelt m (hex_digits n x) ≡ Some (m * 16 ^ n + x % 16 ^ n)
unfolding hex_digits
spelt_digits zero m x = ap {B = Option ℕ} Some (omega arith)
spelt_digits (suc n) m x =
    let b : ℕ = x / 16 ^ n % 16 in
    let e : (m * 16 + b) * 16 ^ n + x % 16 ^ n ≡ m * 16 ^ suc n + x % 16 ^ suc n = rw (mod_16 x n, pow-suc 16 n) (omega arith) in
    rw (digit_of_hex b (omega arith)) (spelt_digits n (m * 16 + b) x ∙ ap {B = Option ℕ} Some e)

-- a number that fits its digits is read back
pub digits_back : (n x : ℕ) → x < 16 ^ n → spelt 0 (hex_digits n x) ≡ Some x
digits_back n x h = spelt_digits n 0 x ∙ ap {B = Option ℕ} Some (omega (arith, mod-eq_of_lt h))

pub take_digits : (n x : ℕ) (rest : List ℕ) → take n (hex_digits n x ++ rest) ≡ hex_digits n x
take_digits n x rest = take_at (hex_digits n x) rest n (length_digits n x)

pub drop_digits : (n x : ℕ) (rest : List ℕ) → drop n (hex_digits n x ++ rest) ≡ rest
drop_digits n x rest = drop_at (hex_digits n x) rest n (length_digits n x)

-- ---- the number that digits spell is bounded by their number

spelt_bound : (p x v : ℕ) (bs : List ℕ) → x < p → spelt x bs ≡ Some v → v < p * 16 ^ length bs
spelt_bound p x v [] h e = let k : x ≡ v = cc in omega arith
spelt_bound p x v (b ∷ bs) h e = by (λ n. spelt_bound (p * 16) (x * 16 + n) v bs) (digit_of b) refl e
  where
    by : ((n : ℕ) → x * 16 + n < p * 16 → spelt (x * 16 + n) bs ≡ Some v → v < p * 16 * 16 ^ length bs)
        → (d : Option ℕ) → digit_of b ≡ d → option_and_then (λ (n : ℕ). spelt (x * 16 + n) bs) d ≡ Some v → v < p * 16 ^ suc (length bs)
    by more (Some n) f e =
        let k : n < 16 = (hex_of_digit b n f).0 in
        let q : p * 16 ^ suc (length bs) ≡ p * 16 * 16 ^ length bs = rw (pow-suc 16 (length bs)) (omega arith) in
        rw q (more n (omega arith) e)
    by more None f e = cc

pub spelt_lt : (n v : ℕ) (bs : List ℕ) → length bs ≤ n → spelt 0 bs ≡ Some v → v < 2 ^ (4 * n)
spelt_lt n v bs h e =
    let s : v < 1 * 16 ^ length bs = spelt_bound 1 0 v bs (omega arith) e in
    let p : 1 * 16 ^ length bs ≡ 2 ^ (4 * length bs) = rw (pow_16 (length bs)) (omega arith) in
    lt_of_lt_of_le (rw p at s) (pow_mono (omega arith))

-- ---- words that are spelt, one by one and all together

-- all are spelt if each is
pub all_known : (ws : List ℕ) → all_spelt (map Some ws) ≡ Some ws
all_known [] = refl
all_known (w ∷ ws) = rw (all_known ws)

-- and only then
pub known_all : (xs : List (Option ℕ)) (ws : List ℕ) → all_spelt xs ≡ Some ws → xs ≡ map Some ws
known_all [] [] e = refl
known_all [] (w ∷ ws) e = cc
known_all (x ∷ xs) ws e = by x (all_spelt xs) (known_all xs) e
  where
    by : (y : Option ℕ) (o : Option (List ℕ)) → ((vs : List ℕ) → o ≡ Some vs → xs ≡ map Some vs) → with_word y o ≡ Some ws → y ∷ xs ≡ map Some ws
    by None o more e = cc
    by (Some w) None more e = cc
    by (Some w) (Some vs) more e =
        let k : w ∷ vs ≡ ws = cc in
        rw (← k) (cons_eq refl (more vs refl))

-- words that are known stay in front of those that are spelt after them
pub known_front : (ws vs : List ℕ) (xs : List (Option ℕ)) → all_spelt (map Some ws ++ xs) ≡ Some vs → take (length ws) vs ≡ ws
known_front [] vs xs e = refl
known_front (w ∷ ws) vs xs e = by (all_spelt (map Some ws ++ xs)) (λ us. known_front ws us xs) e
  where
    by : (o : Option (List ℕ)) → ((us : List ℕ) → o ≡ Some us → take (length ws) us ≡ ws) → with_word (Some w) o ≡ Some vs → take (suc (length ws)) vs ≡ w ∷ ws
    by None more e = cc
    by (Some us) more e =
        let k : w ∷ us ≡ vs = cc in
        rw (← k) (cons_eq refl (more us refl))

-- a refused one refuses all
prepend_none : (x : Option ℕ) → with_word x None ≡ None
prepend_none None = refl
prepend_none (Some w) = refl

pub all-part : (xs ys zs : List (Option ℕ)) → all_spelt ys ≡ None → all_spelt (xs ++ (ys ++ zs)) ≡ None
all-part [] [] zs e = cc
all-part [] (y ∷ ys) zs e = by y (all_spelt ys) (all-part [] ys zs) e
  where
    by : (x : Option ℕ) (o : Option (List ℕ)) → (o ≡ None → all_spelt (ys ++ zs) ≡ None) → with_word x o ≡ None → with_word x (all_spelt (ys ++ zs)) ≡ None
    by None o more e = refl
    by (Some w) None more e = rw (more refl)
    by (Some w) (Some vs) more e = cc
all-part (x ∷ xs) ys zs e = rw (all-part xs ys zs e) (prepend_none x)

pub all-at : (xs : List (Option ℕ)) (i : ℕ) → i < length xs → get_or xs i None ≡ None → all_spelt xs ≡ None
all-at xs i h e =
    ap all_spelt (sym (take-append-drop i xs) ∙ ap (λ (l : List (Option ℕ)). take i xs ++ l) (drop-cons xs i None h))
    ∙ all-part (take i xs) (get_or xs i None ∷ []) (drop (suc i) xs) (rw e)

-- what is spelt fits 64 bits
pub data Fits : List (Option ℕ) → Type 0 where
  no_word : Fits []
  one_more : {o : Option ℕ} {xs : List (Option ℕ)} → ((v : ℕ) → o ≡ Some v → v < 2 ^ 64) → Fits xs → Fits (o ∷ xs)

pub fits-append : {xs ys : List (Option ℕ)} → Fits xs → Fits ys → Fits (xs ++ ys)
fits-append no_word g = g
fits-append (one_more h f) g = one_more h (fits-append f g)

pub fits_below : (xs : List (Option ℕ)) (ws : List ℕ) → Fits xs → xs ≡ map Some ws → Below (2 ^ 64) ws
fits_below xs [] f e = Below.none
fits_below [] (w ∷ ws) f e = cc
fits_below (x ∷ xs) (w ∷ ws) (one_more h f) e = Below.more (h w (cc)) (fits_below xs ws f (cc))

-- ---- words

-- n digits for each number
pub length-digits_each : (n : ℕ) (xs : List ℕ) → length (flatten (map (hex_digits n) xs)) ≡ n * length xs
unfolding mathlib.Core.List.flatten
length-digits_each n [] = omega arith
length-digits_each n (x ∷ xs) = rw (length-append, length_digits n x, length-digits_each n xs, mul-suc n (length xs)) (omega arith)

pub length-word_digits : (ws : List ℕ) → length (word_digits ws) ≡ 16 * length ws
length-word_digits ws = length-digits_each 16 ws

pub length-spelt_words : (n : ℕ) (text : List ℕ) → length (spelt_words n text) ≡ n
unfolding spelt_words
length-spelt_words zero text = refl
length-spelt_words (suc n) text = ap suc (length-spelt_words n (drop 16 text))

pub spelt_words-fits : (n : ℕ) (text : List ℕ) → Fits (spelt_words n text)
unfolding spelt_words
spelt_words-fits zero text = no_word
spelt_words-fits (suc n) text = one_more (λ v. spelt_lt 16 v (take 16 text) (rw length-take (omega arith))) (spelt_words-fits n (drop 16 text))

-- words are read back
words_back : {ws : List ℕ} (rest : List ℕ) → Below (2 ^ 64) ws → spelt_words (length ws) (word_digits ws ++ rest) ≡ map Some ws
unfolding spelt_words mathlib.Core.List.flatten
words_back rest Below.none = refl
words_back rest (Below.more {w = w} {ws = ws} h hs) =
    let a = append_assoc (hex_digits 16 w) (word_digits ws) rest in
    rw (a, take_digits 16 w (word_digits ws ++ rest), drop_digits 16 w (word_digits ws ++ rest))
    (cons_eq (digits_back 16 w h) (words_back rest hs))

pub words-exact : (n : ℕ) {ws : List ℕ} (rest : List ℕ) → Below (2 ^ 64) ws → length ws ≡ n → spelt_words n (word_digits ws ++ rest) ≡ map Some ws
words-exact n {ws} rest h e = rw (← e) (words_back rest h)

-- ---- bytes

-- two digits a byte: an odd count of digits spells no bytes
pub length-bytes_of : (ds bs : List ℕ) → bytes_of ds ≡ Some bs → length ds ≡ 2 * length bs
length-bytes_of [] bs e = let k : [] ≡ bs = cc in rw (← k)
length-bytes_of (a ∷ []) bs e = cc
length-bytes_of (a ∷ b ∷ ds) bs e = by (spelt 0 (a ∷ b ∷ [])) (bytes_of ds) (length-bytes_of ds) e
  where
    by : (x : Option ℕ) (o : Option (List ℕ)) → ((vs : List ℕ) → o ≡ Some vs → length ds ≡ 2 * length vs) → with_word x o ≡ Some bs
        → suc (suc (length ds)) ≡ 2 * length bs
    by None o more e = cc
    by (Some w) None more e = cc
    by (Some w) (Some vs) more e =
        let k : w ∷ vs ≡ bs = cc in
        rw (← k) (omega (arith, more vs refl))
