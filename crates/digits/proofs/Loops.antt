-- Laws: what a turn of each loop over digits and words does.
use Rattle.std.specs.Prelude.{◌≡◌, refl, ℕ, Option, Some, None, option_and_then, zero, suc, ◌+◌, ◌-◌, ◌*◌, ◌/◌, ◌%◌, ◌^◌, ◌≤◌, ◌<◌, length, take, drop, get_or, set}
use Rattle.std.proofs.Common.{sym, ap, ◌∙◌, add-one, arith, length-append, length-drop, length-take, take-append-drop, take-suc, take-suc-set, drop-cons, length-take-le, take_all, drop-drop}
use mathlib.Core.List.{List, [], ◌∷◌, ◌++◌, map, flatten, append-nil}
use Rattle.std.proofs.lemmas.List.{set_at}
use Rattle.std.proofs.Math.Nat.{mul-suc, mul-le-mul_left}
use Rattle.std.proofs.Math.Seq.{append_snoc, drop-length}
use borrow.Rule.Slice.PartMut.{mid_of, put_mid, mid_len}
use Rattle.lists.specs.Flatten.{flatten-append, map-append}
use Rattle.lists.specs.Part.{put}
use Rattle.lists.specs.PartLaws.{next-part}
use Rattle.digits.specs.Hex.{digit_of, hex_digit}
use Rattle.digits.specs.Digits.{hex_digits, spelt, spelt_words, all_spelt}
use Rattle.digits.proofs.DigitLaws.{pow_16, length_digits, length-digits_each, spelt_lt, all_known}

-- a list is copied to the front of another, one element after the other
pub copy_more : (D p : List ℕ) (i : ℕ) → i < length D → i < length p → set (take i D ++ drop i p) i (get_or D i 0) ≡ take (i + 1) D ++ drop (i + 1) p
copy_more D p i h g =
    rw (add-one, drop-cons p i 0 g, set_at (take i D) (get_or p i 0) (drop (suc i) p) (get_or D i 0) i (length-take-le i D (omega arith)), take-suc D i 0 h)
    (sym (append_snoc (take i D) (get_or D i 0) (drop (suc i) p)))

pub copy_all : (D p : List ℕ) (i : ℕ) → i ≡ length D → i ≡ length p → take i D ++ drop i p ≡ D
copy_all D p i h g = rw (take_all i D (omega arith), ap (λ (k : ℕ). drop k p) g, drop-length p) (append-nil D)

-- ---- digits

pub get_d_digits : (n x i : ℕ) → i < n → get_or (hex_digits n x) i 0 ≡ hex_digit (x / 2 ^ (4 * (n - 1 - i)) % 16)
unfolding hex_digits
get_d_digits zero x i h = absurd (omega arith)
get_d_digits (suc n) x zero h =
    let e : suc n - 1 - 0 ≡ n = omega arith in
    rw (e, ← pow_16 n)
get_d_digits (suc n) x (suc i) h =
    let e : suc n - 1 - suc i ≡ n - 1 - i = omega arith in
    rw e (get_d_digits n x i (omega arith))

-- ---- a part of a list is lent after what is written already, P

module _ (a e : ℕ) (P l l₀ ys : List ℕ) (p : length P ≡ a) (is : l ≡ P ++ drop a l₀) (lo : a ≤ e) (hi : e ≤ length l₀) where
  lent_length : length (mid_of a (e - a) l) ≡ e - a
  lent_length = mid_len a e l (rw (is, length-append, length-drop) (omega arith))

  pub lent-next : length ys ≡ e - a → put_mid a (e - a) l ys ≡ (P ++ ys) ++ drop e l₀
  lent-next h =
      let s : a + (e - a) ≡ e = omega arith in
      rw is (next-part a (e - a) P l₀ ys p ∙ ap (λ (m : ℕ). (P ++ ys) ++ drop m l₀) s)

  pub lent_digits : (n x : ℕ) → n ≡ e - a → ys ≡ hex_digits (length (mid_of a (e - a) l)) x → put_mid a (e - a) l ys ≡ (P ++ hex_digits n x) ++ drop e l₀
  lent_digits n x k h =
      let d : ys ≡ hex_digits n x = h ∙ ap (λ (m : ℕ). hex_digits m x) (lent_length ∙ sym k) in
      lent-next (ap length d ∙ length_digits n x ∙ k) ∙ ap (λ (q : List ℕ). (P ++ q) ++ drop e l₀) d

-- a part of n digits from a place on
pub lent-number : (a n : ℕ) (l ys : List ℕ) (x : ℕ) → a + n ≤ length l → ys ≡ hex_digits (length (mid_of a (a + n - a) l)) x
    → put_mid a (a + n - a) l ys ≡ put a n l (hex_digits n x)
lent-number a n l ys x h d =
    let s : a + n - a ≡ n = omega arith in
    let m : length (mid_of a (a + n - a) l) ≡ n = mid_len a (a + n) l h ∙ s in
    ap (put_mid a (a + n - a) l) (d ∙ ap (λ (k : ℕ). hex_digits k x) m) ∙ ap (λ (k : ℕ). put a k l (hex_digits n x)) s

-- ---- numbers as digits, n each

module _ (n : ℕ) (xs p : List ℕ) (i : ℕ) where
  length-digits_some : i ≤ length xs → length (flatten (map (hex_digits n) (take i xs))) ≡ n * i
  length-digits_some h = length-digits_each n (take i xs) ∙ ap (λ (m : ℕ). n * m) (length-take-le i xs h)

  pub digits_step : (l ys : List ℕ) → i < length xs → n * length xs ≤ length p → l ≡ flatten (map (hex_digits n) (take i xs)) ++ drop (n * i) p
      → ys ≡ hex_digits (length (mid_of (n * i) (n * i + n - n * i) l)) (get_or xs i 0)
      → put_mid (n * i) (n * i + n - n * i) l ys ≡ flatten (map (hex_digits n) (take (i + 1) xs)) ++ drop (n * (i + 1)) p
  unfolding mathlib.Core.List.flatten
  digits_step l ys h g is d =
      let m : n * (i + 1) ≡ n * i + n = rw (add-one, mul-suc n i) in
      let b : n * (i + 1) ≤ n * length xs = mul-le-mul_left n (omega arith) in
      let t : flatten (map (hex_digits n) (take (i + 1) xs)) ≡ flatten (map (hex_digits n) (take i xs)) ++ hex_digits n (get_or xs i 0) =
      rw (add-one, take-suc xs i 0 h, map-append, flatten-append, append-nil) in
      lent_digits (n * i) (n * i + n) (flatten (map (hex_digits n) (take i xs))) l p ys (length-digits_some (omega arith)) is (omega arith) (omega arith) n (get_or xs i 0)
      (omega arith) d
      ∙ ap (λ (k : ℕ). (flatten (map (hex_digits n) (take i xs)) ++ hex_digits n (get_or xs i 0)) ++ drop k p) (sym m)
      ∙ ap (λ (q : List ℕ). q ++ drop (n * (i + 1)) p) (sym t)

  pub digits-all : i ≡ length xs → flatten (map (hex_digits n) (take i xs)) ++ drop (n * i) p ≡ flatten (map (hex_digits n) xs) ++ drop (n * length xs) p
  digits-all e = rw (take_all i xs (omega arith), e)

-- ---- words from digits

pub get_d_spelt_words : (n : ℕ) (text : List ℕ) (i : ℕ) → i < n → get_or (spelt_words n text) i None ≡ spelt 0 (take 16 (drop (16 * i) text))
unfolding spelt_words
get_d_spelt_words zero text i h = absurd (omega arith)
get_d_spelt_words (suc n) text zero h = refl
get_d_spelt_words (suc n) text (suc i) h =
    let e : 16 * suc i ≡ 16 + 16 * i = omega arith in
    rw (e, ← drop-drop (16 * i) 16 text) (get_d_spelt_words n (drop 16 text) i (omega arith))

-- the number of a turn is the word of its place
pub turn : (n i : ℕ) (t : List ℕ) (o : Option ℕ) → i + 1 ≤ n → o ≡ spelt 0 (take (16 * i + 16 - 16 * i) (drop (16 * i) t)) → get_or (spelt_words n t) i None ≡ o
turn n i t o h e =
    let k : 16 * i + 16 - 16 * i ≡ 16 = omega arith in
    get_d_spelt_words n t i (omega arith) ∙ sym (e ∙ ap (λ (m : ℕ). spelt 0 (take m (drop (16 * i) t))) k)

-- word i is stored after those before it
pub word_more : (xs : List (Option ℕ)) (words : List ℕ) (i w : ℕ) → i < length xs → i < length words → take i xs ≡ map Some (take i words)
    → get_or xs i None ≡ Some w → take (i + 1) xs ≡ map Some (take (i + 1) (set words i w))
word_more xs words i w h g is e =
    rw (add-one, take-suc xs i None h, e, take-suc-set words i w g, map-append) (ap (λ (l : List (Option ℕ)). l ++ (Some w ∷ [])) is)

pub word-all : (xs : List (Option ℕ)) (words : List ℕ) (i : ℕ) → i ≡ length xs → i ≡ length words → take i xs ≡ map Some (take i words) → Some words ≡ all_spelt xs
word-all xs words i h g is =
    let e : xs ≡ map Some words = sym (take_all i xs (omega arith)) ∙ is ∙ ap (map Some) (take_all i words (omega arith)) in
    sym (ap all_spelt e ∙ all_known words)

-- ---- a number from digits

spelt-after : (m x : ℕ) (xs bs : List ℕ) → spelt m xs ≡ Some x → spelt m (xs ++ bs) ≡ spelt x bs
spelt-after m x [] bs e = let k : m ≡ x = cc in rw k
spelt-after m x (a ∷ xs) bs e = by (λ n. spelt-after (m * 16 + n) x xs bs) (digit_of a) e
  where
    by : ((n : ℕ) → spelt (m * 16 + n) xs ≡ Some x → spelt (m * 16 + n) (xs ++ bs) ≡ spelt x bs)
        → (d : Option ℕ) → option_and_then (λ (n : ℕ). spelt (m * 16 + n) xs) d ≡ Some x → option_and_then (λ (n : ℕ). spelt (m * 16 + n) (xs ++ bs)) d ≡ spelt x bs
    by more (Some n) e = more n e
    by more None e = cc

-- digit i comes after those that spelt x, or is refused
module _ (bs : List ℕ) (i x : ℕ) (h : i < length bs) (is : spelt 0 (take i bs) ≡ Some x) where
  pub digit-more : (v : ℕ) → digit_of (get_or bs i 0) ≡ Some v → spelt 0 (take (i + 1) bs) ≡ Some (x * 16 + v)
  digit-more v e = rw (add-one, take-suc bs i 0 h, spelt-after 0 x (take i bs) (get_or bs i 0 ∷ []) is, e)

  pub digit_none : digit_of (get_or bs i 0) ≡ None → spelt 0 bs ≡ None
  digit_none e =
      ap (spelt 0) (sym (take-append-drop i bs) ∙ ap (λ (l : List ℕ). take i bs ++ l) (drop-cons bs i 0 h))
      ∙ spelt-after 0 x (take i bs) (get_or bs i 0 ∷ drop (suc i) bs) is ∙ rw e

  pub digit-fits : length bs ≤ 16 → x * 16 < 2 ^ 64
  digit-fits g = let l : x < 2 ^ 60 = spelt_lt 15 x (take i bs) (rw length-take (omega arith)) is in omega arith

  pub digit-next-fits : (v : ℕ) → length bs ≤ 16 → digit_of (get_or bs i 0) ≡ Some v → x * 16 + v < 2 ^ 64
  digit-next-fits v g e = spelt_lt 16 (x * 16 + v) (take (i + 1) bs) (rw length-take (omega arith)) (digit-more v e)

-- the steps of `number`
pub ruleset number_steps = (digit-more, digit_none, digit-fits, digit-next-fits, take_all)
