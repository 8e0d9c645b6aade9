-- The mathematics of lanes: what a store to the buffer, and the move of its last words to its front, do to each of them.
use mathlib.Core.Path.{◌≡◌, refl, sym, ap, ◌∙◌}
use mathlib.Core.Logic.{◌≢◌}
use mathlib.Core.Bool.{Bool, true, false}
use mathlib.Core.List.{List}
use Prim.Native.Nat.{ℕ, zero, suc, ◌+◌, ◌-◌, ◌*◌, ◌≤◌, ◌<◌, zero-le}
use native.Mathlib.Nat.{zero-add}
use native.Mathlib.Numerals.{add-one}
use native.Mathlib.Omega.{arith}
use borrow.Author.Tests.{eqb-true, eqb-false}
use lib.Dec.{eqb}
use lib.ListN.{length, get_or, set, take, drop, length-set, length-drop}
use lib.Seq.{paste, take-paste, ext_get_or, get_or-take, get_or-drop, get_or-set_same, get_or-set_other, length-take-le}
use Rattle.compress.specs.Compress.{shifts_r, shifts_t}
use Rattle.compress.specs.Buffer.{new_word, put_at, put_round, before, apart, lane, Lanes, Sized}

-- ---- the words of a lane

pub length-apart : (lanes j n : ℕ) (xs : List ℕ) → length (apart lanes j n xs) ≡ n
unfolding apart
length-apart lanes j zero xs = refl
length-apart lanes j (suc n) xs = ap suc (length-apart lanes (j + lanes) n xs)

get_d_apart : (lanes j n : ℕ) (xs : List ℕ) (i : ℕ) → i < n → get_or (apart lanes j n xs) i 0 ≡ get_or xs (lanes * i + j) 0
unfolding apart
get_d_apart lanes j zero xs i h = absurd (omega arith)
get_d_apart lanes j (suc n) xs zero h = ap (λ (k : ℕ). get_or xs k 0) (omega arith)
get_d_apart lanes j (suc n) xs (suc i) h =
    get_d_apart lanes (j + lanes) n xs i (omega arith) ∙ ap (λ (k : ℕ). get_or xs k 0) (omega arith)

pub get_d_lane : (lanes j i : ℕ) (xs : List ℕ) → i < 345 → get_or (lane lanes j xs) i 0 ≡ get_or xs (lanes * i + j) 0
get_d_lane lanes j i xs h = get_d_apart lanes j 345 xs i h

-- lists of 345 words that agree word by word
agree : (xs ys : List ℕ) → length xs ≡ 345 → length ys ≡ 345 → ((i : ℕ) → i < 345 → get_or xs i 0 ≡ get_or ys i 0) → xs ≡ ys
agree xs ys hx hy f = ext_get_or 0 xs ys (hx ∙ sym hy) (λ i h. f i (omega arith))

-- ---- places, in a buffer of one lane or two

-- a place of a lane, among so many words of each lane
within : (lanes j i n : ℕ) → lanes ≤ 2 → j < lanes → i < n → lanes * i + j < lanes * n
within zero j i n h l m = absurd (omega arith)
within (suc zero) j i n h l m = omega arith
within (suc (suc zero)) j i n h l m = omega arith
within (suc (suc (suc lanes))) j i n h l m = absurd (omega arith)

-- words at one place are the same word of the same lane
one-place : (lanes j i m k : ℕ) → lanes ≤ 2 → j < lanes → m < lanes → lanes * i + j ≡ lanes * k + m → (j ≡ m) × (i ≡ k)
one-place zero j i m k h l r e = absurd (omega arith)
one-place (suc zero) j i m k h l r e = (omega arith, omega arith)
one-place (suc (suc zero)) j i m k h l r e = (omega arith, omega arith)
one-place (suc (suc (suc lanes))) j i m k h l r e = absurd (omega arith)

-- the place so many words before
back : (lanes j i k : ℕ) → k ≤ i → lanes ≤ 2 → lanes * i + j - lanes * k ≡ lanes * (i - k) + j
back zero j i k h l = omega arith
back (suc zero) j i k h l = omega arith
back (suc (suc zero)) j i k h l = omega arith
back (suc (suc (suc lanes))) j i k h l = absurd (omega arith)

-- ---- a store to a lane

module _ (lanes : ℕ) (xs : List ℕ) (sized : Sized lanes xs) (j i v : ℕ) (low : j < lanes) (room : i < 345) where
  stored : (k : ℕ) → k < 345 → (b : Bool) → eqb k i ≡ b
      → get_or (lane lanes j (set xs (lanes * i + j) v)) k 0 ≡ get_or (set (lane lanes j xs) i v) k 0
  stored k h true e =
      let same : k ≡ i = eqb-true k i e in
      let there : lanes * i + j < length xs = omega (arith, within lanes j i 345 sized.1 low room) in
      get_d_lane lanes j k (set xs (lanes * i + j) v) h
      ∙ ap (λ (m : ℕ). get_or (set xs (lanes * i + j) v) (lanes * m + j) 0) same
      ∙ get_or-set_same xs (lanes * i + j) v 0 there
      ∙ sym (get_or-set_same (lane lanes j xs) i v 0 (omega (arith, length-apart lanes j 345 xs)))
      ∙ ap (λ (m : ℕ). get_or (set (lane lanes j xs) i v) m 0) (sym same)
  stored k h false e =
      let other : k ≢ i = eqb-false k i e in
      get_d_lane lanes j k (set xs (lanes * i + j) v) h
      ∙ get_or-set_other xs (lanes * i + j) (lanes * k + j) v 0 (λ q. other (one-place lanes j k j i sized.1 low low q).1)
      ∙ sym (get_d_lane lanes j k xs h)
      ∙ sym (get_or-set_other (lane lanes j xs) i k v 0 other)

  pub store : lane lanes j (set xs (lanes * i + j) v) ≡ set (lane lanes j xs) i v
  store =
      agree (lane lanes j (set xs (lanes * i + j) v)) (set (lane lanes j xs) i v)
      (length-apart lanes j 345 _) (length-set (lane lanes j xs) i v ∙ length-apart lanes j 345 xs)
      (λ k h. stored k h (eqb k i) refl)

  pub store_beside : (m : ℕ) → m < lanes → m ≢ j → lane lanes m (set xs (lanes * i + j) v) ≡ lane lanes m xs
  store_beside m h other =
      agree (lane lanes m (set xs (lanes * i + j) v)) (lane lanes m xs) (length-apart lanes m 345 _) (length-apart lanes m 345 xs)
      (λ k l.
      get_d_lane lanes m k (set xs (lanes * i + j) v) l
      ∙ get_or-set_other xs (lanes * i + j) (lanes * k + m) v 0 (λ q. other (one-place lanes m k j i sized.1 h low q).0)
      ∙ sym (get_d_lane lanes m k xs l))

-- ---- a step in a lane

module _ (lanes : ℕ) (xs : List ℕ) (two : lanes ≤ 2) (j i s r t : ℕ) (low : 89 ≤ i) (room : i < 345) where
  tap : (k : ℕ) → k ≤ 89 → get_or xs (lanes * i + j - lanes * k) 0 ≡ get_or (lane lanes j xs) (i - k) 0
  tap k h =
      ap (λ (m : ℕ). get_or xs m 0) (back lanes j i k (omega arith) two) ∙ sym (get_d_lane lanes j (i - k) xs (omega arith))

  pub new_word_lem : new_word lanes (lanes * i + j) s r t xs ≡ new_word 1 i s r t (lane lanes j xs)
  unfolding new_word
  new_word_lem =
      rw (
        tap 17 (omega arith),
        tap 89 (omega arith),
        tap 18 (omega arith),
        tap 21 (omega arith),
        tap 31 (omega arith),
        tap 67 (omega arith),
      )

-- word i made in one more lane
module _ (lanes j i s r t : ℕ) (xs ys : List ℕ) (sized : Sized lanes ys) (low : j < lanes) (from : 89 ≤ i) (room : i < 345)
    (made : (k : ℕ) → k < j → k < lanes → lane lanes k ys ≡ put_at i s r t (lane lanes k xs))
    (kept : (k : ℕ) → j ≤ k → k < lanes → lane lanes k ys ≡ lane lanes k xs) where
  module _ (v : ℕ) (e : v ≡ new_word lanes (lanes * i + j) s r t ys) where
    this-lane : lane lanes j (set ys (lanes * i + j) v) ≡ put_at i s r t (lane lanes j xs)
    unfolding put_at
    this-lane =
        store lanes ys sized j i v low room
        ∙ ap (set (lane lanes j ys) i) (e ∙ new_word_lem lanes ys sized.1 j i s r t from room)
        ∙ ap (λ (l : List ℕ). set l i (new_word 1 i s r t l)) (kept j (omega arith) low)

    made-lane : (k : ℕ) → k < j + 1 → k < lanes → (b : Bool) → eqb k j ≡ b
        → lane lanes k (set ys (lanes * i + j) v) ≡ put_at i s r t (lane lanes k xs)
    made-lane k h l true q =
        let same : k ≡ j = eqb-true k j q in
        rw same this-lane
    made-lane k h l false q =
        let other : k ≢ j = eqb-false k j q in
        store_beside lanes ys sized j i v low room k l other ∙ made k (omega arith) l

    pub put_lane : (k : ℕ) → k < j + 1 → k < lanes → lane lanes k (set ys (lanes * i + j) v) ≡ put_at i s r t (lane lanes k xs)
    put_lane k h l = made-lane k h l (eqb k j) refl

    pub leave_lane : (k : ℕ) → j + 1 ≤ k → k < lanes → lane lanes k (set ys (lanes * i + j) v) ≡ lane lanes k xs
    leave_lane k h l = store_beside lanes ys sized j i v low room k l (λ q. absurd (omega arith)) ∙ kept k (omega arith) l

-- one more word of a round
pub put_next : (lanes m i s r t : ℕ) (xs ys zs : List ℕ) → Lanes lanes (put_round m i s) xs ys → Lanes lanes (put_at (i + m) s r t) ys zs
    → (r ≡ get_or shifts_r m 0) × (t ≡ get_or shifts_t m 0) → Lanes lanes (put_round (m + 1) i s) xs zs
unfolding put_round
put_next lanes m i s r t xs ys zs f g by j h = g j h ∙ rw (add-one, by.0, by.1, f j h)

-- ---- the last 89 words of each lane, moved to the front

module _ (lanes : ℕ) (xs : List ℕ) (sized : Sized lanes xs) (j : ℕ) (low : j < lanes) where
  moved : (i : ℕ) → i < 89
      → get_or (lane lanes j (paste xs 0 (drop (lanes * 256) xs) (lanes * 89))) i 0 ≡ get_or (drop 256 (lane lanes j xs)) i 0
  moved i h =
      let n : ℕ = lanes * 89 in
      let tail : List ℕ = drop (lanes * 256) xs in
      let ys : List ℕ = paste xs 0 tail n in
      let p : ℕ = lanes * i + j in
      let there : p < n = within lanes j i 89 sized.1 low h in
      let front : take n ys ≡ take n tail = ap (λ (k : ℕ). take k ys) (sym (zero-add n)) ∙ take-paste xs 0 tail n zero-le (rw length-drop (omega arith)) in
      get_d_lane lanes j i ys (omega arith)
      ∙ sym (get_or-take n ys p 0 there)
      ∙ ap (λ (l : List ℕ). get_or l p 0) front
      ∙ get_or-take n tail p 0 there
      ∙ get_or-drop (lanes * 256) xs p 0
      ∙ ap (λ (k : ℕ). get_or xs k 0) (omega arith)
      ∙ sym (get_d_lane lanes j (256 + i) xs (omega arith))
      ∙ sym (get_or-drop 256 (lane lanes j xs) i 0)

  pub move_lane : before 89 (lane lanes j (paste xs 0 (drop (lanes * 256) xs) (lanes * 89))) ≡ before 345 (lane lanes j xs)
  move_lane =
      let ys : List ℕ = lane lanes j (paste xs 0 (drop (lanes * 256) xs) (lanes * 89)) in
      let zs : List ℕ = drop 256 (lane lanes j xs) in
      let y : length (take 89 ys) ≡ 89 = length-take-le 89 ys (omega (arith, length-apart lanes j 345 (paste xs 0 (drop (lanes * 256) xs) (lanes * 89)))) in
      let z : length (take 89 zs) ≡ 89 = length-take-le 89 zs (rw length-drop (omega (arith, length-apart lanes j 345 xs))) in
      ext_get_or 0 (take 89 ys) (take 89 zs) (y ∙ sym z)
      (λ i h.
      get_or-take 89 ys i 0 (omega arith) ∙ moved i (omega arith) ∙ sym (get_or-take 89 zs i 0 (omega arith)))
