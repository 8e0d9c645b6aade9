-- The mathematics of the crate's proofs: a copy, word by word; and the 89 words before a place of the buffer, which stay the last 89
-- words of the report's array A.
use mathlib.Core.Path.{◌≡◌, refl, sym, ap, ◌∙◌, subst}
use mathlib.Core.List.{List, map, [], ◌∷◌, ◌++◌}
use Prim.Native.Nat.{ℕ, zero, suc, ◌+◌, ◌-◌, ◌*◌, ◌/◌, ◌%◌, ◌≤◌, ◌<◌, zero-le}
use native.Mathlib.Nat.{zero-add, add-zero}
use native.Mathlib.Numerals.{add-one}
use native.Mathlib.Omega.{arith}
use lib.ListN.{length, get_or, set, take, drop, length-set, length-drop}
use lib.Seq.{paste, paste-suc, take-paste, drop-paste, take_all, get_or-take, get_or-drop, drop-drop, drop-cons, drop-set-add, take-suc, take-suc-set, length-take-le, drop-append-le, set_at}
use Rattle.std.proofs.lemmas.List.{get_or-map, length-map, append_assoc}
use Rattle.lists.specs.Take.{drop-take}
use Rattle.compress.specs.declared.Shifts.{Shifts}
use Rattle.compress.specs.Compress.{shifts_r, shifts_t, word, grown, compressed}
use Rattle.constants.specs.Constants.{S, RoundTable}
use Rattle.compress.proofs.CompressLaws.{length-grown, grown-zero, grown-suc}
use Rattle.compress.specs.Buffer.{new_word, put_at, put_round, before, after, Advances}

-- ---- a loop that copies s to the front of d

pub copy_more : (d s : List ℕ) (j : ℕ) → j < length d → j < length s → set (paste d 0 s j) j (get_or s j 0) ≡ paste d 0 s (j + 1)
copy_more d s j hd hs =
    rw add-one
    (subst (λ (k : ℕ). set (paste d 0 s j) k (get_or s j 0) ≡ paste d 0 s (suc j)) (zero-add j)
    (paste-suc d 0 s j 0 (omega (arith, zero-add j)) hs))

-- ---- a loop that moves the words from b on to the front, the last first

-- word k is moved before the m that were moved behind it
pub move_before : (d : List ℕ) (b k m : ℕ) → suc k + m ≤ b → b + (suc k + m) ≤ length d
    → (let P : List ℕ = paste d (suc k) (drop (b + suc k) d) m in set P k (get_or P (b + k) 0)) ≡ paste d k (drop (b + k) d) (suc m)
move_before d b k m low room =
    let x : ℕ = get_or d (b + k) 0 in
    let s : List ℕ = drop (b + suc k) d in
    let D : List ℕ = drop (suc k + m) d in
    let P : List ℕ = paste d (suc k) s m in
    let r : ℕ = b + k - (suc k + m) in
    let size : length s ≡ length d - (b + suc k) = length-drop (b + suc k) d in
    let past : suc k + m + r ≡ b + k = omega (arith, low) in
    let read : get_or P (b + k) 0 ≡ x =
    ap (λ (i : ℕ). get_or P i 0) (sym past)
    ∙ sym (get_or-drop (suc k + m) P r 0)
    ∙ ap (λ (l : List ℕ). get_or l r 0) (drop-paste d (suc k) s m (omega (arith, room)) (omega (arith, size, room)))
    ∙ get_or-drop (suc k + m) d r 0
    ∙ ap (λ (i : ℕ). get_or d i 0) past in
    let shape : P ≡ take k d ++ (get_or d k 0 ∷ (take m s ++ D)) =
    ap (λ (l : List ℕ). l ++ take m s ++ D) (take-suc d k 0 (omega (arith, room)))
    ∙ ap (λ (l : List ℕ). l ++ D) (append_assoc (take k d) (get_or d k 0 ∷ []) (take m s))
    ∙ append_assoc (take k d) (get_or d k 0 ∷ take m s) D in
    let next : suc (b + k) ≡ b + suc k = omega arith in
    let words : x ∷ s ≡ drop (b + k) d = ap (λ (i : ℕ). x ∷ drop i d) (sym next) ∙ sym (drop-cons d (b + k) 0 (omega (arith, room))) in
    let moved : suc k + m ≡ k + suc m = omega arith in
    ap (λ (v : ℕ). set P k v) read
    ∙ ap (λ (l : List ℕ). set l k x) shape
    ∙ set_at (take k d) (get_or d k 0) (take m s ++ D) x k (length-take-le k d (omega (arith, room)))
    ∙ sym (append_assoc (take k d) (x ∷ take m s) D)
    ∙ ap (λ (l : List ℕ). take k d ++ take (suc m) l ++ D) words
    ∙ ap (λ (i : ℕ). take k d ++ take (suc m) (drop (b + k) d) ++ drop i d) moved

-- ---- the window

length-put : (i s r t : ℕ) (xs : List ℕ) → length (put_at i s r t xs) ≡ length xs
unfolding put_at
length-put i s r t xs = simp length-set

pub length_round : (n i s : ℕ) (xs : List ℕ) → length (put_round n i s xs) ≡ length xs
unfolding put_round
length_round zero i s xs = refl
length_round (suc n) i s xs = length-put (i + n) s (get_or shifts_r n 0) (get_or shifts_t n 0) (put_round n i s xs) ∙ length_round n i s xs

-- a buffer xs whose 89 words before i are the last of the array A of 89 + t words
module _ (xs A : List ℕ) (i t : ℕ) (low : 89 ≤ i) (e : before i xs ≡ drop t A) where
  tap : (k : ℕ) → 0 < k → k ≤ 89 → get_or xs (i - k) 0 ≡ get_or A (89 + t - k) 0
  tap k h₀ h =
      ap (λ (m : ℕ). get_or xs m 0) (omega arith)
      ∙ sym (get_or-drop (i - 89) xs (89 - k) 0)
      ∙ sym (get_or-take 89 (drop (i - 89) xs) (89 - k) 0 (omega arith))
      ∙ ap (λ (l : List ℕ). get_or l (89 - k) 0) e
      ∙ get_or-drop t A (89 - k) 0
      ∙ ap (λ (m : ℕ). get_or A m 0) (omega arith)

  module _ (room : i < length xs) (size : length A ≡ 89 + t) where
    slide : (v : ℕ) → before (i + 1) (set xs i v) ≡ drop (suc t) (A ++ (v ∷ []))
    slide v =
        let b : ℕ = i - 89 in
        let q : t + 1 ≡ suc t = omega arith in
        let i₁ : i + 1 - 89 ≡ suc b = omega arith in
        let i₀ : i ≡ suc b + 88 = omega arith in
        let rest : take 88 (drop (suc b) xs) ≡ drop (suc t) A =
        ap (drop 1) (sym (ap (take 89) (drop-cons xs b 0 (omega arith)))) ∙ ap (drop 1) e ∙ drop-drop 1 t A ∙ ap (λ (k : ℕ). drop k A) q in
        ap (λ (k : ℕ). take 89 (drop k (set xs i v))) i₁
        ∙ ap (λ (k : ℕ). take 89 (drop (suc b) (set xs k v))) i₀
        ∙ ap (take 89) (drop-set-add (suc b) xs 88 v)
        ∙ take-suc-set (drop (suc b) xs) 88 v (omega (arith, length-drop (suc b) xs))
        ∙ ap (λ (l : List ℕ). l ++ (v ∷ [])) rest
        ∙ sym (drop-append-le (suc t) A (v ∷ []) (omega arith))

    put-window : (s r l : ℕ) → s ≡ S (t / 16) → r ≡ get_or shifts_r (t % 16) 0 → l ≡ get_or shifts_t (t % 16) 0
        → before (i + 1) (put_at i s r l xs) ≡ drop (suc t) (A ++ (word (89 + t) A ∷ []))
    unfolding put_at new_word word
    put-window s r l hs hr hl =
        let z : 89 + t - 89 ≡ t = omega arith in
        slide _ ∙ ap (λ (v : ℕ). drop (suc t) (A ++ (v ∷ [])))
        (rw (
          tap 17 (omega arith) (omega arith),
          tap 89 (omega arith) (omega arith),
          tap 18 (omega arith) (omega arith),
          tap 21 (omega arith) (omega arith),
          tap 31 (omega arith) (omega arith),
          tap 67 (omega arith) (omega arith),
          z,
          hs,
          hr,
          hl,
        ))

-- ---- a round: the 89 words before place i are those after q rounds on the window N, and n more steps are made

module _ (N xs : List ℕ) (i q : ℕ) (size : length N ≡ 89) (low : 89 ≤ i) (room : i + 16 ≤ length xs) (e : before i xs ≡ after (16 * q) N) where
  steps : (n : ℕ) → n ≤ 16 → before (i + n) (put_round n i (S q) xs) ≡ after (16 * q + n) N
  unfolding put_round
  steps zero h = rw (add-zero i, add-zero (16 * q)) e
  steps (suc n) h =
      let t : ℕ = 16 * q + n in
      let ys : List ℕ = put_round n i (S q) xs in
      let so_far : before (i + n) ys ≡ after t N = steps n (omega arith) in
      let long : length ys ≡ length xs = length_round n i (S q) xs in
      let quo : t / 16 ≡ q = omega arith in
      let rem : t % 16 ≡ n = omega arith in
      let i₁ : i + suc n ≡ i + n + 1 = omega arith in
      let t₁ : 16 * q + suc n ≡ suc t = omega arith in
      ap (λ (k : ℕ). before k (put_round (suc n) i (S q) xs)) i₁
      ∙ put-window ys (grown t N) (i + n) t (omega arith) so_far (omega arith) (length-grown t N size) (S q) (get_or shifts_r n 0) (get_or shifts_t n 0)
      (ap S (sym quo)) (ap (λ (k : ℕ). get_or shifts_r k 0) (sym rem)) (ap (λ (k : ℕ). get_or shifts_t k 0) (sym rem))
      ∙ ap (drop (suc t)) (sym (grown-suc t N))
      ∙ ap (λ (k : ℕ). after k N) (sym t₁)

  pub round_window : before (i + 16) (put_round 16 i (S q) xs) ≡ after (16 * (q + 1)) N
  round_window =
      let t₁ : 16 * q + 16 ≡ 16 * (q + 1) = omega arith in
      steps 16 (omega arith) ∙ ap (λ (k : ℕ). after k N) t₁

-- the buffer begins with the window: no round is done
pub loaded : (d N : List ℕ) → length N ≡ 89 → before 89 (paste d 0 N 89) ≡ after (16 * 0) N
loaded d N size = take-paste d 0 N 89 zero-le (omega arith) ∙ take_all 89 N (omega arith) ∙ rw grown-zero

-- the number of rounds that are done, in other words
pub reworded : {lanes p q r i k : ℕ} {xs ys : List ℕ} → q ≡ r → Advances lanes p q i xs k ys → Advances lanes p r i xs k ys
reworded {lanes} {p} {q} {r} {i} {k} {xs} {ys} e f = subst (λ (m : ℕ). Advances lanes p m i xs k ys) e f

-- rounds after rounds
pub onward : {lanes p q r i m k : ℕ} {xs ys zs : List ℕ} → Advances lanes p q i xs m ys → Advances lanes q r m ys k zs
    → Advances lanes p r i xs k zs
onward f g = record { rule = λ j h N size e. g.rule j h N size (f.rule j h N size e) }

-- ---- the output: the 16 words before place i

pub last-words : (N xs : List ℕ) (i r : ℕ) → 89 ≤ i → before i xs ≡ after (16 * r) N → take 16 (drop (i - 16) xs) ≡ compressed r N
unfolding compressed
last-words N xs i r low e =
    let A : List ℕ = grown (16 * r) N in
    let i₁ : i - 16 ≡ i - 89 + 73 = omega arith in
    ap (λ (k : ℕ). take 16 (drop k xs)) i₁
    ∙ ap (take 16) (sym (drop-drop 73 (i - 89) xs))
    ∙ sym (drop-take 73 16 (drop (i - 89) xs))
    ∙ ap (drop 73) e
    ∙ drop-drop 73 (16 * r) A

-- ---- the shifts that stand at place j of a list, where the list's are document 01's

pub record AreShifts (xs : List Shifts) : Type 0 where
  pub right : map (λ (s : Shifts). s.r) xs ≡ shifts_r
  pub left : map (λ (s : Shifts). s.l) xs ≡ shifts_t

pub shifts_at : {xs : List Shifts} → AreShifts xs → (j : ℕ) (s : Shifts) → j < 16
    → ((get_or xs j s).r ≡ get_or shifts_r j 0) × ((get_or xs j s).l ≡ get_or shifts_t j 0)
shifts_at {xs} are j s low =
    let h : j < length xs = omega (arith, length-map xs (λ (s : Shifts). s.r), ap length are.right) in (
      sym (get_or-map (λ (s : Shifts). s.r) xs j s 0 h) ∙ ap (λ (l : List ℕ). get_or l j 0) are.right,
      sym (get_or-map (λ (s : Shifts). s.l) xs j s 0 h) ∙ ap (λ (l : List ℕ). get_or l j 0) are.left,
    )

-- ---- the first constants of a part are the constants of as many rounds

pub first_constants : (q n : ℕ) (part : List ℕ) → n ≤ length part → RoundTable q part → RoundTable q (take n part)
first_constants q n part h t = record {
  rule = λ j l.
      let low : j < n = omega (arith, length-take-le n part h) in
      get_or-take n part j 0 low ∙ t.rule j (omega arith);
}
