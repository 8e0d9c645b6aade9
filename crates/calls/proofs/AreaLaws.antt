-- Laws: the words of an area and what they stand for: head, levels and tail are read back as they were written.
use Rattle.std.specs.Prelude.{◌≡◌, refl, Bool, true, false, ◌&&◌, ℕ, zero, suc, ◌+◌, ◌-◌, ◌*◌, ◌^◌, ◌≤◌, ◌<◌, ltb, length, take, get_or, set, replicate}
use Rattle.std.proofs.Common.{sym, subst, ap, ◌∙◌, arith, ltb-true, ltb-false, length-take, length-set, take-append-drop, drop_at, get_or-take, drop-set-lt, get_or-set_same, get_or-set_other, length-take-le}
use mathlib.Core.List.{List, [], ◌∷◌, ◌++◌, append_assoc, append-nil, flatten}
use Rattle.std.proofs.Math.ListN.{drop, length-append, length-drop}
use Rattle.std.proofs.lemmas.List.{replicate-append-replicate, drop-append-le, take-append-le, take-set-le, drop-set-add}
use Rattle.std.proofs.Math.Seq.{take_at}
use Rattle.lists.specs.Append.{cons_eq}
use Rattle.lists.specs.Below.{Below}
use Rattle.bits.specs.Bits.{bits_of, numbers}
use Rattle.bits.specs.BitsLaws.{length-bits_of, length-numbers, bits_of-append, bits_of-zeros, bits_of-numbers, numbers-bits_of}
use Rattle.tree.specs.Tree.{key_words}
use Rattle.tree.proofs.TreeLaws.{key-bits}
pub use Rattle.tree.proofs.TreeLaws.{key_back}
use Rattle.calls.specs.Area.{head_words, block_words, k_of, compressions_of, params_of, own_levels, own_words, level_words, levels_from, levels_of, with_levels, empty_level, empty_levels, all_false, level_start, levels_up, Long}
use Rattle.calls.proofs.Rows.{AllLen, length-flatten}

-- ---- how many levels there are, and of how many words

pub length-levels_from : (area : List ℕ) (n k : ℕ) → length (levels_from area n k) ≡ n
length-levels_from area zero k = refl
length-levels_from area (suc n) k = ap suc (length-levels_from area n (suc k))

pub length-levels_of : (area : List ℕ) → length (levels_of area) ≡ own_levels area
unfolding levels_of
length-levels_of area = length-levels_from area (own_levels area) 1

pub length-level_words : (area : List ℕ) (k : ℕ) → Long area → k ≤ own_levels area → length (level_words area k) ≡ block_words
length-level_words area k h g = simp (length-take, length-drop) (omega arith)

pub levels_up-cons : (area : List ℕ) (k : ℕ) → k ≤ own_levels area → levels_up area k ≡ level_words area k ∷ levels_up area (k + 1)
levels_up-cons area k h =
    let e : own_levels area + 1 - k ≡ suc (own_levels area + 1 - (k + 1)) = omega arith in
    let q : k + 1 ≡ suc k = omega arith in
    rw (e, q)

pub levels_up_none : (area : List ℕ) (k : ℕ) → own_levels area < k → levels_up area k ≡ []
levels_up_none area k h = let e : own_levels area + 1 - k ≡ 0 = omega arith in rw e

-- there is a level 1
pub levels_split : (area : List ℕ) → levels_of area ≡ level_words area 1 ∷ levels_up area 2
unfolding levels_of
levels_split area = let e : own_levels area ≡ suc (own_levels area + 1 - 2) = omega arith in ap (λ (n : ℕ). levels_from area n 1) e

-- ---- the head's words

get_d_head : (area : List ℕ) (i : ℕ) → i < head_words → get_or area i 0 ≡ get_or (take head_words area) i 0
get_d_head area i h = sym (get_or-take 16 area i 0 h)

key-head : (area : List ℕ) → head_words ≤ length area → k_of area ≡ take 8 (drop 6 (take head_words area))
key-head area h =
    let l : length (take head_words area) ≡ 16 = length-take-le 16 area h in
    ap (λ (x : List ℕ). take 8 (drop 6 x)) (sym (take-append-drop 16 area))
    ∙ rw (drop-append-le 6 (take head_words area) (drop head_words area) (omega arith))
    (take-append-le 8 (drop 6 (take head_words area)) (drop head_words area) (rw (length-drop 6 (take head_words area)) (omega arith)))

-- two areas with one head have the same numbers
pub same_word : (x y : List ℕ) → take head_words x ≡ take head_words y → (i : ℕ) → i < head_words → get_or x i 0 ≡ get_or y i 0
same_word x y e i h = get_d_head x i h ∙ rw e (sym (get_d_head y i h))

pub same_key : (x y : List ℕ) → head_words ≤ length x → head_words ≤ length y → take head_words x ≡ take head_words y → k_of x ≡ k_of y
same_key x y hx hy e = key-head x hx ∙ rw e (sym (key-head y hy))

-- the parameters go by the words 2 to 5 and K
pub same_params : (x y : List ℕ) → k_of x ≡ k_of y → ((i : ℕ) → 2 ≤ i → i < 6 → get_or x i 0 ≡ get_or y i 0) → params_of x ≡ params_of y
unfolding params_of
same_params x y k f =
    let b = f 2 (omega arith) (omega arith) in
    let d = f 3 (omega arith) (omega arith) in
    let l = f 4 (omega arith) (omega arith) in
    let r = f 5 (omega arith) (omega arith) in
    rw (k, b, d, l, r) refl

-- so two areas with one head have the same parameters
pub same_head : (x y : List ℕ) → head_words ≤ length x → head_words ≤ length y → take head_words x ≡ take head_words y → params_of x ≡ params_of y
same_head x y hx hy e = same_params x y (same_key x y hx hy e) (λ i h g. same_word x y e i (omega arith))

-- L is word 4
pub limit-word : (area : List ℕ) → (params_of area).limit ≡ get_or area 4 0
unfolding params_of
limit-word area = refl

-- K stays where a word before or after it is set, and the parameters where none of theirs is
key_set : (area : List ℕ) (i v : ℕ) → (6 ≤ i → 14 ≤ i) → k_of (set area i v) ≡ k_of area
key_set area i v h = go (ltb i 6) refl
  where
    go : (b : Bool) → ltb i 6 ≡ b → k_of (set area i v) ≡ k_of area
    go true e = ap (take 8) (drop-set-lt 6 area i v (ltb-true i 6 e))
    go false e =
        let g : 6 ≤ i = ltb-false i 6 e in
        let q : i ≡ 6 + (i - 6) = omega arith in
        rw q (ap (take 8) (drop-set-add 6 area (i - 6) v) ∙ take-set-le 8 (drop 6 area) (i - 6) v (omega (arith, h g)))

pub params-set : (area : List ℕ) (i v : ℕ) → (2 ≤ i → 14 ≤ i) → params_of (set area i v) ≡ params_of area
params-set area i v h =
    same_params (set area i v) area (key_set area i v (λ g. h (omega arith))) (λ j l m. get_or-set_other area i j v 0 (λ e. omega (arith, h (omega arith))))

-- ---- head, levels and tail

levels-from : (pre : List ℕ) (st : List (List ℕ)) (tail : List ℕ) (k : ℕ) → AllLen 64 st → 0 < k → length pre ≡ level_start k →
    levels_from (pre ++ (flatten st ++ tail)) (length st) k ≡ st
unfolding flatten
levels-from pre [] tail k a h e = refl
levels-from pre (ws ∷ st) tail k a h e =
    let s : pre ++ (ws ++ (flatten st ++ tail)) ≡ (pre ++ ws) ++ (flatten st ++ tail) = sym (append_assoc pre ws (flatten st ++ tail)) in
    let l : length (pre ++ ws) ≡ level_start (suc k) = rw (length-append pre ws) (omega (arith, a.0)) in
    let first : level_words (pre ++ (ws ++ (flatten st ++ tail))) k ≡ ws =
    rw (drop_at pre (ws ++ (flatten st ++ tail)) (level_start k) e) (take_at ws (flatten st ++ tail) 64 a.0) in
    let more : levels_from (pre ++ (ws ++ (flatten st ++ tail))) (length st) (suc k) ≡ st =
    subst (λ (area : List ℕ). levels_from area (length st) (suc k) ≡ st) (sym s) (levels-from (pre ++ ws) st tail (suc k) a.1 (omega arith) l) in
    let whole : levels_from (pre ++ (ws ++ (flatten st ++ tail))) (suc (length st)) k ≡ ws ∷ st = cons_eq first more in
    subst (λ (rest : List ℕ). levels_from (pre ++ rest) (suc (length st)) k ≡ ws ∷ st) (sym (append_assoc ws (flatten st) tail)) whole

-- levels that hold nothing
pub flatten-empty : (n : ℕ) → flatten (empty_levels n) ≡ replicate (block_words * n) 0
unfolding flatten empty_levels empty_level
flatten-empty zero = refl
flatten-empty (suc n) =
    let e : block_words + block_words * n ≡ block_words * suc n = omega arith in
    rw (flatten-empty n) (replicate-append-replicate block_words (block_words * n) 0 ∙ ap (λ (k : ℕ). replicate k 0) e)

-- the levels that stand after 16 words
pub levels_of-at : (pre : List ℕ) (st : List (List ℕ)) (tail : List ℕ) → length pre ≡ 16 → AllLen 64 st →
    length st ≡ own_levels (pre ++ (flatten st ++ tail)) → levels_of (pre ++ (flatten st ++ tail)) ≡ st
unfolding levels_of
levels_of-at pre st tail e a n =
    ap (λ (j : ℕ). levels_from (pre ++ (flatten st ++ tail)) j 1) (sym n) ∙ levels-from pre st tail 1 a (omega arith) e

module _ (area : List ℕ) (st : List (List ℕ)) (long : Long area) (a : AllLen 64 st) (n : length st ≡ own_levels area) where
  head-length : length (take head_words area) ≡ 16
  head-length = length-take-le 16 area (omega arith)

  width : length (flatten st) ≡ own_levels area * block_words
  width = length-flatten 64 st a ∙ rw n refl

  pub length-with_levels : length (with_levels area st) ≡ length area
  unfolding with_levels
  length-with_levels =
      length-append (take 16 area) (flatten st ++ drop (own_words area) area)
      ∙ rw (head-length, length-append (flatten st) (drop (own_words area) area), width, length-drop (own_words area) area) (omega arith)

  pub head-with_levels : take head_words (with_levels area st) ≡ take head_words area
  unfolding with_levels
  head-with_levels = take_at (take 16 area) (flatten st ++ drop (own_words area) area) 16 head-length

  pub tail-with_levels : drop (own_words area) (with_levels area st) ≡ drop (own_words area) area
  unfolding with_levels
  tail-with_levels =
      rw (← append_assoc (take 16 area) (flatten st) (drop (own_words area) area))
      (drop_at (take 16 area ++ flatten st) (drop (own_words area) area) (own_words area) (length-append (take 16 area) (flatten st) ∙ rw (head-length, width) (omega arith)))

  pub front-with_levels : take (own_words area) (with_levels area st) ≡ take head_words area ++ flatten st
  unfolding with_levels
  front-with_levels =
      rw (← append_assoc (take 16 area) (flatten st) (drop (own_words area) area))
      (take_at (take 16 area ++ flatten st) (drop (own_words area) area) (own_words area) (length-append (take 16 area) (flatten st) ∙ rw (head-length, width) (omega arith)))

  pub params-with_levels : params_of (with_levels area st) ≡ params_of area
  params-with_levels = same_head (with_levels area st) area (rw length-with_levels (omega (arith, long))) (omega (arith, long)) head-with_levels

  levels-back : params_of (take 16 area ++ (flatten st ++ drop (own_words area) area)) ≡ params_of area →
      levels_of (take 16 area ++ (flatten st ++ drop (own_words area) area)) ≡ st
  levels-back e = levels_of-at (take 16 area) st (drop (own_words area) area) head-length a (rw e n)

  pub levels_of-with_levels : levels_of (with_levels area st) ≡ st
  unfolding with_levels
  levels_of-with_levels = levels-back params-with_levels

-- ---- no bit set

pub all_false-append : (xs ys : List Bool) → all_false (xs ++ ys) ≡ (all_false xs && all_false ys)
all_false-append [] ys = refl
all_false-append (true ∷ xs) ys = refl
all_false-append (false ∷ xs) ys = all_false-append xs ys

pub all_false-replicate : (n : ℕ) → all_false (replicate n false) ≡ true
all_false-replicate zero = refl
all_false-replicate (suc n) = all_false-replicate n

pub all_false_is : (bs : List Bool) → all_false bs ≡ true → bs ≡ replicate (length bs) false
all_false_is [] e = refl
all_false_is (true ∷ bs) e = let z : ◌≡◌ {A = ℕ} 0 1 = cc in absurd (omega arith)
all_false_is (false ∷ bs) e = cons_eq refl (all_false_is bs e)

-- ---- the key

pub key-clean : (key : List ℕ) → length key ≤ 64 → all_false (drop (8 * length key) (bits_of 64 (key_words key))) ≡ true
key-clean key h =
    rw (key-bits key h, drop_at (bits_of 8 key) (replicate ((64 - length key) * 8) false) (8 * length key) (length-bits_of 8 key ∙ omega arith))
    (all_false-replicate ((64 - length key) * 8))

-- K of the key that an area's K and key bytes stand for, where unused key bytes are zero
pub key-words : (k : List ℕ) (n : ℕ) → Below (2 ^ 64) k → length k ≡ 8 → n ≤ 64 → all_false (drop (8 * n) (bits_of 64 k)) ≡ true →
    key_words (numbers 8 n (bits_of 64 k)) ≡ k
unfolding key_words
key-words k n b e h f =
    let X : List Bool = bits_of 64 k in
    let l : length X ≡ 512 = length-bits_of 64 k ∙ rw e refl in
    let c : 8 * n ≡ n * 8 = omega arith in
    let m : length (drop (n * 8) X) ≡ (64 - n) * 8 = length-drop (n * 8) X ∙ omega arith in
    let z : drop (n * 8) X ≡ replicate ((64 - n) * 8) false = all_false_is (drop (n * 8) X) (rw c at f) ∙ rw m in
    let w : bits_of 8 (numbers 8 n X ++ replicate (64 - n) 0) ≡ X =
    bits_of-append 8 (numbers 8 n X) (replicate (64 - n) 0)
    ∙ rw (bits_of-numbers 8 n X (omega arith), bits_of-zeros 8 (64 - n), ← z) (take-append-drop (n * 8) X) in
    let r = numbers-bits_of 64 {ws = k} [] b in
    rw (length-numbers 8 n X, w) (rw (e, append-nil) at r)

-- ---- an area whose word i, 0 or 1, word 14 and levels are changed

pub record Changed (area : List ℕ) (i v w : ℕ) (st : List (List ℕ)) (to : List ℕ) : Type 0 where
  pub size : length to ≡ length area
  pub set : get_or to i 0 ≡ v
  pub count : compressions_of to ≡ w
  pub same : (j : ℕ) → j < head_words → (j ≡ i → ⊥) → (j ≡ 14 → ⊥) → get_or to j 0 ≡ get_or area j 0
  pub key : k_of to ≡ k_of area
  pub params : params_of to ≡ params_of area
  pub levels : levels_of to ≡ st
  pub tail : drop (own_words area) to ≡ drop (own_words area) area

pub changed : (area : List ℕ) (i v w : ℕ) (st : List (List ℕ)) → Long area → i < 2 → AllLen 64 st → length st ≡ own_levels area →
    Changed area i v w st (with_levels (set (set area i v) 14 w) st)
changed area i v w st long hi a n = record {
  size = length-with_levels x st long' a n' ∙ len;
  set = word i (omega arith) ∙ get_or-set_other (set area i v) 14 i w 0 (omega arith) ∙ get_or-set_same area i v 0 (omega arith);
  count = word 14 (omega arith) ∙ get_or-set_same (set area i v) 14 w 0 (rw (length-set area i v) (omega arith));
  same = same;
  key = key;
  params = params-with_levels x st long' a n' ∙ par;
  levels = levels_of-with_levels x st long' a n';
  tail = (rw par at (tail-with_levels x st long' a n')) ∙ drop-set-lt (own_words area) (set area i v) 14 w (omega arith) ∙ drop-set-lt (own_words area) area i v (omega arith);
}
  where
    x : List ℕ
    x = set (set area i v) 14 w

    to : List ℕ
    to = with_levels x st

    len : length x ≡ length area
    len = length-set (set area i v) 14 w ∙ length-set area i v

    par : params_of x ≡ params_of area
    par = params-set (set area i v) 14 w (λ h. omega arith) ∙ params-set area i v (λ h. omega arith)

    long' : Long x
    long' = rw (len, par) long

    n' : length st ≡ own_levels x
    n' = rw par n

    word : (j : ℕ) → j < head_words → get_or to j 0 ≡ get_or x j 0
    word j h = same_word to x (head-with_levels x st long' a n') j h

    same : (j : ℕ) → j < head_words → (j ≡ i → ⊥) → (j ≡ 14 → ⊥) → get_or to j 0 ≡ get_or area j 0
    same j h p q = word j h ∙ get_or-set_other (set area i v) 14 j w 0 q ∙ get_or-set_other area i j v 0 p

    key : k_of to ≡ k_of area
    key =
        same_key to x (rw (length-with_levels x st long' a n') (omega (arith, long'))) (omega (arith, long')) (head-with_levels x st long' a n')
        ∙ key_set (set area i v) 14 w (λ h. omega arith) ∙ key_set area i v (λ h. omega arith)
