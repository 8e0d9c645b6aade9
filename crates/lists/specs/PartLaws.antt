-- Laws: of `put`: a part put behind another, what stands before and after it, and stores one by one.
use Rattle.std.specs.Prelude.{◌≡◌, List, [], ◌∷◌, ◌++◌, ℕ, suc, ◌+◌, ◌≤◌, ◌<◌, length, take, drop, set}
use Rattle.std.proofs.Common.{ap, sym, ◌∙◌, append_assoc, add-one, arith, length-append, length-drop, drop-drop, take_at, drop_at, length-take-le}
use Rattle.std.proofs.lemmas.List.{set_split}
use Rattle.std.proofs.lemmas.List.Edits.{sets, sets-eq}
use Rattle.lists.specs.Part.{put}

-- a list whose first n elements are written, p: the part after them is lent, and left at ys
pub next-part : (n k : ℕ) (p l ys : List ℕ) → length p ≡ n → put n k (p ++ drop n l) ys ≡ (p ++ ys) ++ drop (n + k) l
next-part n k p l ys e =
    rw (take_at p (drop n l) n e, drop_at p (drop n l) n e, drop-drop k n l) (sym (append_assoc p ys (drop (n + k) l)))

-- the first elements are stored one by one
pub first_stores : (vs l : List ℕ) → length vs ≤ length l → sets l 0 vs ≡ vs ++ drop (length vs) l
first_stores vs l h =
    let e : 0 + length vs ≡ length vs = omega arith in
    sets-eq vs l 0 (omega arith) ∙ ap (λ (k : ℕ). vs ++ drop k l) e

-- what stands up to the end of a part, and after it
module _ (a n : ℕ) (l ys : List ℕ) (fits : a + n ≤ length l) (size : length ys ≡ n) where
  pub put-take : take (a + n) (put a n l ys) ≡ take a l ++ ys
  put-take =
      ap (take (a + n)) (sym (append_assoc (take a l) ys (drop n (drop a l))))
      ∙ take_at (take a l ++ ys) (drop n (drop a l)) (a + n) (rw (length-append, length-take-le a l (omega arith)) (omega arith))

  pub put-drop : drop (a + n) (put a n l ys) ≡ drop (a + n) l
  put-drop =
      ap (drop (a + n)) (sym (append_assoc (take a l) ys (drop n (drop a l))))
      ∙ drop_at (take a l ++ ys) (drop n (drop a l)) (a + n) (rw (length-append, length-take-le a l (omega arith)) (omega arith))
      ∙ drop-drop n a l

  pub put-length : length (put a n l ys) ≡ length l
  put-length = simp (length-append, length-take-le a l (omega arith), length-drop) (omega arith)

-- a part is put behind another
pub put-put : (a n k : ℕ) (l ys zs : List ℕ) → a ≤ length l → length ys ≡ n → put (a + n) k (put a n l ys) zs ≡ put a (n + k) l (ys ++ zs)
put-put a n k l ys zs h e =
    let P : List ℕ = take a l ++ ys in
    let p : length P ≡ a + n = rw (length-append, length-take-le a l h, e) in
    let s : put a n l ys ≡ P ++ drop n (drop a l) = sym (append_assoc (take a l) ys (drop n (drop a l))) in
    rw (s, take_at P (drop n (drop a l)) (a + n) p, drop_at P (drop n (drop a l)) (a + n) p, drop-drop k n (drop a l)) (simp append_assoc)

-- one element is a part
pub put_one : (a x : ℕ) (l : List ℕ) → a < length l → set l a x ≡ put a 1 l (x ∷ [])
put_one a x l h = let e : a + 1 ≡ suc a = add-one a in rw (drop-drop 1 a l, e) (set_split l a x h)
