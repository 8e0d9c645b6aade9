-- Laws: of Cut: the parts and what is past them, joined, are the list; lists of the parts' lengths in their place are the parts of what
-- they join to; one part replaced is `put` at its place, and the other parts stay; the parts replaced one after the other.
use Rattle.std.specs.Prelude.{◌≡◌, ◌≢◌, ℕ, zero, suc, ◌+◌, ◌-◌, ◌≤◌, ◌<◌, min, drop, get_or, set}
use Rattle.std.proofs.Math.Path.{refl, ap}
use Rattle.std.proofs.Common.{sym, ◌∙◌, arith, drop_of_length-le, length-take-le, drop-drop, drop-cons, take-add, take_all, take-suc, get_or-set_same, get_or-set_other}
use mathlib.Core.List.{List, [], ◌∷◌, ◌++◌, map, flatten, append_assoc, append-nil, head-eq_of_cons-eq, tail-eq_of_cons-eq}
use Rattle.std.proofs.Math.ListN.{length, take, length-append, length-take, length-drop, take-append-drop, get_or-map}
use Rattle.std.proofs.lemmas.List.{length-map, set_at, get_or_at}
use Rattle.std.proofs.Math.Seq.{map-set_same}
use Rattle.lists.specs.Append.{cons_eq}
use Rattle.lists.specs.Part.{put}
use Rattle.lists.specs.Cut.{cut_by, past_parts}

-- where part i begins, if the list is long enough: the first i sizes, added up
abbrev pub part_start : List ℕ → ℕ → ℕ
part_start sizes zero = 0
part_start [] (suc i) = 0
part_start (n ∷ sizes) (suc i) = n + part_start sizes i

-- the next part begins a size further
pub start-next : (sizes : List ℕ) (i : ℕ) → part_start sizes (suc i) ≡ part_start sizes i + get_or sizes i 0
start-next [] zero = refl
start-next [] (suc i) = refl
start-next (n ∷ sizes) zero = omega arith
start-next (n ∷ sizes) (suc i) = omega (arith, start-next sizes i)

module _ {A : Type 0} where
  -- ---- the parts

  pub length_cut : (sizes : List ℕ) (l : List A) → length (cut_by sizes l) ≡ length sizes
  length_cut [] l = refl
  length_cut (n ∷ sizes) l = ap suc (length_cut sizes (drop n l))

  -- part i; past the last there is the empty one
  pub part_is : (sizes : List ℕ) (l : List A) (i : ℕ) → get_or (cut_by sizes l) i [] ≡ take (get_or sizes i 0) (drop (part_start sizes i) l)
  part_is [] l i = refl
  part_is (n ∷ sizes) l zero = refl
  part_is (n ∷ sizes) l (suc i) = part_is sizes (drop n l) i ∙ ap (take (get_or sizes i 0)) (drop-drop (part_start sizes i) n l)

  -- joined again, with what is past them
  pub join_cut : (sizes : List ℕ) (l : List A) → flatten (cut_by sizes l) ++ past_parts sizes l ≡ l
  unfolding flatten
  join_cut [] l = refl
  join_cut (n ∷ sizes) l =
      append_assoc (take n l) (flatten (cut_by sizes (drop n l))) (past_parts sizes (drop n l))
      ∙ ap (λ (r : List A). take n l ++ r) (join_cut sizes (drop n l))
      ∙ take-append-drop n l

  -- ---- a list cut past its end

  -- is cut at its end
  clipped : (n : ℕ) (l : List A) (k : ℕ) → k ≡ min n (length l) → (take n l ≡ take k l) × (drop n l ≡ drop k l)
  clipped zero l zero e = (refl, refl)
  clipped zero l (suc k) e = absurd (omega arith)
  clipped (suc n) [] zero e = (refl, refl)
  clipped (suc n) [] (suc k) e = absurd (omega arith)
  clipped (suc n) (x ∷ l) zero e = absurd (omega arith)
  clipped (suc n) (x ∷ l) (suc k) e = let u = clipped n l k (omega arith) in (cons_eq refl u.0, u.1)

  -- p has n elements, or fewer and nothing follows it: a cut at n is one between p and what follows
  seam : (n : ℕ) (p r : List A) → length p ≤ n → (length p < n → length r ≡ 0) → (take n (p ++ r) ≡ p) × (drop n (p ++ r) ≡ r)
  seam zero [] r h k = (refl, refl)
  seam (suc n) [] [] h k = (refl, refl)
  seam (suc n) [] (x ∷ r) h k = absurd (omega (arith, k (omega arith)))
  seam zero (y ∷ p) r h k = absurd (omega arith)
  seam (suc n) (y ∷ p) r h k = let u = seam n p r (omega arith) (λ g. k (omega arith)) in (cons_eq refl u.0, u.1)

  -- ---- parts of other content and the same lengths

  -- joined, they have the list's length
  pub join_length : (sizes : List ℕ) (l : List A) (parts : List (List A)) → map length parts ≡ map length (cut_by sizes l)
      → length (flatten parts ++ past_parts sizes l) ≡ length l
  unfolding flatten
  join_length [] l [] e = refl
  join_length [] l (p ∷ parts) e = absurd (omega (arith, ap length e))
  join_length (n ∷ sizes) l [] e = absurd (omega (arith, ap length e))
  join_length (n ∷ sizes) l (p ∷ parts) e =
      let size : length p ≡ length (take n l) = head-eq_of_cons-eq e in
      let u = join_length sizes (drop n l) parts (tail-eq_of_cons-eq e) in
      let long = length-append (flatten parts) (past_parts sizes (drop n l)) in
      simp (length-append, append_assoc) (omega (arith, length-take n l, length-drop n l))

  -- the joined list, cut by the same sizes, has these parts, and the same is past them
  pub cut_join : (sizes : List ℕ) (l : List A) (parts : List (List A)) → map length parts ≡ map length (cut_by sizes l)
      → (cut_by sizes (flatten parts ++ past_parts sizes l) ≡ parts)
      × (past_parts sizes (flatten parts ++ past_parts sizes l) ≡ past_parts sizes l)
  unfolding flatten
  cut_join [] l [] e = (refl, refl)
  cut_join [] l (p ∷ parts) e = absurd (omega (arith, ap length e))
  cut_join (n ∷ sizes) l [] e = absurd (omega (arith, ap length e))
  cut_join (n ∷ sizes) l (p ∷ parts) e =
      let size : length p ≡ length (take n l) = head-eq_of_cons-eq e in
      let same : map length parts ≡ map length (cut_by sizes (drop n l)) = tail-eq_of_cons-eq e in
      let r : List A = flatten parts ++ past_parts sizes (drop n l) in
      let long = join_length sizes (drop n l) parts same in
      let t = length-take n l in
      let d = length-drop n l in
      let s = seam n p r (omega arith) (λ g. omega arith) in
      let u = cut_join sizes (drop n l) parts same in
      rw (append_assoc p (flatten parts) (past_parts sizes (drop n l)), s.0, s.1) (cons_eq refl u.0, u.1)

-- ---- one part replaced

-- the list l with ys in the place of part i, for ys of that part's length
abbrev pub with_part : List ℕ → List ℕ → ℕ → List ℕ → List ℕ
with_part sizes l i ys = put (part_start sizes i) (length ys) l ys

-- is the parts joined, with ys for part i
join_set : (sizes : List ℕ) (l : List ℕ) (i : ℕ) (ys : List ℕ) → length ys ≡ length (get_or (cut_by sizes l) i [])
    → flatten (set (cut_by sizes l) i ys) ++ past_parts sizes l ≡ with_part sizes l i ys
unfolding flatten
join_set [] l i [] h = sym (take-append-drop (part_start [] i) l)
join_set [] l i (y ∷ ys) h = absurd (omega arith)
join_set (n ∷ sizes) l zero ys h =
    let size : length ys ≡ min n (length l) = h ∙ length-take n l in
    rw (append_assoc ys (flatten (cut_by sizes (drop n l))) (past_parts sizes (drop n l)), join_cut sizes (drop n l))
    (ap (◌++◌ ys) (clipped n l (length ys) size).1)
join_set (n ∷ sizes) l (suc i) ys h =
    let a : ℕ = part_start sizes i in
    let m : List ℕ = drop n l in
    rw (
      append_assoc (take n l) (flatten (set (cut_by sizes m) i ys)) (past_parts sizes m),
      join_set sizes m i ys h,
      take-add n a l,
      drop-drop a n l,
    )
    (sym (append_assoc (take n l) (take a m) (ys ++ drop (length ys) (drop (n + a) l))))

module _ (sizes l : List ℕ) (i : ℕ) (ys : List ℕ) (size : length ys ≡ length (get_or (cut_by sizes l) i [])) where
  joined : (cut_by sizes (with_part sizes l i ys) ≡ set (cut_by sizes l) i ys)
      × (past_parts sizes (with_part sizes l i ys) ≡ past_parts sizes l)
  joined =
      rw (← join_set sizes l i ys size)
      (cut_join sizes l (set (cut_by sizes l) i ys) (map-set_same length (cut_by sizes l) i ys [] size))

  -- cut again, the list has ys for part i
  pub cut-set : cut_by sizes (with_part sizes l i ys) ≡ set (cut_by sizes l) i ys
  cut-set = joined.0

  pub this_part : i < length sizes → get_or (cut_by sizes (with_part sizes l i ys)) i [] ≡ ys
  this_part h = ap (λ (x : List (List ℕ)). get_or x i []) cut-set ∙ get_or-set_same (cut_by sizes l) i ys [] (omega (arith, length_cut sizes l))

  -- the other parts stay
  pub other-part : (j : ℕ) → j ≢ i → get_or (cut_by sizes (with_part sizes l i ys)) j [] ≡ get_or (cut_by sizes l) j []
  other-part j h = ap (λ (x : List (List ℕ)). get_or x j []) cut-set ∙ get_or-set_other (cut_by sizes l) i j ys [] h

  -- and so does what is past them
  pub past-set : past_parts sizes (with_part sizes l i ys) ≡ past_parts sizes l
  past-set = joined.1

-- where code finds part i: from s, where it begins, up to e, where the next one begins, or both at the list's end
module _ (sizes l : List ℕ) (i s e : ℕ) (from : s ≡ min (part_start sizes i) (length l))
    (to : e ≡ min (part_start sizes i + get_or sizes i 0) (length l)) where
  pub part-within : get_or (cut_by sizes l) i [] ≡ take (e - s) (drop s l)
  part-within =
      let n : ℕ = get_or sizes i 0 in
      let k : e - s ≡ min n (length (drop s l)) = omega (arith, length-drop s l) in
      part_is sizes l i ∙ ap (take n) (clipped (part_start sizes i) l s from).1 ∙ (clipped n (drop s l) (e - s) k).0

  pub length-within : length (get_or (cut_by sizes l) i []) ≡ e - s
  length-within = rw (part-within, length-take (e - s) (drop s l), length-drop s l) (omega arith)

  -- what lending `&mut l[s..e]` leaves, if it is left at ys
  pub put-within : (ys : List ℕ) → length ys ≡ e - s → put s (e - s) l ys ≡ with_part sizes l i ys
  put-within ys h = let c = clipped (part_start sizes i) l s from in rw (c.0, c.1, h)

-- ---- the parts replaced one after the other

-- the list l after the first i parts of the list old were replaced by those of new
pub record Replaced (sizes old : List ℕ) (new : List (List ℕ)) (i : ℕ) (l : List ℕ) : Type 0 where
  pub parts : cut_by sizes l ≡ take i new ++ drop i (cut_by sizes old)
  pub past : past_parts sizes l ≡ past_parts sizes old

module _ (sizes old : List ℕ) (new : List (List ℕ)) where
  pub replaced_none : Replaced sizes old new 0 old
  replaced_none = record { parts = refl; past = refl }

  module _ (same : map length new ≡ map length (cut_by sizes old)) where
    new-count : length new ≡ length sizes
    new-count = sym (length-map new length) ∙ ap length same ∙ length-map (cut_by sizes old) length ∙ length_cut sizes old

    -- the next part is still as it was
    pub replaced_next : (i : ℕ) (l : List ℕ) → Replaced sizes old new i l → i < length sizes
        → get_or (cut_by sizes l) i [] ≡ get_or (cut_by sizes old) i []
    replaced_next i l r h =
        let c : List (List ℕ) = cut_by sizes old in
        rw (r.parts, drop-cons c i [] (omega (arith, length_cut sizes old)))
        (get_or_at (take i new) (get_or c i []) (drop (suc i) c) [] i (length-take-le i new (omega (arith, new-count))))

    pub replaced_more : (i : ℕ) (l : List ℕ) → Replaced sizes old new i l → i < length sizes
        → Replaced sizes old new (suc i) (with_part sizes l i (get_or new i []))
    replaced_more i l r h =
        let c : List (List ℕ) = cut_by sizes old in
        let ys : List ℕ = get_or new i [] in
        let n = new-count in
        let size : length ys ≡ length (get_or (cut_by sizes l) i []) =
        sym (get_or-map length new i [])
        ∙ ap (λ (x : List ℕ). get_or x i 0) same
        ∙ get_or-map length c i []
        ∙ sym (ap length (replaced_next i l r h)) in
        record {
          parts = cut-set sizes l i ys size
              ∙ rw (r.parts, drop-cons c i [] (omega (arith, length_cut sizes old)), take-suc new i [] (omega arith))
              (set_at (take i new) (get_or c i []) (drop (suc i) c) ys i (length-take-le i new (omega arith))
              ∙ sym (append_assoc (take i new) (ys ∷ []) (drop (suc i) c)));
          past = past-set sizes l i ys size ∙ r.past;
        }

    -- after the last the list is the new parts joined, and what was past them
    pub replaced_all : (l : List ℕ) → Replaced sizes old new (length sizes) l → l ≡ flatten new ++ past_parts sizes old
    replaced_all l r =
        let n = length_cut sizes old in
        let e = new-count in
        let whole : cut_by sizes l ≡ new =
        r.parts
        ∙ rw (take_all (length sizes) new (omega arith), drop_of_length-le (cut_by sizes old) {i = length sizes} (omega arith))
        (append-nil new) in
        sym (join_cut sizes l) ∙ rw (whole, r.past) refl
