-- Laws: an area as its levels: one level replaced, and all levels from one on. The contracts of the code's own steps cite these.
use Rattle.std.specs.Prelude.{◌≡◌, refl, Bool, true, false, ℕ, zero, suc, ◌+◌, ◌-◌, ◌*◌, ◌%◌, ◌≤◌, ◌<◌, length, replicate}
use Rattle.std.proofs.Math.Path.{sym, ap}
use Rattle.std.proofs.Common.{◌∙◌, take-append-drop, take_at, drop_at, drop-drop, length-take-le, take-take}
use mathlib.Core.List.{List, ◌∷◌, ◌++◌, append_assoc, flatten}
use native.Mathlib.Omega.{arith}
use Rattle.std.proofs.Math.ListN.{take, drop}
use Rattle.std.proofs.lemmas.List.{take-append-le}
use Rattle.lists.specs.Part.{put}
use Rattle.lists.specs.PartLaws.{put-length, put-take, put-drop}
use Rattle.tree.specs.Tree.{Params, output_words}
use Rattle.calls.specs.Area.{area_words, level_start, head_words, block_words, own_levels, own_words, Long, params_of, levels_up, level_words, levels_from, with_levels, empty_level}
use Rattle.calls.proofs.AreaLaws.{same_head}
pub use Rattle.calls.proofs.AreaLaws.{levels_split}
use Rattle.calls.proofs.FeedLaws.{flatten-from}
pub use Rattle.calls.proofs.Widths.{length-joined, length-empty}

-- an area with other words in a level
abbrev pub with_level : List ℕ → ℕ → List ℕ → List ℕ
with_level area k ws = put (level_start k) block_words area ws

-- an area with other levels from a level on
abbrev pub up_area : List ℕ → ℕ → List (List ℕ) → List ℕ
up_area area k levels = take (level_start k) area ++ (flatten levels ++ drop (own_words area) area)

-- where output i goes in the block of a level
abbrev pub output_place : Bool → ℕ → ℕ
output_place true i = output_words + output_words * (i % 3)
output_place false i = output_words * (i % 4)

pub place-fits : (sequential : Bool) (i : ℕ) → output_place sequential i + output_words ≤ block_words
place-fits true i = omega arith
place-fits false i = omega arith

-- ---- a part of a list replaced

module _ (a : ℕ) (l ws : List ℕ) (fits : a + block_words ≤ length l) (size : length ws ≡ block_words) where
  abbrev put-here : List ℕ
  put-here = put a block_words l ws

  front : length (take a l) ≡ a
  front = length-take-le a l (omega arith)

  part-put : take block_words (drop a put-here) ≡ ws
  part-put =
      ap (take block_words) (drop_at (take a l) (ws ++ drop block_words (drop a l)) a front) ∙ take_at ws (drop block_words (drop a l)) block_words size

  drop_past : (j : ℕ) → a + block_words ≤ j → drop j put-here ≡ drop j l
  drop_past j h =
      let e : j ≡ a + block_words + (j - (a + block_words)) = omega arith in
      let r : ℕ = j - (a + block_words) in
      ap (λ (n : ℕ). drop n put-here) e
      ∙ sym (drop-drop r (a + block_words) put-here) ∙ ap (drop r) (put-drop a block_words l ws fits size) ∙ drop-drop r (a + block_words) l
      ∙ ap (λ (n : ℕ). drop n l) (sym e)

  put_again : (vs : List ℕ) → put a block_words put-here vs ≡ put a block_words l vs
  put_again vs =
      let d = drop-drop block_words a put-here ∙ put-drop a block_words l ws fits size ∙ sym (drop-drop block_words a l) in
      rw (take_at (take a l) (ws ++ drop block_words (drop a l)) a front, d)

-- ---- one level replaced

-- a level of an area that has all its words
pub record HasLevel (area : List ℕ) (k : ℕ) : Type 0 where
  pub long : Long area
  pub low : 1 ≤ k
  pub high : k ≤ own_levels area

-- an output fits a place of a level's block
pub record Joins (area : List ℕ) (k place : ℕ) (out : List ℕ) : Type 0 where
  pub level : HasLevel area k
  pub inside : place + output_words ≤ block_words
  pub words : length out ≡ output_words

module _ {area : List ℕ} {k : ℕ} (l : HasLevel area k) (ws : List ℕ) (size : length ws ≡ block_words) where
  fits : level_start k + block_words ≤ length area
  fits = omega arith

  pub length_with : length (with_level area k ws) ≡ length area
  length_with = put-length (level_start k) block_words area ws fits size

  -- the words before the levels stay, and so do the parameters
  pub params_with : params_of (with_level area k ws) ≡ params_of area
  params_with =
      same_head (with_level area k ws) area (rw length_with (omega arith)) (omega arith)
      (take-append-le head_words (take (level_start k) area) (ws ++ drop block_words (drop (level_start k) area)) (rw (front (level_start k) area ws fits size) (omega arith))
      ∙ take-take head_words (level_start k) area (omega arith))

  -- it is a level of what is left, too
  pub level-still : {area₁ : List ℕ} → area₁ ≡ with_level area k ws → HasLevel area₁ k
  level-still e = record { long = rw (e, length_with, params_with) l.long; low = l.low; high = rw (e, params_with) l.high }

  pub level_with : level_words (with_level area k ws) k ≡ ws
  level_with = part-put (level_start k) area ws fits size

  pub with_with : (vs : List ℕ) → with_level (with_level area k ws) k vs ≡ with_level area k vs
  with_with vs = put_again (level_start k) area ws fits size vs

  other_with : (m j : ℕ) → k < j → levels_from (with_level area k ws) m j ≡ levels_from area m j
  other_with zero j h = refl
  other_with (suc m) j h =
      let e : level_words (with_level area k ws) j ≡ level_words area j = ap (take block_words) (drop_past (level_start k) area ws fits size (level_start j) (omega arith)) in
      ap (λ (x : List ℕ). x ∷ levels_from (with_level area k ws) m (suc j)) e ∙ ap (λ (x : List (List ℕ)). level_words area j ∷ x) (other_with m (suc j) (omega arith))

  -- the levels above it stay
  pub other-up : levels_up (with_level area k ws) (k + 1) ≡ levels_up area (k + 1)
  other-up = rw params_with (other_with (own_levels area + 1 - (k + 1)) (k + 1) (omega arith))

  pub up_step : (L : List (List ℕ)) → up_area area k (ws ∷ L) ≡ up_area (with_level area k ws) (k + 1) L
  unfolding flatten
  up_step L =
      let e : level_start (k + 1) ≡ level_start k + block_words = omega arith in
      let t : take (level_start (k + 1)) (with_level area k ws) ≡ take (level_start k) area ++ ws =
      ap (λ (n : ℕ). take n (with_level area k ws)) e ∙ put-take (level_start k) block_words area ws fits size in
      let d : drop (own_words area) (with_level area k ws) ≡ drop (own_words area) area = drop_past (level_start k) area ws fits size (own_words area) (omega arith) in
      sym
      (ap (λ (P : Params). take (level_start (k + 1)) (with_level area k ws) ++ (flatten L ++ drop (area_words P.limit) (with_level area k ws))) params_with
      ∙ ap (λ (x : List ℕ). x ++ (flatten L ++ drop (own_words area) (with_level area k ws))) t
      ∙ ap (λ (x : List ℕ). (take (level_start k) area ++ ws) ++ (flatten L ++ x)) d
      ∙ append_assoc (take (level_start k) area) ws (flatten L ++ drop (own_words area) area)
      ∙ ap (λ (x : List ℕ). take (level_start k) area ++ x) (sym (append_assoc ws (flatten L) (drop (own_words area) area))))

-- ---- the levels of an area

-- an area is made of its own levels
pub up_same : (area : List ℕ) (k : ℕ) → 1 ≤ k → k ≤ own_levels area + 1 → up_area area k (levels_up area k) ≡ area
up_same area k h g =
    let a : ℕ = level_start k in
    let n : ℕ = block_words * (own_levels area + 1 - k) in
    let e : a + n ≡ own_words area = omega arith in
    let d : drop (own_words area) area ≡ drop n (drop a area) = ap (λ (j : ℕ). drop j area) (sym e) ∙ sym (drop-drop n a area) in
    rw (flatten-from area (own_levels area + 1 - k) k h, d) (ap (λ (x : List ℕ). take a area ++ x) (take-append-drop n (drop a area)) ∙ take-append-drop a area)

-- a level replaced, those above it as they are
pub up-level : {area : List ℕ} {k : ℕ} (l : HasLevel area k) (ws : List ℕ) → length ws ≡ block_words → with_level area k ws ≡ up_area area k (ws ∷ levels_up area (k + 1))
up-level {area} {k} l ws size =
    sym
    (up_step l ws size (levels_up area (k + 1))
    ∙ ap (up_area (with_level area k ws) (k + 1)) (sym (other-up l ws size))
    ∙ up_same (with_level area k ws) (k + 1) (omega arith) (rw (params_with l ws size) (omega (arith, l.high))))

-- all levels
pub with_up : (area : List ℕ) (L : List (List ℕ)) → with_levels area L ≡ up_area area 1 L
unfolding with_levels
with_up area L = refl

-- ---- a level lent by the code

pub lent-size : (a : ℕ) → (a + block_words) - a ≡ block_words
lent-size a = omega arith

pub lent-put : (area : List ℕ) (k : ℕ) (ws : List ℕ) → put (level_start k) ((level_start k + block_words) - level_start k) area ws ≡ with_level area k ws
lent-put area k ws = rw (lent-size (level_start k))

-- a level cleared, and an output put in front
pub chain-made : {area : List ℕ} {k : ℕ} (l : HasLevel area k) (out : List ℕ)
    → with_level (with_level area k empty_level) k (put 0 output_words (level_words (with_level area k empty_level) k) out) ≡ with_level area k (out ++ replicate (block_words - output_words) 0)
unfolding empty_level
chain-made {area} {k} l out =
    ap (λ (x : List ℕ). with_level (with_level area k empty_level) k (put 0 output_words x out)) (level_with l empty_level refl)
    ∙ with_with l empty_level refl (out ++ replicate (block_words - output_words) 0)

-- ---- level 1

pub first-level : {area : List ℕ} → Long area → HasLevel area 1
first-level h = record { long = h; low = omega arith; high = omega arith }

-- level 1 replaced, the others as they are
pub with_first : (area ws : List ℕ) → Long area → length ws ≡ block_words → with_levels area (ws ∷ levels_up area 2) ≡ with_level area 1 ws
with_first area ws long size = let l : HasLevel area 1 = first-level long in with_up area (ws ∷ levels_up area 2) ∙ sym (up-level l ws size)
