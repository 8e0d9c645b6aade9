-- The levels that a text spells, one after the other, in an area whose levels are empty at first.
use Rattle.std.proofs.Common.{Option, Some, None}
use Rattle.std.specs.Prelude.{option_map}
use mathlib.Core.Path.{◌≡◌, refl, sym, ap, ◌∙◌}
use mathlib.Core.Bool.{Bool, true, false}
use mathlib.Core.List.{List, [], ◌++◌, map, append_assoc, append-nil}
use Prim.Native.Nat.{ℕ, suc, ◌+◌, ◌-◌, ◌*◌, ◌≤◌, ◌<◌}
use native.Mathlib.Omega.{arith}
use lib.ListN.{length, take, drop, get_or, replicate, length-map, length-drop, replicate-append-replicate, drop_of_length-le}
use lib.Seq.{take_at, drop_at, drop-cons, drop-drop, take-add, take_all, take-take, take-append-le, length-take-le}
use Rattle.lists.specs.Flatten.{map-append}
use Rattle.lists.specs.Part.{put}
use Rattle.lists.specs.PartLaws.{put-take, put-drop, put-length}
use Rattle.lists.specs.Take.{drop-take}
use Rattle.calls.specs.Area.{head_words, block_words, params_of, own_levels, own_words, level_start, empty_level, Long}
use Rattle.digits.specs.Digits.{spelt_words, all_spelt}
use Rattle.digits.proofs.DigitLaws.{length-spelt_words, all_known, known_all, all-part}
use Rattle.texts.specs.Text.{held_of, level_bytes, spelt_levels}
use Rattle.texts.proofs.LengthLaws.{length-held}
use Rattle.texts.proofs.TextLaws.{limit-front, held-front}
use Rattle.writing.specs.Lines.{has_line_at, lines_from, from-no, length-yes}
use Rattle.text.specs.Spelling.{zero_levels, level_spelt}
use Rattle.text.proofs.LinesSpelt.{words-front}

-- ---- the levels from one on, from the lines that are left

pub spelt_from : List Bool → List ℕ → ℕ → List (Option ℕ)
spelt_from hs rest level = spelt_levels (drop (level - 1) hs) rest

module _ (hs : List Bool) (rest : List ℕ) (level : ℕ) (lo : 1 ≤ level) where
  after : suc (level - 1) ≡ level + 1 - 1
  after = omega arith

  from-true : level ≤ length hs → get_or hs (level - 1) false ≡ true → spelt_from hs rest level ≡ level_spelt rest ++ spelt_from hs (drop level_bytes rest) (level + 1)
  unfolding spelt_from
  from-true h e = rw (drop-cons hs (level - 1) false (omega arith), e, ← after)

  from-false : level ≤ length hs → get_or hs (level - 1) false ≡ false → spelt_from hs rest level ≡ map Some empty_level ++ spelt_from hs rest (level + 1)
  unfolding spelt_from
  from-false h e = rw (drop-cons hs (level - 1) false (omega arith), e, ← after)

  from-none : length hs < level → spelt_from hs rest level ≡ []
  unfolding spelt_from
  from-none h = rw (drop_of_length-le hs {i = level - 1} (omega arith))

-- a level's words lie within its line
line-words : (rest : List ℕ) → level_spelt (take level_bytes rest) ≡ level_spelt rest
line-words rest =
    ap (spelt_words 64) (drop-take 2 1025 rest) ∙ sym (words-front 64 (take 1025 (drop 2 rest)))
    ∙ ap (spelt_words 64) (take-take 1024 1025 (drop 2 rest) (omega arith)) ∙ words-front 64 (drop 2 rest)

-- known words behind known words
joined : (a b ws : List ℕ) → b ≡ a ++ ws → (xs : List (Option ℕ)) → map Some b ++ xs ≡ map Some a ++ (map Some ws ++ xs)
joined a b ws t xs = rw (t, map-append Some a ws) (append_assoc (map Some a) (map Some ws) xs)

-- ---- the area before a level, with the lines that are left

pub record Spelling (area₀ text area rest : List ℕ) (level : ℕ) : Type 0 where
  pub size : length rest ≡ length (lines_from area₀ level)
  pub long : length area ≡ own_words area₀
  pub head : take head_words area ≡ take head_words area₀
  pub empty : drop (level_start level) area ≡ replicate (block_words * (own_levels area₀ + 1 - level)) 0
  pub is : map Some (take (level_start level) area) ++ spelt_from (held_of area₀) rest level ≡ map Some (take head_words area₀) ++ spelt_levels (held_of area₀) text

pub spelling_none : (area text : List ℕ) → length area ≡ own_words area → drop head_words area ≡ zero_levels (own_levels area) → length text ≡ length (lines_from area 1) → Spelling area text area text 1
unfolding zero_levels spelt_from
spelling_none area text l z n =
    let e : own_levels area + 1 - 1 ≡ own_levels area = omega arith in
    record { size = n; long = l; head = refl; empty = rw e z; is = refl }

-- L stands in the head
pub spelling_own : {area₀ text area rest : List ℕ} {level : ℕ} → Spelling area₀ text area rest level → (params_of area).limit ≡ (params_of area₀).limit
spelling_own {area₀} {text} {area} s = sym (limit-front area) ∙ ap (λ (l : List ℕ). (params_of l).limit) s.head ∙ limit-front area₀

module _ {area₀ text area rest : List ℕ} {level : ℕ} (s : Spelling area₀ text area rest level) (lo : 1 ≤ level) (hi : level ≤ own_levels area₀) where
  held : has_line_at area level ≡ get_or (held_of area₀) (level - 1) false
  unfolding has_line_at
  held = ap (λ (hs : List Bool). get_or hs (level - 1) false) (sym (held-front area) ∙ ap held_of s.head ∙ held-front area₀)

  as_first : has_line_at area level ≡ has_line_at area₀ level
  unfolding has_line_at
  as_first = held

  inside : level ≤ length (held_of area₀)
  inside = omega (arith, length-held area₀)

  next : level_start level + block_words ≡ level_start (level + 1)
  next = omega arith

  abbrev later : List ℕ
  later = replicate (block_words * (own_levels area₀ + 1 - (level + 1))) 0

  rest-empty : drop (level_start level) area ≡ empty_level ++ later
  unfolding empty_level
  rest-empty =
      let e : block_words * (own_levels area₀ + 1 - level) ≡ block_words + block_words * (own_levels area₀ + 1 - (level + 1)) = omega arith in
      s.empty ∙ ap (λ (n : ℕ). replicate n 0) e ∙ sym (replicate-append-replicate block_words (block_words * (own_levels area₀ + 1 - (level + 1))) 0)

  length-empty : length empty_level ≡ block_words
  unfolding empty_level
  length-empty = refl

  after-empty : drop (level_start level + block_words) area ≡ later
  after-empty = sym (drop-drop block_words (level_start level) area) ∙ ap (drop block_words) rest-empty ∙ drop_at empty_level later block_words length-empty

  pub spelling_room : Long area₀ → has_line_at area level ≡ true → level_bytes ≤ length rest
  spelling_room l e = omega (arith, s.size, length-yes area₀ level lo hi l (sym as_first ∙ e))

  -- a level without a line stays empty
  pub spelling_no : has_line_at area level ≡ false → Spelling area₀ text area rest (level + 1)
  spelling_no e =
      let t : take (level_start (level + 1)) area ≡ take (level_start level) area ++ empty_level =
      ap (λ (n : ℕ). take n area) (sym next) ∙ take-add (level_start level) block_words area
      ∙ ap (λ (x : List ℕ). take (level_start level) area ++ x) (ap (take block_words) rest-empty ∙ take_at empty_level later block_words length-empty) in
      record {
        size = s.size ∙ ap length (from-no area₀ level lo hi (sym as_first ∙ e));
        long = s.long;
        head = s.head;
        empty = ap (λ (n : ℕ). drop n area) (sym next) ∙ after-empty;
        is =
            joined (take (level_start level) area) (take (level_start (level + 1)) area) empty_level t (spelt_from (held_of area₀) rest (level + 1))
            ∙ ap (λ (x : List (Option ℕ)). map Some (take (level_start level) area) ++ x) (sym (from-false (held_of area₀) rest level lo inside (sym held ∙ e)))
            ∙ s.is;
      }

  -- a level's line
  module _ (l : Long area₀) (e : has_line_at area level ≡ true) where
    from_is : spelt_from (held_of area₀) rest level ≡ level_spelt rest ++ spelt_from (held_of area₀) (drop level_bytes rest) (level + 1)
    from_is = from-true (held_of area₀) rest level lo inside (sym held ∙ e)

    filled : (ws : List ℕ) → all_spelt (level_spelt (take level_bytes rest)) ≡ Some ws
        → Spelling area₀ text (put (level_start level) block_words area ws) (drop level_bytes rest) (level + 1)
    filled ws q =
        let xs : List (Option ℕ) = level_spelt rest in
        let a : ℕ = level_start level in
        let last : List ℕ = put a block_words area ws in
        let x : xs ≡ map Some ws = known_all xs ws (rw (line-words rest) at q) in
        let g : a + block_words ≤ length area = omega (arith, s.long) in
        let w : length ws ≡ block_words = sym (length-map ws Some) ∙ ap length (sym x) ∙ length-spelt_words 64 (drop 2 rest) in
        let t : take (level_start (level + 1)) last ≡ take a area ++ ws = ap (λ (m : ℕ). take m last) (sym next) ∙ put-take a block_words area ws g w in
        record {
          size = simp length-drop (omega (arith, s.size, length-yes area₀ level lo hi l (sym as_first ∙ e)));
          long = put-length a block_words area ws g w ∙ s.long;
          head =
              sym (take-take head_words (level_start (level + 1)) last (omega arith)) ∙ ap (take head_words) t
              ∙ take-append-le head_words (take a area) ws (rw (length-take-le a area (omega (arith, s.long))) (omega arith))
              ∙ take-take head_words a area (omega arith) ∙ s.head;
          empty = ap (λ (m : ℕ). drop m last) (sym next) ∙ put-drop a block_words area ws g w ∙ after-empty;
          is =
              joined (take a area) (take (level_start (level + 1)) last) ws t (spelt_from (held_of area₀) (drop level_bytes rest) (level + 1))
              ∙ ap (λ (z : List (Option ℕ)). map Some (take a area) ++ z)
              (ap (λ (z : List (Option ℕ)). z ++ spelt_from (held_of area₀) (drop level_bytes rest) (level + 1)) (sym x) ∙ sym from_is)
              ∙ s.is;
        }

    module _ (line : List ℕ) (front : line ≡ take level_bytes rest) where
      spells : (o : Option (List ℕ)) → all_spelt (level_spelt line) ≡ o → all_spelt (level_spelt (take level_bytes rest)) ≡ o
      spells o q = ap (λ (x : List ℕ). all_spelt (level_spelt x)) (sym front) ∙ q

      -- the level is filled from it
      pub spelling_yes : (after last : List ℕ) → after ≡ drop level_bytes rest
          → Some last ≡ option_map (put (level_start level) block_words area) (all_spelt (level_spelt line)) → Spelling area₀ text last after (level + 1)
      spelling_yes after last back y = by (all_spelt (level_spelt line)) refl y
        where
          by : (o : Option (List ℕ)) → all_spelt (level_spelt line) ≡ o → Some last ≡ option_map (put (level_start level) block_words area) o → Spelling area₀ text last after (level + 1)
          by None q y = cc
          by (Some ws) q y = let f : put (level_start level) block_words area ws ≡ last = cc in rw (← f, back) (filled ws (spells (Some ws) q))

      -- or a digit of it is refused
      pub spelling_refused : None ≡ option_map (put (level_start level) block_words area) (all_spelt (level_spelt line))
          → None ≡ all_spelt (map Some (take head_words area₀) ++ spelt_levels (held_of area₀) text)
      spelling_refused y = by (all_spelt (level_spelt line)) refl y
        where
          by : (o : Option (List ℕ)) → all_spelt (level_spelt line) ≡ o → None ≡ option_map (put (level_start level) block_words area) o
              → None ≡ all_spelt (map Some (take head_words area₀) ++ spelt_levels (held_of area₀) text)
          by (Some ws) q y = cc
          by None q y =
              sym (ap all_spelt (sym s.is ∙ ap (λ (z : List (Option ℕ)). map Some (take (level_start level) area) ++ z) from_is)
              ∙ all-part (map Some (take (level_start level) area)) (level_spelt rest) (spelt_from (held_of area₀) (drop level_bytes rest) (level + 1))
              (rw (line-words rest) at (spells None q)))

pub spelling_all : {area₀ text area rest : List ℕ} {level : ℕ} → Spelling area₀ text area rest level → 1 ≤ level → own_levels area₀ < level
    → Some area ≡ all_spelt (map Some (take head_words area₀) ++ spelt_levels (held_of area₀) text)
spelling_all {area₀} {text} {area} {rest} {level} s lo h =
    let e = from-none (held_of area₀) rest level lo (omega (arith, length-held area₀)) in
    let t : map Some (take (level_start level) area) ++ spelt_from (held_of area₀) rest level ≡ map Some area =
    ap (λ (x : List (Option ℕ)). map Some (take (level_start level) area) ++ x) e ∙ append-nil (map Some (take (level_start level) area))
    ∙ ap (map Some) (take_all (level_start level) area (omega (arith, s.long))) in
    sym (ap all_spelt (sym s.is ∙ t) ∙ all_known area)
