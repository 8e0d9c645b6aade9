-- A text is read if no digit is refused, its length fits, the area that it spells is sound, and that area's text is the text.
use Rattle.std.proofs.Common.{Option, Some, None}
use Rattle.std.specs.Prelude.{option_map, MatchOption}
use Rattle.std.specs.Bool.{then_some}
use Rattle.std.proofs.lemmas.Option.{same_Some}
use mathlib.Core.Path.{◌≡◌, refl, sym, ap, ◌∙◌}
use mathlib.Core.Bool.{Bool, true, false, ◌&&◌, and-true, and-false}
use mathlib.Core.List.{List, ◌++◌, map}
use Prim.Native.Nat.{ℕ, ◌+◌, ◌-◌, ◌*◌, ◌≤◌, ◌<◌}
use native.Mathlib.Omega.{arith}
use lib.ListN.{length, take, drop, get_or, replicate, length-append, length-drop}
use lib.Seq.{take_all, take_at, take-take, take-append-le, drop_at, length-take-le}
use Rattle.lists.specs.Replicate.{take-replicate}
use Rattle.lists.specs.Same.{same}
use Rattle.lists.specs.SameLaws.{same-other-length}
use Rattle.lists.specs.Take.{drop-take}
use Rattle.tree.specs.Tree.{most_levels, most_limit}
use Rattle.calls.specs.Area.{head_words, block_words, area_levels, area_words, params_of, own_levels, own_words, sound, Long}
use Rattle.calls.proofs.AreaLaws.{limit-word}
use Rattle.digits.specs.Digits.{all_spelt}
use Rattle.texts.specs.Text.{rounds_bytes, line1_fields, held_of, text_with, level_bytes, head_bytes, spelt_head, spelt_levels, spelt_area, text_is, readable_with, readable, read_area}
use Rattle.texts.proofs.LayoutLaws.{sound-front, text-front}
use Rattle.texts.proofs.LengthLaws.{lines, text-length}
use Rattle.writing.specs.Lines.{lines_from, length-text}
use Rattle.text.specs.Spelling.{zero_levels}
use Rattle.texts.proofs.ReadForms.{form_of, one_form}
use Rattle.texts.proofs.TextLaws.{limit-front, held-front, length-spelt_head, headed, headed-front, length-spelt_area}

-- ---- a text that is not read

-- because a digit is refused
no_digits_lem : (w : ℕ) (text : List ℕ) → spelt_area w text ≡ None → readable_with w text ≡ false
unfolding readable_with
no_digits_lem w text e = rw e

-- or because its length is another
other_length : (w : ℕ) (text : List ℕ) → ((area : List ℕ) → spelt_area w text ≡ Some area → length text ≡ length (text_with w area) → ⊥) → readable_with w text ≡ false
unfolding readable_with
other_length w text h = by (spelt_area w text) h
  where
    by : (o : Option (List ℕ)) → ((area : List ℕ) → o ≡ Some area → length text ≡ length (text_with w area) → ⊥) → text_is w text o ≡ false
    by None h = refl
    by (Some a) h = ap (◌&&◌ (sound a)) (sym (same-other-length (text_with w a) text (λ e. h a refl (sym e)))) ∙ and-false (sound a)

pub short-text : (w m : ℕ) → w ≤ rounds_bytes → m ≡ head_bytes w → (text : List ℕ) → length text < m → readable_with w text ≡ false
short-text w m b size text h =
    other_length w text (λ a s e. omega (arith, length-text w a (omega (arith, length-spelt_area w b text a s)), e, h))

pub head-refused : (w : ℕ) (text : List ℕ) → None ≡ spelt_head (line1_fields w) text → readable_with w text ≡ false
unfolding spelt_area
head-refused w text e = no_digits_lem w text (rw (← e))

-- ---- after the head, whose words are ys, in words that are zero otherwise

-- the first two lines have m bytes, and spell the words ys
pub record HeadRead (w m : ℕ) (text ys area : List ℕ) : Type 0 where
  pub small : w ≤ rounds_bytes
  pub size : m ≡ head_bytes w
  pub zeros : area ≡ replicate (area_words most_limit) 0
  pub told : Some ys ≡ spelt_head (line1_fields w) text

module _ {w m : ℕ} {text ys area : List ℕ} (h : HeadRead w m text ys area) where
  abbrev s1 : List ℕ
  s1 = ys ++ drop head_words area

  head-length : length ys ≡ head_words
  head-length = length-spelt_head w h.small text ys (sym h.told)

  s1_is : s1 ≡ ys ++ zero_levels most_levels
  unfolding zero_levels
  s1_is = ap (λ (l : List ℕ). ys ++ drop head_words l) h.zeros

  front : take head_words s1 ≡ ys
  front = take_at ys (drop head_words area) head_words head-length

  length-s1 : length s1 ≡ area_words most_limit
  unfolding zero_levels
  length-s1 = ap length s1_is ∙ rw (length-append ys (zero_levels most_levels), head-length)

  pub head-long : Long s1
  head-long = omega (arith, length-s1)

  -- L, which levels have a line and the length of the text are those of any area with this head
  same-limit : (x : List ℕ) → take head_words x ≡ ys → (params_of x).limit ≡ (params_of s1).limit
  same-limit x f = sym (limit-front x) ∙ ap (λ (l : List ℕ). (params_of l).limit) (f ∙ sym front) ∙ limit-front s1

  same-held : (x : List ℕ) → take head_words x ≡ ys → held_of x ≡ held_of s1
  same-held x f = sym (held-front x) ∙ ap held_of (f ∙ sym front) ∙ held-front s1

  as_long : (x : List ℕ) → take head_words x ≡ ys → Long x → length (text_with w s1) ≡ length (text_with w x)
  as_long x f l =
      text-length w s1 head-long ∙ ap (λ (hs : List Bool). head_bytes w + level_bytes * lines hs) (sym (same-held x f)) ∙ sym (text-length w x l)

  -- which the area that is spelt has
  spelt-front : (x : List ℕ) → spelt_area w text ≡ Some x → take head_words x ≡ ys
  spelt-front x f =
      let k = headed w text x f in
      headed-front w h.small text x k ∙ sym (same_Some ys k.head (h.told ∙ k.spelt))

  spelt-long : (x : List ℕ) → spelt_area w text ≡ Some x → Long x
  spelt-long x f = omega (arith, length-spelt_area w h.small text x f)

  pub wrong_length : (n : ℕ) → n ≡ length (text_with w s1) → (length text ≡ n → ⊥) → readable_with w text ≡ false
  wrong_length n f other = other_length w text (λ x q g. other (g ∙ sym (f ∙ as_long x (spelt-front x q) (spelt-long x q))))

  -- ---- the length of the text is right: the levels, in the words that L gives

  -- the words that L gives are k
  pub own_room : (k : ℕ) → k ≡ area_words (get_or s1 4 0) → k ≤ length s1
  own_room k e = omega (arith, head-long, limit-word s1)

  -- and rest is what follows the first two lines
  module _ (n k : ℕ) (enough : k ≡ area_words (get_or s1 4 0)) (f : n ≡ length (text_with w s1)) (l : length text ≡ n)
      (rest : List ℕ) (back : rest ≡ take (length text - m) (drop m text)) where
    rest_is : rest ≡ drop (head_bytes w) text
    rest_is = back ∙ take_all (length text - m) (drop m text) (rw length-drop (omega arith)) ∙ ap (λ (k : ℕ). drop k text) h.size

    own : k ≡ own_words s1
    own = omega (arith, limit-word s1)

    abbrev part : List ℕ
    part = take k s1

    part_length : length part ≡ own_words s1
    part_length = length-take-le k s1 (omega (arith, own, head-long)) ∙ own

    part-front : take head_words part ≡ ys
    part-front = take-take head_words k s1 (omega (arith, own)) ∙ front

    part_limit : (params_of part).limit ≡ (params_of s1).limit
    part_limit = same-limit part part-front

    part-empty : drop head_words part ≡ zero_levels (own_levels part)
    unfolding zero_levels
    part-empty =
        let n : ℕ = block_words * own_levels s1 in
        ap (λ (j : ℕ). drop head_words (take j s1)) own
        ∙ drop-take head_words n s1
        ∙ ap (take n) (ap (drop head_words) s1_is ∙ drop_at ys (zero_levels most_levels) head_words head-length)
        ∙ take-replicate n (block_words * most_levels) 0 (omega arith)
        ∙ ap (λ (limit : ℕ). replicate (block_words * area_levels limit) 0) (sym part_limit)

    pub levels-ready : (length part ≡ own_words part) × (drop head_words part ≡ zero_levels (own_levels part))
        × (length rest ≡ length (lines_from part 1))
    levels-ready =
        let s : length part ≡ own_words part = omega (arith, part_length, part_limit) in (
          s,
          part-empty,
          ap length rest_is ∙ rw length-drop (omega (arith, length-text w part (omega arith), as_long part part-front (omega arith))),
        )

    -- after the levels, s2
    module _ (s2 : List ℕ) where
      abbrev to : List ℕ
      to = s2 ++ drop k s1

      module _ (a : spelt_area w text ≡ Some s2) where
        s2_length : length s2 ≡ own_words s1
        s2_length = omega (arith, length-spelt_area w h.small text s2 a, same-limit s2 (spelt-front s2 a))

        to_front : take head_words to ≡ ys
        to_front = take-append-le head_words s2 (drop k s1) (omega (arith, s2_length)) ∙ spelt-front s2 a

        to-own : own_words to ≡ own_words s1
        to-own = ap area_words (same-limit to to_front)

        to_is : spelt_area w text ≡ Some (take (own_words to) to)
        to_is = a ∙ ap {B = Option (List ℕ)} Some (sym (ap (λ (j : ℕ). take j to) to-own ∙ take_at s2 (drop k s1) (own_words s1) s2_length))

        to-long : Long to
        to-long = rw (length-append s2 (drop k s1)) (omega (arith, s2_length, to-own))

      pub spelt-whole : {A : Type 0} (q : Option A)
          → option_map (λ _. s2) q ≡ all_spelt (map Some (take head_words part) ++ spelt_levels (held_of part) rest)
          → MatchOption q (readable_with w text ≡ false) (λ _. (spelt_area w text ≡ Some (take (own_words to) to)) × (length text ≡ length (text_with w to)))
      unfolding spelt_area
      spelt-whole q g =
          let d : spelt_area w text ≡ option_map (λ _. s2) q = rw (← h.told, ← part-front, held-front part, ← rest_is) (sym g) in
          by q d
        where
          by : {A : Type 0} (q : Option A) → spelt_area w text ≡ option_map (λ _. s2) q
              → MatchOption q (readable_with w text ≡ false) (λ _. (spelt_area w text ≡ Some (take (own_words to) to)) × (length text ≡ length (text_with w to)))
          by None d = no_digits_lem w text d
          by (Some u) d = (to_is d, l ∙ f ∙ as_long to (to_front d) (to-long d))

-- ---- the tests of a text, with r in as many bytes as the end of its line 1 tells

module _ (w : ℕ) (text : List ℕ) (form : w ≡ form_of text) where
  pub not-read : readable_with w text ≡ false → readable text ≡ false
  not-read e = (one_form text).readable-by ∙ ap (λ (v : ℕ). readable_with v text) (sym form) ∙ e

  -- the area that is spelt stands in front, and is sound and has its text as all the words do
  module _ (area : List ℕ) (long : Long area) (spelt : spelt_area w text ≡ Some (take (own_words area) area)) where
    tests : readable_with w text ≡ (sound area && same (text_with w area) text)
    unfolding readable_with
    tests = rw (spelt, sound-front area long, text-front w area long)

    pub other_text : false ≡ same (text_with w area) text → readable text ≡ false
    other_text e = not-read (tests ∙ rw (← e) (and-false (sound area)))

    -- it is the text of the area that it spells, and is read if that is sound
    pub decided : (fits : Bool) → fits ≡ sound area → true ≡ same (text_with w area) text
        → MatchOption (then_some fits (tt {0})) (readable text ≡ false) (λ _. (readable text ≡ true) × (read_area text ≡ Some (take (own_words area) area)))
    decided fits f e = by fits (tests ∙ rw (← f, ← e) (and-true fits))
      where
        by : (b : Bool) → readable_with w text ≡ b
            → MatchOption (then_some b (tt {0})) (readable text ≡ false) (λ _. (readable text ≡ true) × (read_area text ≡ Some (take (own_words area) area)))
        by false r = not-read r
        by true r =
            let o = one_form text in
            let y : readable text ≡ true = o.readable-by ∙ ap (λ (v : ℕ). readable_with v text) (sym form) ∙ r in
            (y, o.area-by y ∙ ap (λ (v : ℕ). spelt_area v text) (sym form) ∙ spelt)
