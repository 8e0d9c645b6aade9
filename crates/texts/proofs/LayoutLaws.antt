-- Laws: the parts of an area that a text is made of: its first 16 words one by one, and its levels. All of them lie in the words that
-- its L gives.
use Rattle.std.specs.Prelude.{◌≡◌, refl, List, [], ◌∷◌, ◌++◌, ℕ, suc, ◌≤◌, ◌<◌, length, take, drop, get_or}
use Rattle.std.proofs.Common.{sym, ap, ◌∙◌, arith, length-drop, take-add, drop-drop, drop-cons, take-take, length-take-le}
use Rattle.lists.specs.Append.{cons_eq}
use Rattle.calls.specs.Area.{head_words, own_words, k_of, sound, Long}
use Rattle.calls.proofs.Moved.{SameParts, same-front, same-sound}
use Rattle.texts.specs.Text.{line1_fields, text_with}
use Rattle.texts.proofs.FieldLaws.{words-head, fields-same}

-- ---- the words before the levels

take-one : (n k : ℕ) (area : List ℕ) → k < length area → take (suc n) (drop k area) ≡ get_or area k 0 ∷ take n (drop (suc k) area)
take-one n k area h = rw (drop-cons area k 0 h)

pub head-words : (area : List ℕ) → head_words ≤ length area →
    take head_words area
    ≡ get_or area 0 0
    ∷ get_or area 1 0
    ∷ get_or area 2 0
    ∷ get_or area 3 0
    ∷ get_or area 4 0
    ∷ get_or area 5 0
    ∷ (k_of area ++ (get_or area 14 0 ∷ get_or area 15 0 ∷ []))
head-words area h =
    let e : take 10 (drop 6 area) ≡ k_of area ++ take 2 (drop 14 area) = take-add 8 2 (drop 6 area) ∙ rw (drop-drop 8 6 area) in
    let f : take 2 (drop 14 area) ≡ get_or area 14 0 ∷ get_or area 15 0 ∷ [] =
    take-one 1 14 area (omega arith) ∙ cons_eq refl (take-one 0 15 area (omega arith)) in
    take-one 15 0 area (omega arith)
    ∙ cons_eq refl (take-one 14 1 area (omega arith)
    ∙ cons_eq refl (take-one 13 2 area (omega arith)
    ∙ cons_eq refl (take-one 12 3 area (omega arith)
    ∙ cons_eq refl (take-one 11 4 area (omega arith)
    ∙ cons_eq refl (take-one 10 5 area (omega arith)
    ∙ cons_eq refl (e ∙ ap (λ (l : List ℕ). k_of area ++ l) f))))))

pub length-key_of : (area : List ℕ) → head_words ≤ length area → length (k_of area) ≡ 8
length-key_of area h = length-take-le 8 (drop 6 area) (rw length-drop (omega arith))

-- ---- words past those that L gives do not count

-- areas that are the same in those have one text
pub same_text : (w : ℕ) (x y : List ℕ) → SameParts x y → text_with w x ≡ text_with w y
unfolding text_with
same_text w x y s =
    rw (
      fields-same (line1_fields w) x y (words-head w) s.word,
      s.word 0 (omega arith),
      s.word 1 (omega arith),
      s.params,
      s.key,
      s.levels,
    )

front_same : (area : List ℕ) → Long area → SameParts area (take (own_words area) area)
front_same area h = same-front area (take (own_words area) area) h (sym (take-take (own_words area) (own_words area) area (omega arith)))

pub sound-front : (area : List ℕ) → Long area → sound (take (own_words area) area) ≡ sound area
sound-front area h = sym (same-sound area (take (own_words area) area) (front_same area h))

pub text-front : (w : ℕ) (area : List ℕ) → Long area → text_with w (take (own_words area) area) ≡ text_with w area
text-front w area h = sym (same_text w area (take (own_words area) area) (front_same area h))

pub own-front : (area : List ℕ) → Long area → own_words (take (own_words area) area) ≡ own_words area
own-front area h = rw (← (front_same area h).params) refl
