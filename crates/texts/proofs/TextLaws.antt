-- Laws: the digits of a sound area's text spell the words that its L gives.
use Rattle.std.specs.Prelude.{◌≡◌, refl, Bool, true, false, Option, Some, ℕ, suc, ◌*◌, ◌^◌, ◌≤◌, ◌<◌, length, take, drop, get_or, set, replicate}
use Rattle.std.proofs.Common.{sym, ap, ◌∙◌, arith, length-append, length-take, drop_at, drop-drop, get_or-take, get_or-set_same, get_or-set_other, length-take-le}
use mathlib.Core.List.{List, [], ◌∷◌, ◌++◌, map, append_assoc, append-nil, flatten}
use Rattle.std.proofs.lemmas.List.{length-map}
use Rattle.calls.proofs.StaysSound.{levels_of-words}
use Rattle.calls.proofs.WriteLaws.{levels_of-widths}
use Rattle.std.proofs.lemmas.Option.{same_Some}
use Rattle.lists.specs.Below.{Below, none, more}
use Rattle.lists.specs.BelowLaws.{below-append, below-zeros, below_at, below-take, below-drop}
use Rattle.lists.specs.Part.{put}
use Rattle.lists.specs.PartLaws.{put-length}
use Rattle.lists.specs.Flatten.{map-append}
use Rattle.calls.specs.Area.{head_words, block_words, phase_of, total_of, k_of, params_of, area_words, own_levels, own_words, levels_of, empty_level, holds_for}
use Rattle.calls.proofs.Moved.{area-front}
use Rattle.digits.specs.Digits.{hex_digits, word_digits, spelt, spelt_words, all_spelt}
use Rattle.texts.specs.Text.{Field, line1_fields, digits_of, field_digits, line1, line2, level_line, held_levels, held_of, level_lines, text_with, rounds_bytes, line1_bytes, line2_bytes, level_bytes, head_bytes, with_spelt, spelt_fields, spelt_head, spelt_levels, spelt_area}
use Rattle.digits.proofs.DigitLaws.{pow_16, spelt_lt, drop_digits, length-spelt_words, words-exact, all_known, known_all, known_front, Fits, no_word, one_more, fits-append, fits_below, spelt_words-fits}
use Rattle.texts.proofs.FieldLaws.{field_sizes, sizes-word, FieldsFit, told, fields_back, spelt-parts, Spells, fields-spelt}
use Rattle.texts.proofs.LayoutLaws.{head-words, length-key_of}
use Rattle.calls.proofs.AreaLaws.{length-levels_of, limit-word}
use Rattle.calls.proofs.MoreLevels.{holds-length}
use Rattle.texts.proofs.HeldLaws.{Ranges, ranges, Fit, none, line, bare, fit-levels}
use Rattle.texts.proofs.LengthLaws.{length-line1, length-line2, length-level_line, length-held}
use Rattle.texts.specs.Vocabulary.{SoundArea}
use Rattle.texts.proofs.FormLaws.{in_front}

-- ---- the head

-- r fits its w bytes
abbrev pub RoundsFit : ℕ → List ℕ → Type 0
RoundsFit w area = get_or area 5 0 < 16 ^ (2 * w)

fields_fit : (w : ℕ) (area : List ℕ) → Below (2 ^ 64) area → head_words ≤ length area → Ranges area → RoundsFit w area → FieldsFit (line1_fields w) area
fields_fit w area b h g f =
    (omega (arith, g.phase), (f, (omega (arith, g.limit), (omega (arith, g.key_bytes), (omega (arith, g.d), (below_at b 1 (omega arith), (below_at b 14 (omega arith), tt)))))))

head-back : (w : ℕ) (area rest : List ℕ) → Below (2 ^ 64) area → head_words ≤ length area → Ranges area → RoundsFit w area
    → spelt_head (line1_fields w) (line1 (line1_fields w) area ++ (line2 area ++ rest)) ≡ Some (take head_words area)
unfolding spelt_head
head-back w area rest b h g i =
    let fs : List Field = line1_fields w in
    let up : List ℕ = line2 area ++ rest in
    let zeros : List ℕ = replicate head_words 0 in
    let f : spelt_fields fs (line1 fs area ++ up) zeros ≡ Some (told fs area zeros) =
    ap (λ (l : List ℕ). spelt_fields fs l zeros) (append_assoc (field_digits fs area) (10 ∷ []) up) ∙ fields_back fs area zeros (10 ∷ up) (fields_fit w area b h g i) in
    let a : up ≡ word_digits (k_of area) ++ (10 ∷ rest) = append_assoc (word_digits (k_of area)) (10 ∷ []) rest in
    let key : all_spelt (spelt_words 8 (drop (line1_bytes fs) (line1 fs area ++ up))) ≡ Some (k_of area) =
    ap (λ (l : List ℕ). all_spelt (spelt_words 8 l)) (drop_at (line1 fs area) up (line1_bytes fs) (length-line1 fs area) ∙ a)
    ∙ ap all_spelt (words-exact 8 (10 ∷ rest) (below-take 8 (below-drop 6 b)) (length-key_of area h)) ∙ all_known (k_of area) in
    rw (f, key) (ap {B = Option (List ℕ)} Some (sym (rw g.last at (head-words area h))))

-- ---- the levels

levels-back : {hs : List Bool} {ls : List (List ℕ)} (k : ℕ) (rest : List ℕ) → Fit hs ls → spelt_levels hs (level_lines k hs ls ++ rest) ≡ map Some (flatten ls)
unfolding flatten
levels-back k rest none = refl
levels-back k rest (line {hs = hs} {ls = ls} {ws = ws} l b f) =
    let up : List ℕ = level_lines (suc k) hs ls ++ rest in
    let e : level_line k ws ++ level_lines (suc k) hs ls ++ rest ≡ level_line k ws ++ up = append_assoc (level_line k ws) (level_lines (suc k) hs ls) rest in
    let d : level_line k ws ++ up ≡ hex_digits 2 k ++ (word_digits ws ++ (10 ∷ up)) = simp append_assoc in
    let w : spelt_words 64 (drop 2 (level_line k ws ++ up)) ≡ map Some ws =
    ap (λ (x : List ℕ). spelt_words 64 (drop 2 x)) d ∙ rw (drop_digits 2 k (word_digits ws ++ (10 ∷ up))) (words-exact 64 (10 ∷ up) b l) in
    let n : drop level_bytes (level_line k ws ++ up) ≡ up = drop_at (level_line k ws) up level_bytes (length-level_line k ws l) in
    rw (e, n, w, levels-back (suc k) rest f) (sym (map-append Some ws (flatten ls)))
levels-back k rest (bare {ls = ls} {ws = ws} e f) =
    rw (levels-back (suc k) rest f, ← e) (sym (map-append Some ws (flatten ls)))

-- ---- the area

-- L stands before the levels
pub limit-front : (area : List ℕ) → (params_of (take head_words area)).limit ≡ (params_of area).limit
limit-front area = limit-word (take head_words area) ∙ get_or-take head_words area 4 0 (omega arith) ∙ sym (limit-word area)

-- the levels that have a line go by words 0, 1 and 4
pub held-front : (area : List ℕ) → held_of (take head_words area) ≡ held_of area
held-front area =
    ap (λ (p : ℕ). held_levels p (params_of (take 16 area)).limit (get_or (take 16 area) 1 0)) (get_or-take 16 area 0 0 (omega arith))
    ∙ ap (λ (l : ℕ). held_levels (phase_of area) l (get_or (take 16 area) 1 0)) (limit-front area)
    ∙ ap (λ (t : ℕ). held_levels (phase_of area) (params_of area).limit t) (get_or-take 16 area 1 0 (omega arith))

pub spells-back : (w : ℕ) (area : List ℕ) → SoundArea area → RoundsFit w area → spelt_area w (text_with w area) ≡ Some (take (own_words area) area)
unfolding spelt_area text_with
spells-back w area s i =
    let fs : List Field = line1_fields w in
    let ls : List ℕ = level_lines 1 (held_of area) (levels_of area) in
    let g = ranges area s.is_sound in
    let h : head_words ≤ length area = omega (arith, s.long) in
    let n : length (holds_for (own_levels area) (phase_of area) (params_of area).limit (total_of area)) ≡ length (levels_of area) =
    holds-length (own_levels area) (phase_of area) (params_of area).limit (total_of area) ∙ sym (length-levels_of area) in
    let fit = fit-levels area n (levels_of-widths area s.long) (levels_of-words area s.words) g.levels in
    let head : spelt_head fs (line1 fs area ++ (line2 area ++ ls)) ≡ Some (take head_words area) = head-back w area ls s.words h g i in
    let rest : drop (head_bytes w) (line1 fs area ++ (line2 area ++ ls)) ≡ ls =
    sym (drop-drop line2_bytes (line1_bytes fs) (line1 fs area ++ (line2 area ++ ls)))
    ∙ ap (drop line2_bytes) (drop_at (line1 fs area) (line2 area ++ ls) (line1_bytes fs) (length-line1 fs area))
    ∙ drop_at (line2 area) ls line2_bytes (length-line2 area h) in
    let up : spelt_levels (held_of area) ls ≡ map Some (flatten (levels_of area)) = ap (spelt_levels (held_of area)) (sym (append-nil ls)) ∙ levels-back 1 [] fit in
    rw head
    (ap (λ (x : List ℕ). all_spelt (map Some (take head_words area) ++ spelt_levels (held_of (take head_words area)) x)) rest
    ∙ ap (λ (x : List Bool). all_spelt (map Some (take head_words area) ++ spelt_levels x ls)) (held-front area)
    ∙ ap (λ (x : List (Option ℕ)). all_spelt (map Some (take head_words area) ++ x)) up
    ∙ ap all_spelt (sym (map-append Some (take head_words area) (flatten (levels_of area))) ∙ ap (map Some) (sym (area-front area)))
    ∙ all_known (take (own_words area) area))

-- ---- what a text spells is an area of as many words as its L gives

-- words that are spelt are as many as were to be spelt, and fit 64 bits
spelt-length : (xs : List (Option ℕ)) (ws : List ℕ) → all_spelt xs ≡ Some ws → length ws ≡ length xs
spelt-length xs ws e = sym (ap length (known_all xs ws e) ∙ length-map ws Some)

spelt-below : (xs : List (Option ℕ)) (ws : List ℕ) → Fits xs → all_spelt xs ≡ Some ws → Below (2 ^ 64) ws
spelt-below xs ws f e = fits_below xs ws f (known_all xs ws e)

known_fits : {ws : List ℕ} → Below (2 ^ 64) ws → Fits (map Some ws)
known_fits none = no_word
known_fits (more {w = w} h b) = one_more (λ (v : ℕ) (e : ◌≡◌ {A = Option ℕ} (Some w) (Some v)). let k : w ≡ v = cc in omega arith) (known_fits b)

-- words 0 to 15
head-spelt : (fs : List Field) (text head : List ℕ) → Below 17 (field_sizes fs) → spelt_head fs text ≡ Some head → Spells (replicate head_words 0) head
unfolding spelt_head
head-spelt fs text head b e =
    let up : List ℕ = drop (line1_bytes fs) text in
    let f = spelt-parts (spelt_fields fs text (replicate head_words 0)) (λ (ws : List ℕ). with_spelt (all_spelt (spelt_words 8 up)) (λ (key : List ℕ). Some (put 6 8 ws key))) head e in
    let k = spelt-parts (all_spelt (spelt_words 8 up)) (λ (key : List ℕ). Some (put 6 8 f.0 key)) head f.2 in
    let r = fields-spelt fs text (replicate head_words 0) f.0 b f.1 in
    let n : length k.0 ≡ 8 = spelt-length (spelt_words 8 up) k.0 k.1 ∙ length-spelt_words 8 up in
    let is : put 6 8 f.0 k.0 ≡ head = same_Some (put 6 8 f.0 k.0) head k.2 in
    rw (← is) (record {
      size = put-length 6 8 f.0 k.0 (omega (arith, r.size)) n ∙ r.size;
      words = λ c. below-append (below-take 6 (r.words c)) (below-append (spelt-below (spelt_words 8 up) k.0 (spelt_words-fits 8 up) k.1) (below-drop 8 (below-drop 6 (r.words c))));
    })

module _ (w : ℕ) (small : w ≤ rounds_bytes) where
  pub length-spelt_head : (text head : List ℕ) → spelt_head (line1_fields w) text ≡ Some head → length head ≡ head_words
  length-spelt_head text head e = (head-spelt (line1_fields w) text head (sizes-word w small) e).size

length-spelt_levels : (hs : List Bool) (text : List ℕ) → length (spelt_levels hs text) ≡ length hs * block_words
unfolding empty_level
length-spelt_levels [] text = refl
length-spelt_levels (true ∷ hs) text =
    rw (length-append, length-spelt_words 64 (drop 2 text), length-spelt_levels hs (drop level_bytes text)) (omega arith)
length-spelt_levels (false ∷ hs) text = rw (length-append, length-spelt_levels hs text) (omega arith)

spelt_levels-fits : (hs : List Bool) (text : List ℕ) → Fits (spelt_levels hs text)
unfolding empty_level
spelt_levels-fits [] text = no_word
spelt_levels-fits (true ∷ hs) text = fits-append (spelt_words-fits 64 (drop 2 text)) (spelt_levels-fits hs (drop level_bytes text))
spelt_levels-fits (false ∷ hs) text = fits-append (known_fits (below-zeros (2 ^ 64) 64 (omega arith))) (spelt_levels-fits hs text)

-- with r in w bytes, it comes from a head
pub record Headed (w : ℕ) (text area : List ℕ) : Type 0 where
  pub head : List ℕ
  pub spelt : spelt_head (line1_fields w) text ≡ Some head
  pub whole : all_spelt (map Some head ++ spelt_levels (held_of head) (drop (head_bytes w) text)) ≡ Some area

pub headed : (w : ℕ) (text area : List ℕ) → spelt_area w text ≡ Some area → Headed w text area
unfolding spelt_area
headed w text area e =
    let s = spelt-parts (spelt_head (line1_fields w) text) (λ (head : List ℕ). all_spelt (map Some head ++ spelt_levels (held_of head) (drop (head_bytes w) text))) area e in
    record { head = s.0; spelt = s.1; whole = s.2 }

module _ (w : ℕ) (small : w ≤ rounds_bytes) (text area : List ℕ) where
  -- and begins with it
  pub headed-front : (h : Headed w text area) → take head_words area ≡ h.head
  headed-front h =
      ap (λ (n : ℕ). take n area) (sym (length-spelt_head w small text h.head h.spelt))
      ∙ known_front h.head area (spelt_levels (held_of h.head) (drop (head_bytes w) text)) h.whole

  pub length-spelt_area : spelt_area w text ≡ Some area → length area ≡ own_words area
  length-spelt_area e =
      let h = headed w text area e in
      let hs : List Bool = held_of h.head in
      let up : List (Option ℕ) = spelt_levels hs (drop (head_bytes w) text) in
      let n : length (map Some h.head ++ up) ≡ own_words h.head =
      rw (
        length-append (map Some h.head) up,
        length-map h.head Some,
        length-spelt_head w small text h.head h.spelt,
        length-spelt_levels hs (drop (head_bytes w) text),
        length-held h.head,
      )
      (omega arith) in
      spelt-length (map Some h.head ++ up) area h.whole
      ∙ n
      ∙ ap (λ (head : List ℕ). own_words head) (sym (headed-front h))
      ∙ ap area_words (limit-front area)

  pub spelt_area-below : spelt_area w text ≡ Some area → Below (2 ^ 64) area
  spelt_area-below e =
      let h = headed w text area e in
      let up : List (Option ℕ) = spelt_levels (held_of h.head) (drop (head_bytes w) text) in
      let b : Below (2 ^ 64) h.head = (head-spelt (line1_fields w) text h.head (sizes-word w small) h.spelt).words (below-zeros (2 ^ 64) head_words (omega arith)) in
      spelt-below (map Some h.head ++ up) area (fits-append (known_fits b) (spelt_levels-fits (held_of h.head) (drop (head_bytes w) text))) h.whole

-- ---- the word of r, which the second field of line 1 spells and no other

-- a word that no field tells stays
abbrev Untold : ℕ → List Field → Type 0
Untold i [] = Unit {0}
Untold i (f ∷ fs) = (i ≡ f.word → ⊥) × Untold i fs

fields_keep : (fs : List Field) (i : ℕ) (text ws vs : List ℕ) → Untold i fs → spelt_fields fs text ws ≡ Some vs → get_or vs i 0 ≡ get_or ws i 0
fields_keep [] i text ws vs t e = let k : ws ≡ vs = cc in rw k
fields_keep (f ∷ fs) i text ws vs t e =
    let n : ℕ = digits_of f in
    let s = spelt-parts (spelt 0 (take n text)) (λ (x : ℕ). spelt_fields fs (drop n text) (set ws f.word x)) vs e in
    fields_keep fs i (drop n text) (set ws f.word s.0) vs t.1 s.2 ∙ get_or-set_other ws f.word i s.0 0 t.0

fields-rounds : (w : ℕ) (text vs : List ℕ) → spelt_fields (line1_fields w) text (replicate head_words 0) ≡ Some vs → RoundsFit w vs
fields-rounds w text vs e =
    let zeros : List ℕ = replicate head_words 0 in
    let n : ℕ = 2 * w in
    let up : List Field = drop 2 (line1_fields w) in
    let a = spelt-parts (spelt 0 (take 2 text)) (λ (x : ℕ). spelt_fields (drop 1 (line1_fields w)) (drop 2 text) (set zeros 0 x)) vs e in
    let ws : List ℕ = set zeros 0 a.0 in
    let b = spelt-parts (spelt 0 (take n (drop 2 text))) (λ (x : ℕ). spelt_fields up (drop n (drop 2 text)) (set ws 5 x)) vs a.2 in
    let other : Untold 5 up = (λ e. omega (arith, e), (λ e. omega (arith, e), (λ e. omega (arith, e), (λ e. omega (arith, e), (λ e. omega (arith, e), tt))))) in
    let is : get_or vs 5 0 ≡ b.0 = fields_keep up 5 (drop n (drop 2 text)) (set ws 5 b.0) vs other b.2 ∙ get_or-set_same ws 5 b.0 0 (omega arith) in
    rw (is, pow_16 n) (spelt_lt n b.0 (take n (drop 2 text)) (rw length-take (omega arith)) b.1)

-- so r is below what its bytes hold
pub rounds-below : (w : ℕ) → w ≤ rounds_bytes → (text area : List ℕ) → spelt_area w text ≡ Some area → RoundsFit w area
unfolding spelt_head
rounds-below w small text area e =
    let h = headed w text area e in
    let up : List ℕ = drop (line1_bytes (line1_fields w)) text in
    let f = spelt-parts (spelt_fields (line1_fields w) text (replicate head_words 0)) (λ (ws : List ℕ). with_spelt (all_spelt (spelt_words 8 up)) (λ (key : List ℕ). Some (put 6 8 ws key))) h.head h.spelt in
    let k = spelt-parts (all_spelt (spelt_words 8 up)) (λ (key : List ℕ). Some (put 6 8 f.0 key)) h.head f.2 in
    let size : length f.0 ≡ head_words = (fields-spelt (line1_fields w) text (replicate head_words 0) f.0 (sizes-word w small) f.1).size in
    let is : get_or area 5 0 ≡ get_or f.0 5 0 =
    sym (get_or-take head_words area 5 0 (omega arith))
    ∙ ap (λ (l : List ℕ). get_or l 5 0) (headed-front w small text area h ∙ sym (same_Some (put 6 8 f.0 k.0) h.head k.2))
    ∙ in_front (take 6 f.0) (k.0 ++ drop 8 (drop 6 f.0)) 6 5 (length-take-le 6 f.0 (omega arith)) (omega arith)
    ∙ get_or-take 6 f.0 5 0 (omega arith) in
    rw is (fields-rounds w text f.0 f.1)
