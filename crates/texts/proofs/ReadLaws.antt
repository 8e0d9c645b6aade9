-- Laws: demand 2 for suspended text, in both forms: reading what was written gives the same area; one text stands for one area; a text
-- that is read is what its area writes, or wrote before M-108; a text is read exactly if some sound area writes it, or wrote it, and the
-- area lent has the words that its L gives; and one that no sound area writes, or wrote, gets 11.
use Rattle.std.specs.Prelude.{◌≡◌, refl, Bool, true, false, cond, Some, List, [], ◌∷◌, ◌++◌, ◌↔◌, ◌⊎◌, ℕ, ◌^◌, ◌≤◌, ltb, length, take, drop}
use Rattle.std.proofs.Math.Path.{sym}
use Rattle.std.proofs.Common.{ap, ◌∙◌, inl, inr, arith, ltb-false, le-ltb, length-append, drop_at, length-take-le}
use Rattle.std.proofs.lemmas.Bool.{not-false}
use Rattle.std.proofs.Math.ListN.{length-drop}
use Rattle.std.proofs.Math.Seq.{take_at, take_all}
use Rattle.std.proofs.lemmas.Option.{same_Some}
use Rattle.lists.specs.Below.{Below}
use Rattle.lists.specs.BelowLaws.{below-append, below-drop}
use Rattle.refusals.specs.Refusals.{output_test}
use Rattle.calls.specs.Area.{params_of, own_words, sound, Long}
use Rattle.refusals.specs.RefusalLaws.{passed, answer_number, answer_refused}
use Rattle.calls.specs.Calls.{area_tests}
use Rattle.texts.specs.Text.{rounds_bytes, old_rounds_bytes, text_of, readable, read_area, area_in, Written, write_number, write_of, Taken, read_number, read_of}
use Rattle.calls.proofs.Moved.{SameParts, alike-long, same-front, same-sound}
use Rattle.calls.specs.Vocabulary.{SameFront}
use Rattle.texts.proofs.LayoutLaws.{same_text, own-front}
use Rattle.texts.proofs.FormLaws.{old_widened}
use Rattle.texts.proofs.ReadForms.{writing_read, Readable, readable-sound}
use Rattle.texts.specs.Vocabulary.{SoundArea, Writing, new_writing, old_writing, WrittenBy, widened}

-- ---- what is accepted

pub read-accepted : (area text new : List ℕ) → own_words new ≤ length area → read_area text ≡ Some new → readable text ≡ true
    → read_of area text ≡ record { number = 0; count = 0; area = new ++ drop (own_words new) area }
unfolding read_of read_number
read-accepted area text new h s e = rw (s, e, le-ltb (length area) (own_words new) h)

pub read_number_lem : (area text : List ℕ) → (read_of area text).number ≡ read_number area text
unfolding read_of
read_number_lem area text = answer_number (λ (x : Taken). x.number) (read_number area text) _ _ refl (λ k. refl)

pub read-refused : (area text : List ℕ) (k : ℕ) → k ≡ read_number area text → (k ≡ 0 → ⊥) → record { number = k; count = 0; area = area } ≡ read_of area text
unfolding read_of
read-refused area text k = answer_refused k (read_number area text) _ (λ k. record { number = k; count = 0; area = area })

-- by whether the text is read, and then by whether the area is short for it
pub number_by : (area text : List ℕ) (r t : Bool) → readable text ≡ r → ltb (length area) (own_words (area_in text)) ≡ t
    → read_number area text ≡ cond r (cond t 7 0) 11
unfolding read_number
number_by area text true t f g = rw (f, g)
number_by area text false t f g = rw f

pub read-passed : (area text : List ℕ) → read_number area text ≡ 0 → (readable text ≡ true) × (own_words (area_in text) ≤ length area)
read-passed area text e = by (readable text) (ltb (length area) (own_words (area_in text))) refl refl
  where
    by : (r t : Bool) → readable text ≡ r → ltb (length area) (own_words (area_in text)) ≡ t → (readable text ≡ true) × (own_words (area_in text) ≤ length area)
    by true false f g = (f, ltb-false (length area) (own_words (area_in text)) g)
    by true true f g = absurd (omega (arith, e, number_by area text true true f g))
    by false t f g = absurd (omega (arith, e, number_by area text false t f g))

-- an accepted read: what the text spells, and room for it
pub record ReadPassed (area text : List ℕ) : Type 0 where
  pub from : Readable text
  pub room : own_words from.new ≤ length area

pub read-from : (area text : List ℕ) → read_number area text ≡ 0 → ReadPassed area text
read-from area text e =
    let p = read-passed area text e in
    let r = readable-sound text p.0 in
    record { from = r; room = rw r.spelt at p.1 }

pub write-number : (area out : List ℕ) → (write_of area out).number ≡ write_number area out
unfolding write_of
write-number area out = answer_number (λ (x : Written). x.number) (write_number area out) _ _ refl (λ k. refl)

pub write-refused : (area out : List ℕ) (k : ℕ) → k ≡ write_number area out → (k ≡ 0 → ⊥) → record { number = k; count = 0; text = out } ≡ write_of area out
unfolding write_of
write-refused area out k = answer_refused k (write_number area out) _ (λ k. record { number = k; count = 0; text = out })

pub record WritePassed (area out : List ℕ) : Type 0 where
  pub long : Long area
  pub is_sound : sound area ≡ true
  pub room : length (text_of area) ≤ length out

write-passed : (area out : List ℕ) → write_number area out ≡ 0 → WritePassed area out
unfolding write_number
write-passed area out e =
    let p = passed (area_tests area ++ (output_test (length (text_of area)) out ∷ [])) refl e in
    record { long = ltb-false _ _ (p 0); is_sound = not-false _ (p 1); room = ltb-false _ _ (p 2) }

pub write-accepted : (area out : List ℕ) → Long area → sound area ≡ true → length (text_of area) ≤ length out
    → write_of area out ≡ record { number = 0; count = length (text_of area); text = text_of area ++ drop (length (text_of area)) out }
unfolding write_of write_number
write-accepted area out h s l = rw (le-ltb (length area) (own_words area) h, s, le-ltb (length out) (length (text_of area)) l)

-- ---- demand 2

-- the text that a write put out: the first bytes of its output, as many as its count says
pub written-text : (area out : List ℕ) → write_number area out ≡ 0 → take (write_of area out).count (write_of area out).text ≡ text_of area
written-text area out e =
    let p = write-passed area out e in
    rw (write-accepted area out p.long p.is_sound p.room)
    (take_at (text_of area) (drop (length (text_of area)) out) (length (text_of area)) refl)

-- "either reads back to its area": a text that writing a sound area gives, or gave before M-108, is accepted by any area that has the words
-- which its L gives, and gives these words; the tail of the area read into stays
pub reads-back : (area text other : List ℕ) → SoundArea area → Writing area text → own_words area ≤ length other
    → read_of other text ≡ record { number = 0; count = 0; area = take (own_words area) area ++ drop (own_words area) other }
reads-back area text other s w h =
    let r = writing_read area text s w in
    let n = own-front area s.long in
    read-accepted other text (take (own_words area) area) (rw n h) r.area r.yes
    ∙ ap (λ (m : ℕ). taken (take (own_words area) area ++ drop m other)) n
  where
    taken : List ℕ → Taken
    taken area = record { number = 0; count = 0; area = area }

-- and so what a write put out
pub read_back : (area out other : List ℕ) → Below (2 ^ 64) area → write_number area out ≡ 0 → own_words area ≤ length other
    → read_of other (take (write_of area out).count (write_of area out).text)
    ≡ record { number = 0; count = 0; area = take (own_words area) area ++ drop (own_words area) other }
read_back area out other b e h =
    let p = write-passed area out e in
    let s : SoundArea area = record { words = b; long = p.long; is_sound = p.is_sound } in
    ap (read_of other) (written-text area out e) ∙ reads-back area (text_of area) other s (new_writing refl) h

-- "a text read into an area just long enough gives the same stream": the two areas are alike in the words that L gives, however long each is
pub reads_same : (area text other : List ℕ) → SoundArea area → Writing area text → own_words area ≤ length other
    → SameFront (params_of area).limit area (read_of other text).area
reads_same area text other s w h =
    rw (reads-back area text other s w h)
    (sym (take_at (take (own_words area) area) (drop (own_words area) other) (own_words area) (length-take-le (own_words area) area s.long)))

-- two sound areas with one text, each in either form, agree in those words
pub one-text : (a b text : List ℕ) → SoundArea a → SoundArea b → Writing a text → Writing b text → take (own_words a) a ≡ take (own_words b) b
one-text a b text s t v w =
    same_Some (take (own_words a) a) (take (own_words b) b) (sym (writing_read a text s v).area ∙ (writing_read b text t w).area)

-- the area after an accepted read, new being what the text spells
module _ (area text : List ℕ) (e : read_number area text ≡ 0) where
  accepted : ReadPassed area text
  accepted = read-from area text e

  new : List ℕ
  new = accepted.from.new

  pub last : List ℕ
  last = new ++ drop (own_words new) area

  pub read-last : read_of area text ≡ record { number = 0; count = 0; area = last }
  unfolding last new
  read-last = read-accepted area text new accepted.room accepted.from.spelt (read-passed area text e).0

  begins : take (own_words new) last ≡ new
  unfolding last new
  begins = take_at new (drop (own_words new) area) (own_words new) accepted.from.size

  -- it begins with what the text spells, and the tail stays
  pub last-front : take (own_words (area_in text)) last ≡ area_in text
  unfolding new
  last-front = rw accepted.from.spelt begins

  pub last-tail : drop (own_words (area_in text)) last ≡ drop (own_words (area_in text)) area
  unfolding last new
  last-tail = rw accepted.from.spelt (drop_at new (drop (own_words new) area) (own_words new) accepted.from.size)

  pub last-size : length last ≡ length area
  unfolding last new
  last-size = rw (length-append new (drop (own_words new) area), length-drop (own_words new) area) (omega (arith, accepted.from.size, accepted.room))

  front : SameFront (params_of new).limit new last
  unfolding new
  front = take_all (own_words new) new (omega (arith, accepted.from.size)) ∙ sym begins

  same : SameParts new last
  unfolding new
  same = same-front new last accepted.from.is.long front

  pub last-long : Long last
  unfolding new
  last-long = alike-long new last accepted.from.is.long front

  pub last-sound : sound last ≡ true
  unfolding new
  last-sound = sym (same-sound new last same) ∙ accepted.from.is.is_sound

  read-sound-by : Below (2 ^ 64) area → SoundArea last
  unfolding last new
  read-sound-by b = record { words = below-append accepted.from.is.words (below-drop (own_words new) b); long = last-long; is_sound = last-sound }

  last-writes : Writing new text → Writing last text
  last-writes (new_writing w) = new_writing (sym (same_text rounds_bytes new last same) ∙ w)
  last-writes (old_writing h w) = old_writing (rw (← same.word 5 (omega arith)) h) (sym (same_text old_rounds_bytes new last same) ∙ w)

  last_written : Writing last text
  unfolding new
  last_written = last-writes accepted.from.writes

-- an accepted read leaves a sound area
pub read-sound : (area text : List ℕ) → Below (2 ^ 64) area → read_number area text ≡ 0 → SoundArea (read_of area text).area
read-sound area text b e = rw (read-last area text e) (read-sound-by area text e b)

-- a text that is read is what the area read writes, or wrote before M-108
pub writes-back : (area text : List ℕ) → read_number area text ≡ 0 → Writing (read_of area text).area text
writes-back area text e = rw (read-last area text e) (last_written area text e)

-- so that area writes the text in the new form: the text itself, or an old one with two digits more
pub writes-new : (area text : List ℕ) → read_number area text ≡ 0 → (text_of (read_of area text).area ≡ text) ⊎ (text_of (read_of area text).area ≡ widened text)
writes-new area text e = by (writes-back area text e)
  where
    by : Writing (read_of area text).area text → (text_of (read_of area text).area ≡ text) ⊎ (text_of (read_of area text).area ≡ widened text)
    by (new_writing w) = inl w
    by (old_writing h w) = inr (old_widened (read_of area text).area h ∙ ap widened w)

-- "a text is read exactly if it is new writing or was old writing", by an area that has the words which its L gives
pub readable_iff : (area text : List ℕ) → ((read_of area text).number ≡ 0) ↔ ((w : WrittenBy text) × (own_words w.area ≤ length area))
readable_iff area text = (there, back)
  where
    there : (read_of area text).number ≡ 0 → (w : WrittenBy text) × (own_words w.area ≤ length area)
    there e =
        let p = read-from area text (sym (read_number_lem area text) ∙ e) in
        (record { area = p.from.new; is = p.from.is; writes = p.from.writes }, p.room)

    back : (w : WrittenBy text) × (own_words w.area ≤ length area) → (read_of area text).number ≡ 0
    back (w, h) = ap (λ (x : Taken). x.number) (reads-back w.area text area w.is w.writes h)

-- "any other gets 11", whatever the area, also one that is short
pub other_iff : (area text : List ℕ) → ((read_of area text).number ≡ 11) ↔ (WrittenBy text → ⊥)
other_iff area text = (λ e w. there w (sym (read_number_lem area text) ∙ e) short refl, λ f. read_number_lem area text ∙ back f (readable text) refl)
  where
    short : Bool
    short = ltb (length area) (own_words (area_in text))

    there : WrittenBy text → read_number area text ≡ 11 → (t : Bool) → short ≡ t → ⊥
    there w e true g = omega (arith, e, number_by area text true true (writing_read w.area text w.is w.writes).yes g)
    there w e false g = omega (arith, e, number_by area text true false (writing_read w.area text w.is w.writes).yes g)

    back : (WrittenBy text → ⊥) → (b : Bool) → readable text ≡ b → read_number area text ≡ 11
    back f true e = let r = readable-sound text e in absurd (f (record { area = r.new; is = r.is; writes = r.writes }))
    back f false e = number_by area text false short e refl
