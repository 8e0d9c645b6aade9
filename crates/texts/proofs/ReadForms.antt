-- Laws: which texts are read, in either form, and as which area: line 1 ends at another byte in each form, so that one look tells which of
-- the two a text may be.
use Rattle.std.specs.Prelude.{◌≡◌, refl, Bool, true, false, cond, ◌||◌, Option, Some, None, List, ℕ, ◌≤◌, eqb, length, take, get_or}
use Rattle.std.proofs.Common.{sym, ap, ◌∙◌, arith, eqb-true, eq-eqb, ne_eqb}
use Rattle.std.proofs.Math.Bool.{or-false}
use Rattle.std.proofs.lemmas.Bool.{eqb-false}
use Rattle.lists.specs.And.{and_intro, and_parts}
use Rattle.lists.specs.Same.{same}
use Rattle.lists.specs.SameLaws.{same_refl, same_eq}
use Rattle.calls.specs.Area.{own_words, sound}
use Rattle.texts.specs.Text.{rounds_bytes, old_rounds_bytes, text_with, text_of, old_text_of, spelt_area, text_is, readable_with, readable, read_area}
use Rattle.texts.proofs.HeldLaws.{ranges}
use Rattle.texts.proofs.LayoutLaws.{sound-front, text-front}
use Rattle.texts.proofs.FormLaws.{old_end, new-digit, old_end_lem}
use Rattle.texts.proofs.TextLaws.{RoundsFit, spells-back, length-spelt_area, spelt_area-below, rounds-below}
use Rattle.texts.specs.Vocabulary.{SoundArea, Writing, new_writing, old_writing}

-- ---- tests

-- r fits the bytes that line 1 has for it: two for every sound area, and one up to 255
rounds-fit : (area : List ℕ) → SoundArea area → RoundsFit rounds_bytes area
rounds-fit area s = omega (arith, (ranges area s.is_sound).rounds)

-- a sound area's text is readable
text-readable : (w : ℕ) (area : List ℕ) → SoundArea area → RoundsFit w area → readable_with w (text_with w area) ≡ true
unfolding readable_with
text-readable w area s f =
    rw (spells-back w area s f) (and_intro (sound-front area s.long ∙ s.is_sound)
    (rw (text-front w area s.long) (same_refl (text_with w area))))

-- a text that is readable with r in w bytes spells a sound area, whose text it is
record ReadableWith (w : ℕ) (text : List ℕ) : Type 0 where
  new : List ℕ
  spelt : spelt_area w text ≡ Some new
  is : SoundArea new
  writes : text_with w new ≡ text

readable_with_lem : (w : ℕ) → w ≤ rounds_bytes → (text : List ℕ) → readable_with w text ≡ true → ReadableWith w text
unfolding readable_with
readable_with_lem w small text e = by (spelt_area w text) refl e
  where
    by : (o : Option (List ℕ)) → spelt_area w text ≡ o → text_is w text o ≡ true → ReadableWith w text
    by None f e = let z : ◌≡◌ {A = ℕ} 0 1 = cc in absurd (omega arith)
    by (Some new) f e =
        let p = and_parts (sound new) (same (text_with w new) text) e in
        record {
          new = new;
          spelt = f;
          is = record { words = spelt_area-below w small text new f; long = omega (arith, length-spelt_area w small text new f); is_sound = p.0 };
          writes = same_eq (text_with w new) text p.1;
        }

-- ---- which of the two forms: by the byte where line 1 ended before M-108

-- a text that is readable in the new form has a digit there, and in the old form the end of its line
pub new-form : (text : List ℕ) → readable_with rounds_bytes text ≡ true → 48 ≤ get_or text old_end 0
new-form text e = let r = readable_with_lem rounds_bytes (omega arith) text e in rw (← r.writes) (new-digit r.new)

pub old_form : (text : List ℕ) → readable_with old_rounds_bytes text ≡ true → get_or text old_end 0 ≡ 10
old_form text e = let r = readable_with_lem old_rounds_bytes (omega arith) text e in rw (← r.writes) (old_end_lem r.new)

not-readable : (w : ℕ) (text : List ℕ) → (readable_with w text ≡ true → ⊥) → readable_with w text ≡ false
not-readable w text f = by (readable_with w text) refl
  where
    by : (b : Bool) → readable_with w text ≡ b → b ≡ false
    by true e = absurd (f e)
    by false e = refl

-- the bytes of r in line 1, if that is so
unfoldable pub form_of : List ℕ → ℕ
form_of text = cond (eqb (get_or text old_end 0) 10) old_rounds_bytes rounds_bytes

-- a text is read in this form or not at all
pub record OneForm (text : List ℕ) : Type 0 where
  pub readable-by : readable text ≡ readable_with (form_of text) text
  pub area-by : readable text ≡ true → read_area text ≡ spelt_area (form_of text) text

pub one_form : (text : List ℕ) → OneForm text
unfolding form_of readable read_area
one_form text = by (eqb (get_or text old_end 0) 10) refl
  where
    by : (b : Bool) → eqb (get_or text old_end 0) 10 ≡ b → OneForm text
    by true e =
        let n : readable_with rounds_bytes text ≡ false =
        not-readable rounds_bytes text (λ r. omega (arith, new-form text r, eqb-true (get_or text old_end 0) 10 e)) in
        record { readable-by = rw (e, n); area-by = λ r. rw (e, n) }
    by false e =
        let o : readable_with old_rounds_bytes text ≡ false =
        not-readable old_rounds_bytes text (λ r. eqb-false (get_or text old_end 0) 10 e (old_form text r)) in
        let n : readable text ≡ readable_with rounds_bytes text = rw o (or-false (readable_with rounds_bytes text)) in
        record { readable-by = rw e n; area-by = λ r. rw e (ap (λ (b : Bool). cond b (spelt_area rounds_bytes text) (spelt_area old_rounds_bytes text)) (sym n ∙ r)) }

-- ---- writing, then reading

-- a text that writing a sound area gives, or gave, is read as the words that this area's L gives
pub record ReadAs (text new : List ℕ) : Type 0 where
  pub yes : readable text ≡ true
  pub area : read_area text ≡ Some new

by_form : (w : ℕ) (area : List ℕ) → SoundArea area → RoundsFit w area → form_of (text_with w area) ≡ w → ReadAs (text_with w area) (take (own_words area) area)
by_form w area s f e =
    let o = one_form (text_with w area) in
    let r : readable (text_with w area) ≡ true = o.readable-by ∙ ap (λ (v : ℕ). readable_with v (text_with w area)) e ∙ text-readable w area s f in
    record { yes = r; area = o.area-by r ∙ ap (λ (v : ℕ). spelt_area v (text_with w area)) e ∙ spells-back w area s f }

new_is : (area : List ℕ) → form_of (text_of area) ≡ rounds_bytes
unfolding form_of
new_is area = rw (ne_eqb (get_or (text_of area) old_end 0) 10 (λ e. omega (arith, new-digit area, e)))

old_is : (area : List ℕ) → form_of (old_text_of area) ≡ old_rounds_bytes
unfolding form_of
old_is area = rw (eq-eqb (get_or (old_text_of area) old_end 0) 10 (old_end_lem area))

pub writing_read : (area text : List ℕ) → SoundArea area → Writing area text → ReadAs text (take (own_words area) area)
writing_read area text s (new_writing e) = rw (← e) (by_form rounds_bytes area s (rounds-fit area s) (new_is area))
writing_read area text s (old_writing h e) = rw (← e) (by_form old_rounds_bytes area s (omega (arith, h)) (old_is area))

-- a text that is read is what writing a sound area gives, or gave
pub record Readable (text : List ℕ) : Type 0 where
  pub new : List ℕ
  pub spelt : read_area text ≡ Some new
  pub size : length new ≡ own_words new
  pub is : SoundArea new
  pub writes : Writing new text

pub readable-sound : (text : List ℕ) → readable text ≡ true → Readable text
unfolding readable read_area
readable-sound text e = by (readable_with rounds_bytes text) refl e
  where
    by : (b : Bool) → readable_with rounds_bytes text ≡ b → b || readable_with old_rounds_bytes text ≡ true → Readable text
    by true f e =
        let r = readable_with_lem rounds_bytes (omega arith) text f in
        record { new = r.new; spelt = rw f r.spelt; size = length-spelt_area rounds_bytes (omega arith) text r.new r.spelt; is = r.is; writes = new_writing r.writes }
    by false f e =
        let r = readable_with_lem old_rounds_bytes (omega arith) text e in
        record {
          new = r.new;
          spelt = rw f r.spelt;
          size = length-spelt_area old_rounds_bytes (omega arith) text r.new r.spelt;
          is = r.is;
          writes = old_writing (omega (arith, rounds-below old_rounds_bytes (omega arith) text r.new r.spelt)) r.writes;
        }
