-- What write and read answer, by what the code makes.
use mathlib.Core.Path.{◌≡◌, refl, sym, ap, ◌∙◌}
use mathlib.Core.Bool.{true, false}
use mathlib.Core.List.{List, [], ◌∷◌, ◌++◌}
use Rattle.std.proofs.Common.{Option, Some, None, Ok, Err, subst}
use Rattle.std.specs.Prelude.{MatchOption, ok_or}
use Prim.Native.Nat.{ℕ, ◌≤◌, ◌<◌}
use native.Mathlib.Omega.{arith}
use borrow.Author.Tests.{lt-ltb, le-ltb}
use lib.ListN.{length, take, drop, get_or}
use Rattle.refusals.specs.declared.Refusal.{Refusal}
use Rattle.refusals.specs.Refusals.{first_refusal, output_test}
use Rattle.refusals.specs.RefusalLaws.{first_part}
use Rattle.calls.specs.Area.{area_words, own_words}
use Rattle.calls.specs.Calls.{area_tests}
use Rattle.area.specs.SoundLaws.{LongSound}
use Rattle.calls.proofs.AreaLaws.{limit-word}
use Rattle.texts.specs.Text.{text_of, read_area, readable, area_in, Written, write_number, write_of, Taken, read_number, read_of}
use Rattle.texts.proofs.LayoutLaws.{own-front}
use Rattle.texts.proofs.ReadLaws.{number_by, read-accepted, write-accepted}

abbrev written : ℕ → ℕ → List ℕ → Written
written number count text = record { number = number; count = count; text = text }

abbrev taken : List ℕ → Taken
taken area = record { number = 0; count = 0; area = area }

-- an area that is short or unsound, and an output that is short
pub write_unsound : {n : ℕ} (area out : List ℕ) → n ≡ first_refusal (area_tests area) → (n ≡ 0 → ⊥) → n ≡ write_number area out
unfolding write_number
write_unsound area out e h = e ∙ first_part (area_tests area) (output_test (length (text_of area)) out ∷ []) (λ z. h (e ∙ z))

pub write-output : (area out : List ℕ) → LongSound area → length out < length (text_of area) → 9 ≡ write_number area out
unfolding write_number
write-output area out s h =
    rw (le-ltb (length area) (own_words area) s.long, s.is_sound, lt-ltb (length out) (length (text_of area)) h)

pub write_done : (area out : List ℕ) (n : ℕ) (ys : List ℕ) → LongSound area → n ≡ length (text_of area)
    → n ≤ length out → ys ≡ text_of area → written 0 n (ys ++ drop n out) ≡ write_of area out
write_done area out n ys s size l y =
    ap (λ (x : List ℕ). written 0 n (x ++ drop n out)) y
    ∙ ap (λ (m : ℕ). written 0 m (text_of area ++ drop m out)) size
    ∙ sym (write-accepted area out s.long s.is_sound (omega (arith, size)))

-- what spells a text answers none or some: then the read is refused or goes on
pub told-none : {A : Type 0} (P : Type 0) (Q : A → Type 0) (o : Option A) (e r : Refusal) → ok_or o e ≡ Err r → MatchOption o P Q → (r ≡ e) × P
told-none P Q None e r q m = (cc, m)
told-none P Q (Some a) e r q m = cc

pub told-some : {A : Type 0} (P : Type 0) (Q : A → Type 0) (o : Option A) (e : Refusal) (a : A) → ok_or o e ≡ Ok a → MatchOption o P Q → Q a
told-some P Q None e a q m = cc
told-some P Q (Some b) e a q m = subst Q (let k : b ≡ a = cc in k) m

-- a text that is not read
pub read-text : (area text : List ℕ) → readable text ≡ false → 11 ≡ read_number area text
read-text area text e = sym (number_by area text false _ e refl)

-- a text that is read: the words s begin with the area that it spells, as many as n
module _ (area text s : List ℕ) (n : ℕ) (size : n ≡ area_words (get_or s 4 0)) (room : n ≤ length s)
    (told : (readable text ≡ true) × (read_area text ≡ Some (take (own_words s) s))) where
  abbrev new : List ℕ
  new = take (own_words s) s

  own-size : own_words s ≡ n
  own-size = omega (arith, limit-word s, size)

  new-size : own_words new ≡ n
  new-size = own-front s (omega (arith, own-size, room)) ∙ own-size

  -- the area is short for it
  pub read-area : length area < n → 7 ≡ read_number area text
  read-area h =
      let a : own_words (area_in text) ≡ n = rw told.1 new-size in
      sym (number_by area text true true told.0 (lt-ltb (length area) (own_words (area_in text)) (omega (arith, a))))

  pub read_done : (ys : List ℕ) → ys ≡ take n s → n ≤ length area → taken (ys ++ drop n area) ≡ read_of area text
  read_done ys y h =
      ap (λ (x : List ℕ). taken (x ++ drop n area)) (y ∙ ap (λ (j : ℕ). take j s) (sym own-size)) ∙ ap (λ (j : ℕ). taken (new ++ drop j area)) (sym new-size)
      ∙ sym (read-accepted area text new (omega (arith, new-size)) told.1 told.0)
