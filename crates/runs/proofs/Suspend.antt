-- Laws: an area that stands for a message, open or ended: when its text is read into any area, that area stands for the same message.
use Rattle.std.specs.Prelude.{◌≡◌, Bool, true, false, Some, List, [], ◌∷◌, ◌++◌, ℕ, ◌^◌, ◌≤◌, length, take, drop}
use Rattle.std.proofs.Common.{sym, ap, ◌∙◌, arith, take_at, take-take, length-take-le}
use Rattle.lists.specs.Below.{Below}
use Rattle.tree.specs.Tree.{Params}
use Rattle.calls.specs.Area.{own_words, params_of, sound}
use Rattle.calls.proofs.Stands.{Head, Stands, HasEnded, stands-sound, ended-sound}
use Rattle.refusals.specs.Refusals.{first_refusal}
use Rattle.calls.specs.Calls.{short_test}
use Rattle.calls.specs.Vocabulary.{SameFront}
use Rattle.calls.proofs.Moved.{stands-moved, ended-moved, stands-below, ended-below}
use Rattle.texts.specs.Text.{rounds_bytes, text_of, read_area, read_number, read_of}
use Rattle.texts.proofs.LayoutLaws.{sound-front, text-front, own-front}
use Rattle.texts.proofs.ReadForms.{ReadAs, writing_read}
use Rattle.texts.specs.Vocabulary.{SoundArea, new_writing}
use Rattle.texts.proofs.ReadLaws.{read_number_lem, read-passed, read-accepted}

-- false while the stream is open, true once it has ended
pub data At (P : Params) (M : List Bool) (area : List ℕ) : Bool → Type 0 where
  is_open : Stands P M area → At P M area false
  has_ended : HasEnded P M area → At P M area true

at_head : {P : Params} {M : List Bool} {area : List ℕ} {e : Bool} → At P M area e → Head P M area
at_head (is_open s) = s.head
at_head (has_ended s) = s.head

pub at-sound : {P : Params} {M : List Bool} {area : List ℕ} {e : Bool} → At P M area e → sound area ≡ true
at-sound (is_open s) = stands-sound s
at-sound (has_ended s) = ended-sound s

at-below : {P : Params} {M : List Bool} {area : List ℕ} {e : Bool} → At P M area e → Below (2 ^ 64) (take (own_words area) area)
at-below (is_open s) = stands-below s
at-below (has_ended s) = ended-below s

at_moved : {P : Params} {M : List Bool} {area : List ℕ} {e : Bool} (to : List ℕ) → SameFront (params_of area).limit area to → At P M area e → At P M to e
at_moved {P} {M} {area} to t (is_open s) = is_open (stands-moved P M area to t s)
at_moved {P} {M} {area} to t (has_ended s) = has_ended (ended-moved P M area to t s)

-- its text is read as the words that its L gives, which are all that the text goes by
at_read : {P : Params} {M : List Bool} (area : List ℕ) {e : Bool} → At P M area e → ReadAs (text_of area) (take (own_words area) area)
at_read area s =
    let long = (at_head s).long in
    let n = own-front area long in
    let front : List ℕ = take (own_words area) area in
    let sa : SoundArea front = record {
      words = at-below s;
      long = rw n (omega (arith, length-take-le (own_words area) area long));
      is_sound = sound-front area long ∙ at-sound s;
    } in
    let same : take (own_words front) front ≡ front = rw n (take-take (own_words area) (own_words area) area (omega arith)) in
    rw same at (writing_read front (text_of area) sa (new_writing (text-front rounds_bytes area long)))

-- so it goes into every area that is not short by its L
pub at-read-back : {P : Params} {M : List Bool} (area into : List ℕ) {e : Bool} → At P M area e
    → (read_of into (text_of area)).number ≡ first_refusal (short_test into P.limit ∷ [])
unfolding read_number
at-read-back {P} area into s =
    let r = at_read area s in
    let h = at_head s in
    read_number_lem into (text_of area)
    ∙ rw (r.yes, r.area, own-front area h.long) (ap (λ (Q : Params). first_refusal (short_test into Q.limit ∷ [])) h.params)

-- an accepted read of the area's text, into any area
pub at_resumed : {P : Params} {M : List Bool} (area into text : List ℕ) {e : Bool} → At P M area e → text ≡ text_of area
    → read_number into text ≡ 0 → At P M (read_of into text).area e
at_resumed area into text s t e =
    let p = read-passed into text e in
    let long = (at_head s).long in
    let n = own-front area long in
    let new : List ℕ = take (own_words area) area in
    let spelt : read_area text ≡ Some new = ap read_area t ∙ (at_read area s).area in
    let fits : own_words new ≤ length into = rw spelt at p.1 in
    let front : take (own_words area) (new ++ drop (own_words area) into) ≡ new = take_at new (drop (own_words area) into) (own_words area) (length-take-le (own_words area) area long) in
    rw (read-accepted into text new fits spelt p.0, n) (at_moved (new ++ drop (own_words area) into) (sym front) s)
