-- Laws: what a read leaves. The words past the length that the text's L gives are "the untouched tail", of every area and text; an
-- accepted read leaves a sound area of the length that it had. The laws of open, feed, end and close: Tails and Leaves of `calls`.
use Rattle.std.specs.Prelude.{◌≡◌, refl, List, ℕ, zero, suc, drop}
use Rattle.std.proofs.Common.{sym, ◌∙◌, arith}
use Rattle.calls.specs.Area.{own_words}
use Rattle.calls.specs.Vocabulary.{LeavesSound}
use Rattle.texts.specs.Text.{area_in, read_number, read_of}
use Rattle.texts.proofs.ReadLaws.{read-refused, read_number_lem, read-last, last-tail, last-size, last-long, last-sound}

pub read-tail : (area text : List ℕ) → drop (own_words (area_in text)) (read_of area text).area ≡ drop (own_words (area_in text)) area
read-tail area text = by (read_number area text) refl
  where
    by : (k : ℕ) → read_number area text ≡ k → drop (own_words (area_in text)) (read_of area text).area ≡ drop (own_words (area_in text)) area
    by zero e = rw (read-last area text e) (last-tail area text e)
    by (suc k) e = rw (← read-refused area text (suc k) (sym e) (omega arith)) refl

-- of any area, whatever it held
pub read-leaves-sound : (area text : List ℕ) → (read_of area text).number ≡ 0 → LeavesSound area (read_of area text).area
read-leaves-sound area text e =
    let z : read_number area text ≡ 0 = sym (read_number_lem area text) ∙ e in
    rw (read-last area text z) (record { size = last-size area text z; long = last-long area text z; is_sound = last-sound area text z })
