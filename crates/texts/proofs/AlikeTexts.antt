-- Laws: what stands past the words that L gives changes no answer: two areas that are alike in those write alike and read alike, however
-- long each is. The laws of the other calls: Alike of `calls`.
use Rattle.std.specs.Prelude.{◌≡◌, refl, List, ℕ, zero, suc, length}
use Rattle.std.proofs.Common.{sym, ◌∙◌, arith, le-ltb}
use Rattle.calls.specs.Area.{params_of, own_words, Long}
use Rattle.calls.proofs.Moved.{alike-long, same-front, same-sound}
use Rattle.calls.proofs.Alike.{shorter-alike, by_length}
use Rattle.calls.specs.Vocabulary.{SameFront}
use Rattle.texts.specs.Text.{rounds_bytes, area_in, write_number, write_of, read_number, read_of}
use Rattle.texts.specs.Vocabulary.{TakenAlike}
use Rattle.texts.proofs.LayoutLaws.{same_text}
use Rattle.texts.proofs.ReadLaws.{read-refused, read-last, last-front}

-- ---- write

write-long : (out x y : List ℕ) → Long x → SameFront (params_of x).limit x y → write_of x out ≡ write_of y out
unfolding write_of write_number
write-long out x y h e =
    let s = same-front x y h e in
    rw (le-ltb (length x) (own_words x) h, le-ltb (length y) (own_words y) (alike-long x y h e), same-sound x y s, same_text rounds_bytes x y s)

pub write-alike : (x y out : List ℕ) → SameFront (params_of x).limit x y → write_of x out ≡ write_of y out
write-alike x y out = by_length (λ (x y : List ℕ). write_of x out ≡ write_of y out) (λ x. refl) (write-long out) x y

-- ---- read: the words that the text's L gives are those of the text, or stay

read-numbers : (x y text : List ℕ) → SameFront (params_of (area_in text)).limit x y → read_number x text ≡ read_number y text
unfolding read_number
read-numbers x y text e = rw (shorter-alike (own_words (area_in text)) x y e)

pub read_alike : (x y text : List ℕ) → SameFront (params_of (area_in text)).limit x y → TakenAlike (params_of (area_in text)).limit (read_of x text) (read_of y text)
read_alike x y text e = by (read_number x text) refl
  where
    same_number : read_number x text ≡ read_number y text
    same_number = read-numbers x y text e

    by : (k : ℕ) → read_number x text ≡ k → TakenAlike (params_of (area_in text)).limit (read_of x text) (read_of y text)
    by zero f =
        let g = sym same_number ∙ f in
        rw (read-last x text f, read-last y text g) (refl, refl, last-front x text f ∙ sym (last-front y text g))
    by (suc k) f =
        let n : suc k ≡ read_number y text = sym f ∙ same_number in
        rw (← read-refused x text (suc k) (sym f) (omega arith), ← read-refused y text (suc k) n (omega arith)) (refl, refl, e)
