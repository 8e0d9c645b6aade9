-- Laws: of `paste` of the library, which puts the first n of a list into the place of as many others.
use Rattle.std.specs.Prelude.{List, ◌++◌, ◌≡◌, ℕ, ◌+◌, ◌≤◌, length, drop}
use Rattle.std.proofs.Common.{append_assoc, arith, drop-drop, take-add}
use Rattle.std.proofs.Math.Seq.{paste, take-append-add, drop-append-add}
use Rattle.std.proofs.lemmas.List.Edits.{take-paste, drop-paste}
use Rattle.std.proofs.lemmas.List.{take-append-le, drop-append-le}

-- n elements, and then the next m
pub paste_more : {A : Type 0} (d : List A) (at : ℕ) (s : List A) (n m : ℕ) → at + n + m ≤ length d → n + m ≤ length s
    → paste (paste d at s n) (at + n) (drop n s) m ≡ paste d at s (n + m)
paste_more d at s n m hd hs =
    let a : at + (n + m) ≡ at + n + m = omega arith in
    let t = take-paste d at s n (omega arith) (omega arith) in
    let r = drop-paste d at s n (omega arith) (omega arith) in
    rw (a, ← drop-drop m (at + n) (paste d at s n), t, r, drop-drop m (at + n) d, take-add n m s) (simp append_assoc)

-- the elements that are replaced lie within the middle one of three lists
pub paste_middle : {A : Type 0} (a w c : List A) (o : ℕ) (s : List A) (n : ℕ) → o + n ≤ length w
    → paste (a ++ (w ++ c)) (length a + o) s n ≡ a ++ (paste w o s n ++ c)
paste_middle a w c o s n h =
    let e : length a + o + n ≡ length a + (o + n) = omega arith in
    rw (e, take-append-add a (w ++ c) o, drop-append-add a (w ++ c) (o + n), take-append-le o w c (omega arith), drop-append-le (o + n) w c h)
    (simp append_assoc)
