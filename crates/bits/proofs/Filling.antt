-- A step of the filler: one whole word, and a part of one.
use mathlib.Core.Bool.{Bool}
use mathlib.Core.List.{List, append-nil}
use mathlib.Core.Path.{◌≡◌, sym, ap, ◌∙◌}
use Prim.Native.Nat.{ℕ, ◌+◌, ◌-◌, ◌*◌, ◌/◌, ◌%◌, ◌^◌, ◌≤◌, ◌<◌}
use native.Mathlib.Omega.{arith}
use lib.ListN.{length, take, drop, get_or, set, length-drop}
use lib.Seq.{paste, drop-length}
use Rattle.lists.specs.Below.{Below}
use Rattle.lists.specs.BelowLaws.{below_at}
use Rattle.bits.specs.Bits.{bits, bits_of, spell, filled}
use Rattle.bits.specs.BitsLaws.{length-bits, length-bits_of}
use Rattle.bits.specs.FilledLaws.{length-filled, filled-below, filled_more, filled-word}
use Rattle.bits.specs.Read.{word_from}
use Rattle.bits.proofs.Reading.{few-read, whole-read, put-spelt}

-- all bits of a list are replaced
paste_all : {A : Type 0} (d s : List A) (n : ℕ) → length d ≡ n → paste d 0 s n ≡ take n s
paste_all d s n h =
    let e : 0 + n ≡ length d = omega arith in
    rw (e, drop-length d, append-nil (take n s))

pub fill_word : (block : List ℕ) (word : ℕ) (bytes : List ℕ) (start i : ℕ) → word + i < length block → start + 64 * i + 64 ≤ 8 * length bytes
    → set (filled block (64 * word) bytes start (64 * i)) (word + i) (word_from bytes (start + 64 * i)) ≡ filled block (64 * word) bytes start (64 * (i + 1))
fill_word block word bytes start i h g =
    let part : List ℕ = filled block (64 * word) bytes start (64 * i) in
    let s : List Bool = drop (start + 64 * i) (bits_of 8 bytes) in
    let w : ℕ = get_or part (word + i) 0 in
    let l : length part ≡ length block = length-filled block (64 * word) bytes start (64 * i) in
    let v : word_from bytes (start + 64 * i) ≡ spell 0 (paste (bits 64 w) 0 s 64) =
    whole-read bytes (start + 64 * i) (omega arith) ∙ ap (spell 0) (sym (paste_all (bits 64 w) s 64 (length-bits 64 w))) in
    let b : Below (2 ^ 64) part = filled-below block (64 * word) bytes start (64 * i) in
    let a : 64 * (word + i) + 0 ≡ 64 * word + 64 * i = omega arith in
    let e : 64 * (i + 1) ≡ 64 * i + 64 = omega arith in
    rw v (filled-word (word + i) 0 bytes (start + 64 * i) 64 b (omega arith) (omega arith) (omega arith)
    ∙ rw (a, e) (filled_more block (64 * word) bytes start (64 * i) 64 (omega arith) (omega arith)))

pub fill_few : {block : List ℕ} (word offset : ℕ) (bytes : List ℕ) (start n t : ℕ) → Below (2 ^ 64) block → word < length block → offset + (n + t) ≡ 64 → start + n ≤ 8 * length bytes
    → set block word ((get_or block word 0 / 2 ^ (n + t) * 2 ^ n + word_from bytes start / 2 ^ (64 - n)) * 2 ^ t + get_or block word 0 % 2 ^ t)
    ≡ filled block (64 * word + offset) bytes start n
fill_few {block} word offset bytes start n t hb hw ho hs =
    let s : List Bool = drop start (bits_of 8 bytes) in
    let w : ℕ = get_or block word 0 in
    let p = put-spelt 64 offset n t w s ho (below_at hb word hw) (rw (length-drop, length-bits_of) (omega arith)) in
    rw (few-read bytes start n (omega arith) hs, p) (filled-word word offset bytes start n hb hw (omega arith) hs)
