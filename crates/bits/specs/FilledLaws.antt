-- Laws: of `filled`: none copied, more copied, and a store of one word.
use Rattle.std.specs.Prelude.{Bool, List, [], ◌∷◌, ◌++◌, ◌≡◌, refl, ℕ, suc, ◌+◌, ◌*◌, ◌^◌, ◌≤◌, ◌<◌, length, take, drop, get_or, set}
use Rattle.std.proofs.Common.{append-nil, sym, ap, ◌∙◌, arith, length-drop, length-take-le, drop-drop, take_all}
use Rattle.std.proofs.Math.Seq.{paste, paste-zero, split_at}
use Rattle.std.proofs.lemmas.List.Edits.{length-paste}
use Rattle.std.proofs.lemmas.List.{set_split}
use Rattle.lists.specs.Below.{Below}
use Rattle.lists.specs.BelowLaws.{below-take, below-drop}
use Rattle.lists.specs.Paste.{paste_more, paste_middle}
use Rattle.bits.specs.Bits.{bits, bits_of, spell, numbers, filled}
use Rattle.bits.specs.BitsLaws.{length-bits, length-bits_of, length-numbers, bits_of-append, bits_of-numbers, numbers-bits_of, numbers-append, numbers-one, numbers-exact, numbers-below}

pub length-filled : (block : List ℕ) (at : ℕ) (bytes : List ℕ) (start count : ℕ) → length (filled block at bytes start count) ≡ length block
unfolding filled
length-filled block at bytes start count = simp length-numbers

pub filled-below : (block : List ℕ) (at : ℕ) (bytes : List ℕ) (start count : ℕ) → Below (2 ^ 64) (filled block at bytes start count)
unfolding filled
filled-below block at bytes start count = numbers-below 64 (length block) (paste (bits_of 64 block) at (drop start (bits_of 8 bytes)) count)

-- the bits of the filled block
pub bits_of-filled : (block : List ℕ) (at : ℕ) (bytes : List ℕ) (start count : ℕ) → at + count ≤ 64 * length block → start + count ≤ 8 * length bytes
    → bits_of 64 (filled block at bytes start count) ≡ paste (bits_of 64 block) at (drop start (bits_of 8 bytes)) count
unfolding filled
bits_of-filled block at bytes start count h g =
    let d : List Bool = bits_of 64 block in
    let s : List Bool = drop start (bits_of 8 bytes) in
    let l : length (paste d at s count) ≡ length block * 64 =
    length-paste d at s count (rw length-bits_of (omega arith)) (rw (length-drop, length-bits_of) (omega arith)) ∙ length-bits_of 64 block in
    bits_of-numbers 64 (length block) (paste d at s count) (omega arith) ∙ take_all (length block * 64) (paste d at s count) (omega arith)

pub filled_none : {block : List ℕ} (at : ℕ) (bytes : List ℕ) (start : ℕ) → Below (2 ^ 64) block → filled block at bytes start 0 ≡ block
unfolding filled
filled_none {block} at bytes start h =
    rw (← paste-zero (bits_of 64 block) at (drop start (bits_of 8 bytes)), ← append-nil (bits_of 64 block)) (numbers-bits_of 64 [] h)

pub filled_more : (block : List ℕ) (at : ℕ) (bytes : List ℕ) (start n m : ℕ) → at + n + m ≤ 64 * length block → start + n + m ≤ 8 * length bytes
    → filled (filled block at bytes start n) (at + n) bytes (start + n) m ≡ filled block at bytes start (n + m)
unfolding filled
filled_more block at bytes start n m h g =
    let s : List Bool = drop start (bits_of 8 bytes) in
    let p = paste_more (bits_of 64 block) at s n m (rw length-bits_of (omega arith)) (rw (length-drop, length-bits_of) (omega arith)) in
    rw (bits_of-filled block at bytes start n (omega arith) (omega arith), length-filled block at bytes start n, ← drop-drop n start (bits_of 8 bytes), p)

-- the same, with the second place and the sum as the code has them
pub filled_then : (block : List ℕ) (at : ℕ) (bytes : List ℕ) (start n m : ℕ) {a s c : ℕ} → a ≡ at + n → s ≡ start + n → c ≡ n + m
    → at + c ≤ 64 * length block → start + c ≤ 8 * length bytes
    → filled (filled block at bytes start n) a bytes s m ≡ filled block at bytes start c
filled_then block at bytes start n m ea es ec h g = rw (ea, es, ec) (filled_more block at bytes start n m (omega arith) (omega arith))

-- one word of the block is stored, with bits of the bytes in its bits from o on
pub filled-word : {block : List ℕ} (j o : ℕ) (bytes : List ℕ) (start n : ℕ) → Below (2 ^ 64) block → j < length block → o + n ≤ 64 → start + n ≤ 8 * length bytes
    → set block j (spell 0 (paste (bits 64 (get_or block j 0)) o (drop start (bits_of 8 bytes)) n)) ≡ filled block (64 * j + o) bytes start n
unfolding filled
filled-word {block} j o bytes start n hb hj ho hs =
    let w : ℕ = get_or block j 0 in
    let front : List ℕ = take j block in
    let back : List ℕ = drop (suc j) block in
    let a : List Bool = bits_of 64 front in
    let c : List Bool = bits_of 64 back in
    let s : List Bool = drop start (bits_of 8 bytes) in
    let p : List Bool = paste (bits 64 w) o s n in
    let lf : length front ≡ j = length-take-le j block (omega arith) in
    let la : length a ≡ j * 64 = rw (length-bits_of, lf) refl in
    let lp : length p ≡ 64 = length-paste (bits 64 w) o s n (rw length-bits ho) (rw (length-drop, length-bits_of) (omega arith)) ∙ length-bits 64 w in
    let place : 64 * j + o ≡ length a + o = omega arith in
    let size : length block ≡ j + (1 + length back) = rw length-drop (omega arith) in
    let parts : bits_of 64 block ≡ a ++ (bits 64 w ++ c) = ap (bits_of 64) (split_at block j 0 hj) ∙ bits_of-append 64 front (w ∷ back) in
    set_split block j (spell 0 p) hj
    ∙ sym
    (ap (λ (x : List Bool). numbers 64 (length block) (paste x (64 * j + o) s n)) parts
    ∙ rw (place, paste_middle a (bits 64 w) c o s n (rw length-bits ho), size, numbers-append 64 j (1 + length back) a (p ++ c) la, numbers-append 64 1 (length back) p c lp, numbers-one 64 p lp, numbers-exact 64 j (below-take j hb) lf, numbers-exact 64 (length back) (below-drop (suc j) hb) refl))
