-- Laws: of the stores that make a node's block and the front of its window, and of the byte that a shift gives.
use Rattle.std.specs.Prelude.{◌≡◌, refl, Bool, List, [], ◌++◌, ℕ, suc, ◌+◌, ◌-◌, ◌*◌, ◌/◌, ◌%◌, ◌^◌, ◌<◌, length, take, drop, get_or, replicate}
use Rattle.std.proofs.Common.{sym, ap, ◌∙◌, append_assoc, append-nil, arith, take_at, drop_at, drop-drop, drop-cons}
use Rattle.std.proofs.Math.Seq.{paste}
use Rattle.bits.specs.Bits.{bits, bits_of, spell}
use Rattle.bits.specs.BitsLaws.{length-bits, spell-bits, bits_split, bits_of-drop}
use Rattle.compress.specs.Compress.{Q}
use Rattle.node.specs.DigestLaws.{byte_at}
use Rattle.node.specs.NodeLaws.{paste-at}

-- the chain, and then 48 words, are written to a block
pub block_made : (before rest : List ℕ) → length before ≡ 16 → length rest ≡ 48
    → paste (paste (replicate 64 0) 0 before (length before)) 16 rest (length rest) ≡ before ++ rest
block_made before rest lb lr =
    let a : paste (replicate 64 0) 0 before (length before) ≡ before ++ replicate 48 0 =
    paste-at [] before (replicate 64 0) 0 (length before) refl refl ∙ rw lb refl in
    let b : paste (before ++ replicate 48 0) 16 rest (length rest) ≡ before ++ (rest ++ []) =
    paste-at before rest (replicate 48 0) 16 (length rest) lb refl ∙ rw lr refl in
    ap (λ (w : List ℕ). paste w 16 rest (length rest)) a ∙ b ∙ ap (λ (w : List ℕ). before ++ w) (append-nil rest)

-- Q and K are written to a window that holds nothing
pub key-put : (k : List ℕ) → length k ≡ 8 → paste (paste (replicate 89 0) 0 Q (length Q)) 15 k (length k) ≡ (Q ++ k) ++ replicate 66 0
key-put k h = paste-at Q k (replicate 74 0) 15 (length k) refl refl ∙ rw h (sym (append_assoc Q k (replicate 66 0)))

-- ---- a byte of words, by a shift

-- the 8 bits above the low k of a word, before which there are o bits
byte_of_word : (o k w : ℕ) (rest : List Bool) → o + (8 + k) ≡ 64 → spell 0 (take 8 (drop o (bits 64 w ++ rest))) ≡ w / 2 ^ k % 2 ^ 8
byte_of_word o k w rest e =
    let a : List Bool = bits o (w / 2 ^ (8 + k)) in
    let b : List Bool = bits 8 (w / 2 ^ k) in
    let c : List Bool = bits k w in
    let s : bits 64 w ≡ a ++ (b ++ c) = ap (λ (n : ℕ). bits n w) (sym e) ∙ bits_split o (8 + k) w ∙ ap (λ (x : List Bool). a ++ x) (bits_split 8 k w) in
    let t : bits 64 w ++ rest ≡ a ++ (b ++ (c ++ rest)) =
    ap (λ (x : List Bool). x ++ rest) s ∙ append_assoc a (b ++ c) rest ∙ ap (λ (x : List Bool). a ++ x) (append_assoc b c rest) in
    ap (λ (x : List Bool). spell 0 (take 8 (drop o x))) t
    ∙ ap (λ (x : List Bool). spell 0 (take 8 x)) (drop_at a (b ++ (c ++ rest)) o (length-bits o (w / 2 ^ (8 + k))))
    ∙ ap (spell 0) (take_at b (c ++ rest) 8 (length-bits 8 (w / 2 ^ k)))
    ∙ spell-bits 8 0 (w / 2 ^ k)
    ∙ omega arith

pub byte-value : (ws : List ℕ) (j : ℕ) → j < 8 * length ws → get_or ws (j / 8) 0 / 2 ^ (56 - 8 * (j % 8)) % 2 ^ 8 ≡ byte_at ws j
unfolding byte_at
byte-value ws j h =
    let i : ℕ = j / 8 in
    let o : ℕ = 8 * (j % 8) in
    let e : j * 8 ≡ i * 64 + o = omega arith in
    let l : i < length ws = omega arith in
    let d : drop (j * 8) (bits_of 64 ws) ≡ drop o (bits 64 (get_or ws i 0) ++ bits_of 64 (drop (suc i) ws)) =
    ap (λ (n : ℕ). drop n (bits_of 64 ws)) e
    ∙ sym (drop-drop o (i * 64) (bits_of 64 ws))
    ∙ ap (drop o) (bits_of-drop 64 i ws ∙ ap (bits_of 64) (drop-cons ws i 0 l)) in
    sym (ap (λ (x : List Bool). spell 0 (take 8 x)) d ∙ byte_of_word o (56 - o) (get_or ws i 0) (bits_of 64 (drop (suc i) ws)) (omega arith))
