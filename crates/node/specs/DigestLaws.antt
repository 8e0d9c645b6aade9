-- Laws: for the code that writes a digest: the bytes of words, and the last d bits of the root's words.
use Rattle.std.specs.Prelude.{◌≡◌, refl, Bool, false, List, [], ◌∷◌, ◌++◌, ℕ, zero, suc, ◌+◌, ◌-◌, ◌*◌, ◌/◌, ◌%◌, ◌^◌, ◌≤◌, ◌<◌, length, take, drop, get_or, set, replicate}
use Rattle.std.specs.Int
use Rattle.std.specs.Int.{w64, bytes_high_first, to_be_bytes}
use Rattle.std.proofs.Common.{sym, ap, ◌∙◌, append_assoc, arith, add-one, length-append, length-drop, take_all, take_at, drop_at, drop-drop, drop-cons}
use Rattle.std.proofs.lemmas.Nat.{pow-add}
use Rattle.std.proofs.lemmas.List.{length-replicate, replicate-append-replicate, set_at}
use Rattle.std.proofs.Math.Seq.{paste, append_snoc}
use Rattle.bits.specs.Bits.{bits, bits_of, spell, numbers, filled}
use Rattle.bits.specs.BitsLaws.{length-bits, length-bits_of, length-numbers, spell-bits, bits_split, bits_of-drop, bits_of-append, bits_of-zeros, bits_of-numbers, numbers-add, numbers-front}
use Rattle.tree.specs.Tree.{key_words}
use Rattle.lists.specs.Replicate.{drop-replicate}

-- byte j of words
unfoldable pub byte_at : List ℕ → ℕ → ℕ
byte_at ws j = spell 0 (take 8 (drop (j * 8) (bits_of 64 ws)))

-- the 8 bits above the low k of a word, before which there are o bits
byte_of_word : (o k w : ℕ) (rest : List Bool) → o + (8 + k) ≡ 64 → spell 0 (take 8 (drop o (bits 64 w ++ rest))) ≡ w / 2 ^ k % 2 ^ 8
byte_of_word o k w rest e =
    let a : List Bool = bits o (w / 2 ^ (8 + k)) in
    let b : List Bool = bits 8 (w / 2 ^ k) in
    let c : List Bool = bits k w in
    let s : bits 64 w ≡ a ++ (b ++ c) = ap (λ (n : ℕ). bits n w) (sym e) ∙ bits_split o (8 + k) w ∙ ap (λ (x : List Bool). a ++ x) (bits_split 8 k w) in
    let t : bits 64 w ++ rest ≡ a ++ (b ++ (c ++ rest)) =
    ap (λ (x : List Bool). x ++ rest) s ∙ append_assoc a (b ++ c) rest ∙ ap (λ (x : List Bool). a ++ x) (append_assoc b c rest) in
    ap (λ (x : List Bool). spell 0 (take 8 (drop o x))) t
    ∙ ap (λ (x : List Bool). spell 0 (take 8 x)) (drop_at a (b ++ (c ++ rest)) o (length-bits o (w / 2 ^ (8 + k))))
    ∙ ap (spell 0) (take_at b (c ++ rest) 8 (length-bits 8 (w / 2 ^ k)))
    ∙ spell-bits 8 0 (w / 2 ^ k)
    ∙ omega arith

-- byte j of a word's eight, the highest first, is got by a shift
pow-bytes : (k : ℕ) → 256 ^ k ≡ 2 ^ (8 * k)
pow-bytes zero = refl
pow-bytes (suc k) =
    let e : suc k ≡ k + 1 = omega arith in
    let f : 8 * k + 8 ≡ 8 * suc k = omega arith in
    ap (λ (n : ℕ). 256 ^ n) e
    ∙ pow-add 256 k 1
    ∙ ap (λ (x : ℕ). x * 256) (pow-bytes k)
    ∙ sym (pow-add 2 (8 * k) 8)
    ∙ ap (λ (n : ℕ). 2 ^ n) f

high-byte : (k w : ℕ) → Int.byte_at k w ≡ w / 2 ^ (8 * k) % 2 ^ 8
high-byte zero w = omega arith
high-byte (suc k) w = ap (λ (x : ℕ). w / x % 256) (pow-bytes (suc k))

high-first : (k j w : ℕ) → j < k → get_or (bytes_high_first k w) j 0 ≡ w / 2 ^ (8 * (k - 1 - j)) % 2 ^ 8
high-first zero j w h = omega (arith, h)
high-first (suc k) zero w h =
    let e : k ≡ suc k - 1 - 0 = omega arith in
    high-byte k w ∙ ap (λ (n : ℕ). w / 2 ^ (8 * n) % 2 ^ 8) e
high-first (suc k) (suc j) w h =
    let e : k - 1 - j ≡ suc k - 1 - suc j = omega arith in
    high-first k j w (omega arith) ∙ ap (λ (n : ℕ). w / 2 ^ (8 * n) % 2 ^ 8) e

pub byte-value : (ws : List ℕ) (j : ℕ) → j < 8 * length ws → get_or (to_be_bytes w64 (get_or ws (j / 8) 0)) (j % 8) 0 ≡ byte_at ws j
unfolding byte_at
byte-value ws j h =
    let i : ℕ = j / 8 in
    let o : ℕ = 8 * (j % 8) in
    let e : j * 8 ≡ i * 64 + o = omega arith in
    let l : i < length ws = omega arith in
    let below : 8 * (8 - 1 - j % 8) ≡ 56 - o = omega arith in
    let d : drop (j * 8) (bits_of 64 ws) ≡ drop o (bits 64 (get_or ws i 0) ++ bits_of 64 (drop (suc i) ws)) =
    ap (λ (n : ℕ). drop n (bits_of 64 ws)) e
    ∙ sym (drop-drop o (i * 64) (bits_of 64 ws))
    ∙ ap (drop o) (bits_of-drop 64 i ws ∙ ap (bits_of 64) (drop-cons ws i 0 l)) in
    high-first 8 (j % 8) (get_or ws i 0) (omega arith)
    ∙ ap (λ (k : ℕ). get_or ws i 0 / 2 ^ k % 2 ^ 8) below
    ∙ sym (ap (λ (x : List Bool). spell 0 (take 8 x)) d ∙ byte_of_word o (56 - o) (get_or ws i 0) (bits_of 64 (drop (suc i) ws)) (omega arith))

-- ---- the loop that writes bytes

pub bytes_none : (ws out : List ℕ) → out ≡ numbers 8 0 (bits_of 64 ws) ++ drop 0 out
unfolding numbers
bytes_none ws out = refl

pub bytes-more : (ws out : List ℕ) (i : ℕ) → i < length out
    → set (numbers 8 i (bits_of 64 ws) ++ drop i out) i (byte_at ws i) ≡ numbers 8 (i + 1) (bits_of 64 ws) ++ drop (i + 1) out
unfolding byte_at numbers
bytes-more ws out i h =
    let R : List Bool = bits_of 64 ws in
    let p : List ℕ = numbers 8 i R in
    let n : numbers 8 (i + 1) R ≡ p ++ (spell 0 (take 8 (drop (i * 8) R)) ∷ []) = numbers-add 8 i 1 R in
    rw (drop-cons out i 0 h, set_at p (get_or out i 0) (drop (suc i) out) (spell 0 (take 8 (drop (i * 8) R))) i (length-numbers 8 i R), n, add-one)
    (sym (append_snoc p (spell 0 (take 8 (drop (i * 8) R))) (drop (suc i) out)))

-- ---- the digest

-- d bits are written to bytes whatever number of zero bits follows them, if it is enough
zeros-alike : (n q r : ℕ) (D : List Bool) → n * 8 ≤ length D + q → q ≤ r → numbers 8 n (D ++ replicate r false) ≡ numbers 8 n (D ++ replicate q false)
zeros-alike n q r D h g =
    let e : q + (r - q) ≡ r = omega arith in
    let s : D ++ replicate r false ≡ (D ++ replicate q false) ++ replicate (r - q) false =
    ap (λ (k : ℕ). D ++ replicate k false) (sym e)
    ∙ ap (λ (x : List Bool). D ++ x) (sym (replicate-append-replicate q (r - q) false))
    ∙ sym (append_assoc D (replicate q false) (replicate (r - q) false)) in
    rw s (numbers-front 8 n (D ++ replicate q false) (replicate (r - q) false) (simp (length-append, length-replicate) (omega arith)))

-- the root's bytes, from which the last d bits are copied to 8 zero words, whose first bytes are the digest
pub digest-bytes : (root : List ℕ) (d start : ℕ) → length root ≡ 16 → 1 ≤ d → d ≤ 512 → start ≡ 1024 - d
    → numbers 8 ((d + 7) / 8) (bits_of 64 (filled (replicate 8 0) 0 (numbers 8 128 (bits_of 64 root)) start d))
    ≡ numbers 8 ((d + 7) / 8) (drop (1024 - d) (bits_of 64 root) ++ replicate 7 false)
unfolding filled
digest-bytes root d start l low high es =
    let R : List Bool = bits_of 64 root in
    let D : List Bool = drop (1024 - d) R in
    let n : ℕ = (d + 7) / 8 in
    let lR : length R ≡ 1024 = length-bits_of 64 root ∙ omega arith in
    let lD : length D ≡ d = length-drop (1024 - d) R ∙ omega arith in
    let b : bits_of 8 (numbers 8 128 R) ≡ R = bits_of-numbers 8 128 R (omega arith) ∙ take_all 1024 R (omega arith) in
    let z : bits_of 64 (replicate 8 0) ≡ replicate 512 false = bits_of-zeros 64 8 in
    let zd : 0 + d ≡ d = omega arith in
    let f : paste (bits_of 64 (replicate 8 0)) 0 (drop start (bits_of 8 (numbers 8 128 R))) d ≡ D ++ replicate (512 - d) false =
    ap (λ (x : List Bool). paste x 0 (drop start (bits_of 8 (numbers 8 128 R))) d) z
    ∙ rw (b, es, take_all d D (omega arith), zd, drop-replicate d 512 false high) in
    let lF : length (D ++ replicate (512 - d) false) ≡ 512 = simp (length-append, length-replicate) (omega arith) in
    let w : bits_of 64 (numbers 64 8 (D ++ replicate (512 - d) false)) ≡ D ++ replicate (512 - d) false =
    bits_of-numbers 64 8 (D ++ replicate (512 - d) false) (omega arith) ∙ take_all 512 (D ++ replicate (512 - d) false) (omega arith) in
    let q : ℕ = n * 8 - d in
    ap (λ (x : List Bool). numbers 8 n (bits_of 64 (numbers 64 8 x))) f
    ∙ ap (numbers 8 n) w
    ∙ zeros-alike n q (512 - d) D (omega arith) (omega arith)
    ∙ sym (zeros-alike n q 7 D (omega arith) (omega arith))

-- ---- K

pub key-filled : (key : List ℕ) → length key ≤ 64 → filled (replicate 8 0) 0 key (8 * 0 + 0) (8 * length key) ≡ key_words key
unfolding filled key_words
key-filled key h =
    let B : List Bool = bits_of 8 key in
    let lB : length B ≡ 8 * length key = length-bits_of 8 key ∙ omega arith in
    let z : bits_of 64 (replicate 8 0) ≡ replicate 512 false = bits_of-zeros 64 8 in
    let zd : 0 + 8 * length key ≡ 8 * length key = omega arith in
    let e : (64 - length key) * 8 ≡ 512 - 8 * length key = omega arith in
    let s : bits_of 8 (key ++ replicate (64 - length key) 0) ≡ B ++ replicate (512 - 8 * length key) false =
    bits_of-append 8 key (replicate (64 - length key) 0) ∙ rw (bits_of-zeros 8 (64 - length key), e) in
    let f : paste (bits_of 64 (replicate 8 0)) 0 B (8 * length key) ≡ B ++ replicate (512 - 8 * length key) false =
    ap (λ (x : List Bool). paste x 0 B (8 * length key)) z
    ∙ rw (take_all (8 * length key) B (omega arith), zd, drop-replicate (8 * length key) 512 false (omega arith)) in
    ap (numbers 64 8) (f ∙ sym s)
