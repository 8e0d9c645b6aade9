-- Laws: when no bit of words is set from a bit on, as the code tests it: the rest of that bit's word and all words after it are zero.
use Rattle.std.specs.Prelude.{◌≡◌, refl, Bool, true, false, ◌&&◌, List, [], ◌∷◌, ◌++◌, ℕ, zero, suc, ◌+◌, ◌-◌, ◌*◌, ◌/◌, ◌%◌, ◌^◌, ◌≤◌, ◌<◌, eqb, length, drop, get_or}
use Rattle.std.proofs.Common.{sym, ap, ◌∙◌, mod-eq_of_lt, mod-lt, zero-mul, arith, pow-add, pow_pos, shl_lt, drop_of_length-le, drop-cons, drop-drop, eq-eqb, ne_eqb}
use Rattle.std.proofs.Math.Bool.{and_assoc}
use Rattle.std.specs.Int.Bits.{bit_or}
use Rattle.std.proofs.Math.Pow.{split, low}
use Rattle.std.proofs.lemmas.List.{drop-append-le}
use Rattle.lists.specs.SameLaws.{or-zero}
use Rattle.bits.specs.Bits.{bits, bits_of, spell}
use Rattle.bits.specs.BitsLaws.{length-bits, length-bits_of, bits_of-drop, spell-from, spell-bits, spell-drop}
use Rattle.calls.specs.Area.{all_false}
use Rattle.calls.proofs.AreaLaws.{all_false-append}
use Rattle.calls.proofs.SoundParts.{empty_from}

-- ---- bits that are all false

all_false-spell : (bs : List Bool) → all_false bs ≡ eqb (spell 0 bs) 0
all_false-spell [] = refl
all_false-spell (true ∷ bs) = sym (ne_eqb (spell 1 bs) 0 (λ e. omega (arith, spell-from 1 bs, pow_pos (length bs))))
all_false-spell (false ∷ bs) = all_false-spell bs

shl-mod : (w s : ℕ) → s ≤ 64 → w * 2 ^ s % 2 ^ 64 ≡ w % 2 ^ (64 - s) * 2 ^ s
shl-mod w s h =
    let k : ℕ = 64 - s in
    let p : k + s ≡ 64 = omega arith in
    let r : w % 2 ^ k < 2 ^ k = mod-lt w (pow_pos k) in
    let f : w % 2 ^ k * 2 ^ s < 2 ^ 64 = rw p at (shl_lt k s r) in
    let e : w * 2 ^ s ≡ w / 2 ^ k * 2 ^ 64 + w % 2 ^ k * 2 ^ s =
    ap (λ (x : ℕ). x * 2 ^ s) (sym (split w k)) ∙ omega (arith, ap (λ (x : ℕ). w / 2 ^ k * x) (sym (pow-add 2 k s) ∙ ap (λ (x : ℕ). 2 ^ x) p)) in
    rw e (low (w / 2 ^ k) 64 f)

times_zero : (x s : ℕ) → eqb (x * 2 ^ s) 0 ≡ eqb x 0
times_zero zero s = rw (zero-mul (2 ^ s))
times_zero (suc x) s = ne_eqb (suc x * 2 ^ s) 0 (λ e. omega (arith, pow_pos s)) ∙ sym (ne_eqb (suc x) 0 (λ e. omega arith))

-- the bits of a word from bit s on are false if shifting the word by s leaves nothing
word-empty : (w s : ℕ) → s < 64 → w < 2 ^ 64 → all_false (drop s (bits 64 w)) ≡ eqb (w * 2 ^ s % 2 ^ 64) 0
word-empty w s h g =
    rw (all_false-spell, spell-drop s (bits 64 w), length-bits, spell-bits 64 0 w, shl-mod w s (omega arith), times_zero)
    (ap (λ (x : ℕ). eqb (x % 2 ^ (64 - s)) 0) (omega (arith, mod-eq_of_lt g)))

-- ---- a part of words from a bit on

empty-cons : (w : ℕ) (ws : List ℕ) → w < 2 ^ 64 → empty_from 0 (w ∷ ws) ≡ (eqb w 0 && empty_from 0 ws)
empty-cons w ws h =
    let z : w * 2 ^ 0 % 2 ^ 64 ≡ w = omega (arith, mod-eq_of_lt h) in
    all_false-append (bits 64 w) (bits_of 64 ws) ∙ rw (word-empty w 0 (omega arith) h, z)

-- one word more is joined by `|`
pub or-more : (all i : ℕ) (ws : List ℕ) → i < length ws → get_or ws i 0 < 2 ^ 64
    → (eqb (bit_or all (get_or ws i 0)) 0 && empty_from 0 (drop (i + 1) ws)) ≡ (eqb all 0 && empty_from 0 (drop i ws))
or-more all i ws h g =
    let w : ℕ = get_or ws i 0 in
    let q : i + 1 ≡ suc i = omega arith in
    ap (λ (k : ℕ). (eqb (bit_or all w) 0 && empty_from 0 (drop k ws))) q
    ∙ ap (λ (b : Bool). (b && empty_from 0 (drop (suc i) ws))) (or-zero all w)
    ∙ and_assoc (eqb all 0) (eqb w 0) (empty_from 0 (drop (suc i) ws))
    ∙ ap (◌&&◌ (eqb all 0)) (sym (empty-cons w (drop (suc i) ws) g) ∙ ap (empty_from 0) (sym (drop-cons ws i 0 h)))

-- nothing is left past the end
pub empty-end : (n : ℕ) (ws : List ℕ) → length ws ≤ n / 64 → empty_from n ws ≡ true
empty-end n ws h = rw (drop_of_length-le (bits_of 64 ws) {i = n} (rw length-bits_of (omega arith)))

-- "words from index i + 1 on are all zero and the low bits of word i are zero"
empty-word : (n : ℕ) (ws : List ℕ) → n / 64 < length ws → get_or ws (n / 64) 0 < 2 ^ 64
    → empty_from n ws ≡ (eqb (get_or ws (n / 64) 0 * 2 ^ (n % 64) % 2 ^ 64) 0 && empty_from 0 (drop (n / 64 + 1) ws))
empty-word n ws h g =
    let i : ℕ = n / 64 in
    let s : ℕ = n % 64 in
    let e : n ≡ i * 64 + s = omega arith in
    let d : drop n (bits_of 64 ws) ≡ drop s (bits 64 (get_or ws i 0)) ++ bits_of 64 (drop (suc i) ws) =
    ap (λ (k : ℕ). drop k (bits_of 64 ws)) e ∙ sym (drop-drop s (i * 64) (bits_of 64 ws))
    ∙ rw (bits_of-drop 64 i ws, drop-cons ws i 0 h, drop-append-le s (bits 64 (get_or ws i 0)) (bits_of 64 (drop (suc i) ws)) (rw length-bits (omega arith))) in
    let q : i + 1 ≡ suc i = omega arith in
    rw (d, all_false-append, word-empty (get_or ws i 0) s (omega arith) g, q)

pub empty-not : (n : ℕ) (ws : List ℕ) → n / 64 < length ws → get_or ws (n / 64) 0 < 2 ^ 64 → (get_or ws (n / 64) 0 * 2 ^ (n % 64) % 2 ^ 64 ≡ 0 → ⊥)
    → empty_from n ws ≡ false
empty-not n ws h g e = empty-word n ws h g ∙ rw (ne_eqb (get_or ws (n / 64) 0 * 2 ^ (n % 64) % 2 ^ 64) 0 e)

pub empty-rest : (n : ℕ) (ws : List ℕ) → n / 64 < length ws → get_or ws (n / 64) 0 < 2 ^ 64 → get_or ws (n / 64) 0 * 2 ^ (n % 64) % 2 ^ 64 ≡ 0
    → empty_from n ws ≡ empty_from 0 (drop (n / 64 + 1) ws)
empty-rest n ws h g e = empty-word n ws h g ∙ rw (eq-eqb (get_or ws (n / 64) 0 * 2 ^ (n % 64) % 2 ^ 64) 0 e)
