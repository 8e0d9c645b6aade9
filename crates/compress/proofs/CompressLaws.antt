-- Laws: of the compression function: how long the array and the output are, and that they hold words.
use Rattle.std.specs.Prelude.{◌≡◌, refl, List, [], ◌∷◌, ◌++◌, ℕ, zero, suc, ◌+◌, ◌-◌, ◌*◌, ◌/◌, ◌^◌, ◌<◌, length, get_or, drop}
use Rattle.std.proofs.Common.{◌∙◌, lt_of_le_of_lt, mod-lt, arith, lit<, length-append, length-drop, pow_pos}
use Rattle.std.specs.Int.Bits.{and_lt}
use Rattle.std.proofs.lemmas.Nat.{or_lt, xor_lt, shr_le}
use Rattle.lists.specs.Below.{Below, none, more}
use Rattle.lists.specs.BelowLaws.{below-append, below-drop}
use Rattle.constants.specs.Constants.{shr, shl, next_s, S}
use Rattle.compress.specs.Compress.{mixed, stepped, word, grown, compressed}

-- ---- the steps of the array

pub grown-zero : (window : List ℕ) → grown 0 window ≡ window
unfolding grown
grown-zero window = refl

pub grown-suc : (t : ℕ) (window : List ℕ) → grown (suc t) window ≡ grown t window ++ (word (89 + t) (grown t window) ∷ [])
unfolding grown
grown-suc t window = refl

-- r = 0: no round is done, and the output is the last 16 words of the window
pub compressed-zero : (window : List ℕ) → compressed 0 window ≡ drop 73 window
unfolding compressed grown
compressed-zero window = refl

-- ---- lengths

pub length-grown : (t : ℕ) (window : List ℕ) → length window ≡ 89 → length (grown t window) ≡ 89 + t
unfolding grown
length-grown zero window h = h
length-grown (suc t) window h = length-append (grown t window) _ ∙ omega (arith, length-grown t window h)

-- every output has 16 words
pub length-compressed : (r : ℕ) (window : List ℕ) → length window ≡ 89 → length (compressed r window) ≡ 16
unfolding compressed
length-compressed r window h = length-drop (16 * r + 73) (grown (16 * r) window) ∙ omega (arith, length-grown (16 * r) window h)

-- ---- words: numbers below 2 ^ 64

shr_below : (x k : ℕ) → x < 2 ^ 64 → shr x k < 2 ^ 64
shr_below x k h = lt_of_le_of_lt (shr_le x k) h

shl_below : (x k : ℕ) → shl x k < 2 ^ 64
shl_below x k = mod-lt (x * 2 ^ k) (pow_pos 64)

next_s-below : (s : ℕ) → s < 2 ^ 64 → next_s s < 2 ^ 64
unfolding next_s
next_s-below s h = search (xor_lt 64, or_lt 64, and_lt 64, shl_below, shr_below, lit<)

S-below : (j : ℕ) → S j < 2 ^ 64
unfolding S
S-below zero = lit< tt
S-below (suc j) = next_s-below (S j) (S-below j)

-- a step makes a word from words, with any shifts
stepped-below : (s a17 a89 a18 a21 a31 a67 r t : ℕ) → s < 2 ^ 64 → a17 < 2 ^ 64 → a89 < 2 ^ 64 → a18 < 2 ^ 64 → a21 < 2 ^ 64 → a31 < 2 ^ 64 → a67 < 2 ^ 64
    → stepped s a17 a89 a18 a21 a31 a67 r t < 2 ^ 64
unfolding stepped
stepped-below s a17 a89 a18 a21 a31 a67 r t hs h17 h89 h18 h21 h31 h67 =
    let x : ℕ = mixed s a17 a89 a18 a21 a31 a67 in
    let h : x < 2 ^ 64 = search (xor_lt 64, and_lt 64, lit<) depth 8 in
    search (xor_lt 64, shl_below, shr_below)

-- 0 stands past the end of the list
get_d_below : {ws : List ℕ} → Below (2 ^ 64) ws → (i : ℕ) → get_or ws i 0 < 2 ^ 64
get_d_below none i = pow_pos 64
get_d_below (more h hs) zero = h
get_d_below (more h hs) (suc i) = get_d_below hs i

word_below : (i : ℕ) (A : List ℕ) → Below (2 ^ 64) A → word i A < 2 ^ 64
unfolding word
word_below i A h =
    stepped-below _ _ _ _ _ _ _ _ _
    (S-below ((i - 89) / 16))
    (get_d_below h (i - 17))
    (get_d_below h (i - 89))
    (get_d_below h (i - 18))
    (get_d_below h (i - 21))
    (get_d_below h (i - 31))
    (get_d_below h (i - 67))

grown-below : (t : ℕ) (window : List ℕ) → Below (2 ^ 64) window → Below (2 ^ 64) (grown t window)
unfolding grown
grown-below zero window h = h
grown-below (suc t) window h =
    let g : Below (2 ^ 64) (grown t window) = grown-below t window h in
    below-append g (more (word_below (89 + t) (grown t window) g) none)

-- every output of a window of words is a list of words
pub compressed-below : (r : ℕ) (window : List ℕ) → Below (2 ^ 64) window → Below (2 ^ 64) (compressed r window)
unfolding compressed
compressed-below r window h = below-drop (16 * r + 73) (grown-below (16 * r) window h)
