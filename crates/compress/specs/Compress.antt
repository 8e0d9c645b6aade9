-- Definitions: the compression function. Document 01, "Compression"; the report, section 2.5 and figure 2.10.
-- A word is a number below 2 ^ 64, and a list of words is the report's array A, which grows at its end.
use Rattle.std.specs.Prelude.{List, [], ◌∷◌, ◌++◌, ℕ, zero, suc, ◌+◌, ◌-◌, ◌*◌, ◌/◌, ◌%◌, ◌^◌, get_or, drop}
use Rattle.std.specs.Int.Bits.{bit_and, bit_xor}
use Rattle.constants.specs.Constants.{shr, shl, S}

-- "R and T go by (i - 89) mod 16"
abbrev pub shifts_r : List ℕ
shifts_r = 10 ∷ 5 ∷ 13 ∷ 10 ∷ 11 ∷ 12 ∷ 2 ∷ 7 ∷ 14 ∷ 15 ∷ 7 ∷ 13 ∷ 11 ∷ 7 ∷ 6 ∷ 12 ∷ []

abbrev pub shifts_t : List ℕ
shifts_t = 11 ∷ 24 ∷ 9 ∷ 16 ∷ 15 ∷ 9 ∷ 27 ∷ 15 ∷ 6 ∷ 2 ∷ 29 ∷ 8 ∷ 15 ∷ 5 ∷ 31 ∷ 9 ∷ []

-- "x = S xor A[i-17] xor A[i-89] xor (A[i-18] and A[i-21]) xor (A[i-31] and A[i-67]);
-- x = x xor (x shifted right by R); A[i] = x xor (x shifted left by T)"
abbrev pub mixed : ℕ → ℕ → ℕ → ℕ → ℕ → ℕ → ℕ → ℕ
mixed s a17 a89 a18 a21 a31 a67 = bit_xor (bit_xor (bit_xor (bit_xor s a17) a89) (bit_and a18 a21)) (bit_and a31 a67)

abbrev pub right_shifted : ℕ → ℕ → ℕ
right_shifted x r = bit_xor x (shr x r)

abbrev pub left_shifted : ℕ → ℕ → ℕ
left_shifted x t = bit_xor x (shl x t)

unfoldable pub stepped : ℕ → ℕ → ℕ → ℕ → ℕ → ℕ → ℕ → ℕ → ℕ → ℕ
stepped s a17 a89 a18 a21 a31 a67 r t = left_shifted (right_shifted (mixed s a17 a89 a18 a21 a31 a67) r) t

-- word i of A, from the words before it and a constant s
abbrev pub formula_word : ℕ → ℕ → List ℕ → ℕ
formula_word s i A =
    stepped s
    (get_or A (i - 17) 0)
    (get_or A (i - 89) 0)
    (get_or A (i - 18) 0)
    (get_or A (i - 21) 0)
    (get_or A (i - 31) 0)
    (get_or A (i - 67) 0)
    (get_or shifts_r ((i - 89) % 16) 0)
    (get_or shifts_t ((i - 89) % 16) 0)

-- "S is the same for the 16 steps of a round"
unfoldable pub word : ℕ → List ℕ → ℕ
word i A = formula_word (S ((i - 89) / 16)) i A

-- the array after t steps on a window of 89 words: "words 89 to 16r + 88 are added"
unfoldable pub grown : ℕ → List ℕ → List ℕ
grown zero window = window
grown (suc t) window = grown t window ++ (word (89 + t) (grown t window) ∷ [])

-- "The output C is the last 16 words"
unfoldable pub compressed : ℕ → List ℕ → List ℕ
compressed r window = drop (16 * r + 73) (grown (16 * r) window)

-- "Q is the first 960 bits of the fraction of the square root of 6": 15 words
abbrev pub Q : List ℕ
Q =
    0x7311c2812425cfa0 ∷ 0x6432286434aac8e7 ∷ 0xb60450e9ef68b7c1 ∷ 0xe8fb23908d9f06f1 ∷ 0xdd2e76cba691e5bf
    ∷ 0x0cd0d63b2c30bc41 ∷ 0x1f8ccf6823058f8a ∷ 0x54e5ed5b88e3775d ∷ 0x4ad12aae0a6d6031 ∷ 0x3e7f16bb88222e0d
    ∷ 0x8af8671d3fb50c2c ∷ 0x995ad1178bd25c31 ∷ 0xc878c1dd04c4b633 ∷ 0x3b72066c7a1552ac ∷ 0x0d6f3522631effcb ∷ []

-- "Window of 89 words: Q (15), key K (8), U, V, block B (64), in that order."
abbrev pub window_of : List ℕ → ℕ → ℕ → List ℕ → List ℕ
window_of k u v block = Q ++ (k ++ (u ∷ v ∷ block))

-- the number that words spell, high word first, after words that spelt n
abbrev pub words_value : ℕ → List ℕ → ℕ
words_value n [] = n
words_value n (w ∷ ws) = words_value (n * 2 ^ 64 + w) ws

-- "Q is the first 960 bits of the fraction of the square root of 6: with s = 2^961 + Q, .."
abbrev pub scaled_root : ℕ
scaled_root = 2 ^ 961 + words_value 0 Q
