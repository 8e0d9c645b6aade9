-- Laws: what the code of `compress` does to its buffer, a list of words that is written in place: contracts of its own functions
-- cite this, and no contract of another crate. A buffer has one lane, or two for two windows at a time, whose words stand in turn.
use Rattle.std.specs.Prelude.{◌≡◌, List, [], ◌∷◌, ℕ, zero, suc, ◌+◌, ◌-◌, ◌*◌, ◌%◌, ◌≤◌, ◌<◌, length, get_or, set, take, drop}
use Rattle.compress.specs.Compress.{shifts_r, shifts_t, stepped, grown}

-- the word at place p, made from those before it in its lane: the word before in a lane stands as many places back as there are lanes
unfoldable pub new_word : ℕ → ℕ → ℕ → ℕ → ℕ → List ℕ → ℕ
new_word lanes p s r t xs =
    stepped s
    (get_or xs (p - lanes * 17) 0)
    (get_or xs (p - lanes * 89) 0)
    (get_or xs (p - lanes * 18) 0)
    (get_or xs (p - lanes * 21) 0)
    (get_or xs (p - lanes * 31) 0)
    (get_or xs (p - lanes * 67) 0)
    r
    t

-- a lane xs with word i made from the words before it
unfoldable pub put_at : ℕ → ℕ → ℕ → ℕ → List ℕ → List ℕ
put_at i s r t xs = set xs i (new_word 1 i s r t xs)

-- a lane xs with the first n words of a round made from i on
unfoldable pub put_round : ℕ → ℕ → ℕ → List ℕ → List ℕ
put_round zero i s xs = xs
put_round (suc n) i s xs = put_at (i + n) s (get_or shifts_r n 0) (get_or shifts_t n 0) (put_round n i s xs)

-- the 89 words of a lane xs before place i
abbrev pub before : ℕ → List ℕ → List ℕ
before i xs = take 89 (drop (i - 89) xs)

-- the last 89 words of the array after t steps on the window N
abbrev pub after : ℕ → List ℕ → List ℕ
after t N = drop t (grown t N)

-- the n words from place j on that stand so many places apart
unfoldable pub apart : ℕ → ℕ → ℕ → List ℕ → List ℕ
apart lanes j zero xs = []
apart lanes j (suc n) xs = get_or xs j 0 ∷ apart lanes (j + lanes) n xs

-- lane j of the buffer xs: 345 words, of which word i stands at lanes * i + j
abbrev pub lane : ℕ → ℕ → List ℕ → List ℕ
lane lanes j xs = apart lanes j 345 xs

-- each lane of the buffer ys is what f makes of that of xs
abbrev pub Lanes : ℕ → (List ℕ → List ℕ) → List ℕ → List ℕ → Type 0
Lanes lanes f xs ys = (j : ℕ) → j < lanes → lane lanes j ys ≡ f (lane lanes j xs)

-- a buffer of one lane or two, and a place in its lanes after a window and whole rounds
abbrev pub Sized : ℕ → List ℕ → Type 0
Sized lanes a = (1 ≤ lanes) × (lanes ≤ 2) × (length a ≡ lanes * 345)

abbrev pub Placed : ℕ → List ℕ → ℕ → Type 0
Placed lanes a at = Sized lanes a × (89 ≤ at) × (at ≤ 345) × (at % 16 ≡ 9)

-- from q rounds to r, in each lane: where the words before place i of the buffer xs are the last of the array after q rounds on a
-- window, those before place k of the buffer ys are the last after r rounds on it
pub record Advances (lanes q r i : ℕ) (xs : List ℕ) (k : ℕ) (ys : List ℕ) : Type 0 where
  pub rule : (j : ℕ) → j < lanes → (N : List ℕ) → length N ≡ 89 → before i (lane lanes j xs) ≡ after (16 * q) N
      → before k (lane lanes j ys) ≡ after (16 * r) N
