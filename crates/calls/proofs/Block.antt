-- Laws: the words of a block whose first bits are known: how a bit more, or an output more, is joined to them.
use Rattle.std.specs.Prelude.{◌≡◌, refl, Bool, false, List, [], ◌∷◌, ◌++◌, ℕ, zero, suc, ◌+◌, ◌-◌, ◌*◌, ◌/◌, ◌%◌, ◌^◌, ◌≤◌, ◌<◌, length, get_or, set, replicate}
use Rattle.std.proofs.Common.{sym, ap, ◌∙◌, append_assoc, append-nil, arith, length-append, length-set, take_at, drop_at, take_all}
use Rattle.std.proofs.lemmas.List.{length-replicate, replicate-append-replicate, set_at, set-append_left}
use Rattle.lists.specs.Below.{Below, none, more}
use Rattle.lists.specs.BelowLaws.{below-zeros}
use Rattle.lists.specs.Append.{cons_eq}
use Rattle.lists.specs.Part.{put}
use Rattle.bits.specs.Bits.{bits, bits_of, spell, numbers}
use Rattle.bits.specs.BitsLaws.{length-bits, length-numbers, spell_lt, bits-spell, bits_of-zeros, bits_of_inj, numbers-below, numbers-append, numbers-bits_of, bits_of-numbers}
use Rattle.tree.specs.Tree.{block_bits, sequential_bits, output_bits, words, no_chain}
use Rattle.calls.specs.Area.{empty_level}
use Rattle.calls.specs.Calls.{with_bit, join_parallel, join_sequential}

-- a block whose first bits are Y and whose other bits are zero
unfoldable pub block_of : List Bool → List ℕ
block_of Y = words 64 (Y ++ replicate (block_bits - length Y) false)

pub length-block_of : (Y : List Bool) → length (block_of Y) ≡ 64
unfolding block_of
length-block_of Y = length-numbers 64 64 (Y ++ replicate (block_bits - length Y) false)

pub block_of-below : (Y : List Bool) → Below (2 ^ 64) (block_of Y)
unfolding block_of
block_of-below Y = numbers-below 64 64 (Y ++ replicate (block_bits - length Y) false)

padded-length : (Y : List Bool) → length Y ≤ block_bits → length (Y ++ replicate (block_bits - length Y) false) ≡ block_bits
padded-length Y h = rw (length-append, length-replicate (block_bits - length Y) false) (omega arith)

-- the bits of a block: the known ones, and zeros
pub bits_of-block_of : (Y : List Bool) → length Y ≤ block_bits → bits_of 64 (block_of Y) ≡ Y ++ replicate (block_bits - length Y) false
unfolding block_of
bits_of-block_of Y h =
    let e = padded-length Y h in
    bits_of-numbers 64 64 (Y ++ replicate (block_bits - length Y) false) (omega arith)
    ∙ take_all block_bits (Y ++ replicate (block_bits - length Y) false) (omega arith)

pub block_of-full : (Y : List Bool) → length Y ≡ block_bits → block_of Y ≡ words 64 Y
unfolding block_of
block_of-full Y h = rw h (ap (numbers 64 64) (append-nil Y))

-- ---- zeros

words-zeros : (n : ℕ) → numbers 64 n (replicate (n * 64) false) ≡ replicate n 0
words-zeros n =
    let e = numbers-bits_of 64 {ws = replicate n 0} [] (below-zeros (2 ^ 64) n (omega arith)) in
    rw (length-replicate {A = ℕ} n 0, append-nil, bits_of-zeros 64 n) at e

pub block_of_none : block_of [] ≡ empty_level
unfolding block_of empty_level
block_of_none = words-zeros 64

-- an output, and then zeros
pub block_of-output : (y : List Bool) → length y ≡ output_bits → words 16 y ++ replicate 48 0 ≡ block_of y
unfolding block_of
block_of-output y h = rw (h, ← words-zeros 48) (sym (numbers-append 64 16 48 y (replicate sequential_bits false) h))

pub block_of-no_chain : block_of no_chain ≡ empty_level
unfolding block_of no_chain empty_level
block_of-no_chain = words-zeros 64

-- the block of a sequential node: its chain, what it takes, and padding
pub block_of-chain : (c X : List Bool) → length c ≡ output_bits → length X ≤ sequential_bits →
    words 16 c ++ words 48 (X ++ replicate (sequential_bits - length X) false) ≡ block_of (c ++ X)
unfolding block_of
block_of-chain c X h g =
    let e : block_bits - length (c ++ X) ≡ sequential_bits - length X = rw (length-append c X) (omega arith) in
    sym (numbers-append 64 16 48 c (X ++ replicate (sequential_bits - length X) false) h) ∙ rw (e, append_assoc)

-- ---- one bit more

set-append-add : {A : Type 0} (xs ys : List A) (i : ℕ) (a : A) → set (xs ++ ys) (length xs + i) a ≡ xs ++ set ys i a
set-append-add [] ys i a = let e : 0 + i ≡ i = omega arith in rw e
set-append-add (x ∷ xs) ys i a =
    let e : suc (length xs) + i ≡ suc (length xs + i) = omega arith in
    rw e (cons_eq refl (set-append-add xs ys i a))

set_bit : (k : ℕ) (ws : List ℕ) (j p : ℕ) (b : Bool) → j < length ws → p < k →
    bits_of k (set ws j (spell 0 (set (bits k (get_or ws j 0)) p b))) ≡ set (bits_of k ws) (j * k + p) b
set_bit k [] j p b h g = absurd (omega arith)
set_bit k (w ∷ ws) zero p b h g =
    let e : 0 * k + p ≡ p = omega arith in
    rw (bits-spell k (set (bits k w) p b) (length-set (bits k w) p b ∙ length-bits k w), e)
    (sym (set-append_left (bits k w) (bits_of k ws) p b (rw (length-bits k w) g)))
set_bit k (w ∷ ws) (suc j) p b h g =
    let e : suc j * k + p ≡ length (bits k w) + (j * k + p) = rw (length-bits k w) (omega arith) in
    ap (λ (l : List Bool). bits k w ++ l) (set_bit k ws j p b (omega arith) g)
    ∙ rw e (sym (set-append-add (bits k w) (bits_of k ws) (j * k + p) b))

pub length-with_bit : (h : ℕ) (b : Bool) (ws : List ℕ) → length (with_bit h b ws) ≡ length ws
unfolding with_bit
length-with_bit h b ws = length-set ws (h / 64) (spell 0 (set (bits 64 (get_or ws (h / 64) 0)) (h % 64) b))

-- bit h of the words' bits is set
pub bits_of-with_bit : (h : ℕ) (b : Bool) (ws : List ℕ) → h < length ws * 64 → bits_of 64 (with_bit h b ws) ≡ set (bits_of 64 ws) h b
unfolding with_bit
bits_of-with_bit h b ws g =
    let e : h / 64 * 64 + h % 64 ≡ h = omega arith in
    set_bit 64 ws (h / 64) (h % 64) b (omega arith) (omega arith) ∙ rw e

pub below_set : {c : ℕ} {ws : List ℕ} (i w : ℕ) → Below c ws → w < c → Below c (set ws i w)
below_set i w none h = none
below_set zero w (more g gs) h = more h gs
below_set (suc i) w (more g gs) h = more g (below_set i w gs h)

pub with_bit-below : (h : ℕ) (b : Bool) (ws : List ℕ) → Below (2 ^ 64) ws → Below (2 ^ 64) (with_bit h b ws)
unfolding with_bit
with_bit-below h b ws g =
    let bs : List Bool = set (bits 64 (get_or ws (h / 64) 0)) (h % 64) b in
    let e : length bs ≡ 64 = length-set (bits 64 (get_or ws (h / 64) 0)) (h % 64) b ∙ length-bits 64 (get_or ws (h / 64) 0) in
    below_set (h / 64) (spell 0 bs) g (rw e at (spell_lt bs))

with_bit-words : (n h : ℕ) (b : Bool) (Y : List Bool) → length Y ≡ n * 64 → h < n * 64 → with_bit h b (words n Y) ≡ words n (set Y h b)
with_bit-words n h b Y e g =
    bits_of_inj 64 (with_bit-below h b (words n Y) (numbers-below 64 n Y)) (numbers-below 64 n (set Y h b))
    (length-with_bit h b (words n Y) ∙ length-numbers 64 n Y ∙ sym (length-numbers 64 n (set Y h b)))
    (bits_of-with_bit h b (words n Y) (rw (length-numbers 64 n Y) g)
    ∙ rw (bits_of-numbers 64 n Y (omega arith), take_all (n * 64) Y (omega arith))
    (sym (bits_of-numbers 64 n (set Y h b) (rw (length-set Y h b) (omega arith)) ∙ take_all (n * 64) (set Y h b) (rw (length-set Y h b) (omega arith)))))

-- one bit more is known
pub block_of_bit : (Y : List Bool) (b : Bool) → length Y < block_bits → with_bit (length Y) b (block_of Y) ≡ block_of (Y ++ (b ∷ []))
unfolding block_of
block_of_bit Y b h =
    let e : block_bits - length Y ≡ suc (block_bits - suc (length Y)) = omega arith in
    let l : length (Y ++ (b ∷ [])) ≡ suc (length Y) = rw (length-append Y (b ∷ [])) (omega arith) in
    with_bit-words 64 (length Y) b (Y ++ replicate (block_bits - length Y) false) (padded-length Y (omega arith)) (omega arith)
    ∙ rw (e, l, set_at Y false (replicate (block_bits - suc (length Y)) false) b (length Y) refl, append_assoc)

-- ---- one output more

put-words : (n a rest : ℕ) (X W y Z : List Bool) → n ≡ a + (16 + rest) → length X ≡ a * 64 → length W ≡ 16 * 64 → length y ≡ 16 * 64 →
    put a 16 (words n (X ++ (W ++ Z))) (words 16 y) ≡ words n (X ++ (y ++ Z))
put-words n a rest X W y Z e hX hW hy =
    rw (
      e,
      numbers-append 64 a (16 + rest) X (W ++ Z) hX,
      numbers-append 64 a (16 + rest) X (y ++ Z) hX,
      numbers-append 64 16 rest W Z hW,
      numbers-append 64 16 rest y Z hy,
      take_at (words a X) (words 16 W ++ words rest Z) a (length-numbers 64 a X),
      drop_at (words a X) (words 16 W ++ words rest Z) a (length-numbers 64 a X),
      drop_at (words 16 W) (words rest Z) 16 (length-numbers 64 16 W),
    ) refl

block_of-out : (j : ℕ) (Y y : List Bool) → j < 4 → length Y ≡ j * output_bits → length y ≡ output_bits →
    put (16 * j) 16 (block_of Y) (words 16 y) ≡ block_of (Y ++ y)
unfolding block_of
block_of-out j Y y h hY hy =
    let e : block_bits - length Y ≡ output_bits + (block_bits - length (Y ++ y)) = rw (length-append Y y) (omega arith) in
    rw (e, ← replicate-append-replicate output_bits (block_bits - length (Y ++ y)) false)
    (put-words 64 (16 * j) (48 - 16 * j) Y (replicate output_bits false) y (replicate (block_bits - length (Y ++ y)) false) (omega arith) (omega arith) refl (omega arith)
    ∙ rw append_assoc)

-- output i joined to what a level holds, of which it is the j-th after those
pub join_parallel_lem : (i j : ℕ) (Y y : List Bool) → i % 4 ≡ j → length Y ≡ j * output_bits → length y ≡ output_bits →
    join_parallel i (words 16 y) (block_of Y) ≡ block_of (Y ++ y)
join_parallel_lem i j Y y e hY hy = rw e (block_of-out j Y y (omega arith) hY hy)

pub join_sequential_lem : (i j : ℕ) (c Y y : List Bool) → i % 3 ≡ j → length c ≡ output_bits → length Y ≡ j * output_bits → length y ≡ output_bits →
    join_sequential i (words 16 y) (block_of (c ++ Y)) ≡ block_of (c ++ (Y ++ y))
join_sequential_lem i j c Y y e hc hY hy =
    let s : 16 + 16 * j ≡ 16 * suc j = omega arith in
    rw (e, s) (block_of-out (suc j) (c ++ Y) y (omega arith) (rw (length-append c Y) (omega arith)) hy ∙ rw append_assoc)

pub block_of-chain-full : (c X : List Bool) → length c ≡ output_bits → length X ≡ sequential_bits → block_of (c ++ X) ≡ words 16 c ++ words 48 X
block_of-chain-full c X h g = sym (block_of-chain c X h (omega arith)) ∙ rw g (ap (λ (l : List Bool). words 16 c ++ words 48 l) (append-nil X))
