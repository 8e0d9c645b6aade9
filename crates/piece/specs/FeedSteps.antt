-- Laws: the steps of a feed: the bits that level 1 takes, copied at once, and what comes of them where it is full. That these are what
-- `feed_bits` of Calls makes, which goes bit by bit.
use Rattle.std.specs.Prelude.{◌≡◌, refl, Bool, true, false, List, [], ◌∷◌, ◌++◌, ℕ, zero, suc, ◌+◌, ◌-◌, ◌*◌, ◌^◌, ◌≤◌, ◌<◌, min, ltb, length, take, drop, get_or}
use Rattle.std.proofs.Common.{sym, ap, ◌∙◌, append-nil, arith, Fits, length-drop, drop_of_length-le, drop-cons, drop-drop, take-add, length-take-le, eq-eqb, lt-ltb, le-ltb, ltb-true, ltb-false}
use Rattle.std.specs.Int.{w64}
use Rattle.lists.specs.Below.{Below}
use Rattle.lists.specs.BelowLaws.{below-append, below-zeros}
use Rattle.bits.specs.Piece.{piece_of, piece_bits}
use Rattle.bits.specs.Bits.{bits_of, filled}
use Rattle.bits.specs.BitsLaws.{length-bits_of, numbers-below}
use Rattle.bits.specs.FilledLaws.{length-filled, filled-below, filled_more}
use Rattle.tree.specs.Tree.{Params, Node, node, output, block_bits, sequential_bits, out_words}
use Rattle.calls.specs.Area.{block_words, empty_level, done_blocks, held_bits}
use Rattle.calls.specs.Calls.{Made, with_bit, feed_bit, feed_bits}
use Rattle.calls.proofs.Blocks.{held-most, held_first}
use Rattle.calls.proofs.FeedLaws.{feed_bits-append, with_bits-filled, fill_parallel, fill_sequential}
use Rattle.calls.proofs.Machine
use Rattle.calls.proofs.Widths.{length-chained, length-empty}
use Rattle.climb.specs.ReceiveLaws.{made}
use Rattle.climb.specs.FlushLaws.{flushed, first_of, rest_of, flushed_two}

-- the bits that level 1 takes, and the bit of its words at which they begin
abbrev pub size_of : ℕ → ℕ
size_of zero = sequential_bits
size_of (suc n) = block_bits

abbrev pub base_of : ℕ → ℕ
base_of limit = block_bits - size_of limit

-- ---- numbers

pub size_pos : (limit : ℕ) → (0 < size_of limit) × (size_of limit ≤ block_bits)
size_pos zero = (omega arith, omega arith)
size_pos (suc n) = (omega arith, omega arith)

pub size_some : (limit : ℕ) → 1 ≤ limit → size_of limit ≡ block_bits
size_some zero h = absurd (omega arith)
size_some (suc n) h = refl

pub held_le : (limit T : ℕ) → held_bits (size_of limit) T ≤ size_of limit
held_le limit T = held-most (size_of limit) (size_pos limit).0 T

base_size : (limit : ℕ) → base_of limit + size_of limit ≡ block_bits
base_size zero = refl
base_size (suc n) = refl

-- ---- bits that fit level 1

-- so many bits of a piece's bytes, from any of their bits on
abbrev pub part_bits : List ℕ → ℕ → ℕ → List Bool
part_bits bytes from count = piece_bits (piece_of bytes from count)

module _ (P : Params) where
  pub chunk : (count T from : ℕ) (ws bytes : List ℕ) (up : List (List ℕ)) → Below (2 ^ 64) ws → length ws ≡ block_words
      → held_bits (size_of P.limit) T + count ≤ size_of P.limit → from + count ≤ 8 * length bytes
      → feed_bits P T (part_bits bytes from count) (ws ∷ up)
      ≡ made (filled ws (base_of P.limit + held_bits (size_of P.limit) T) bytes from count ∷ up) []
  chunk count T from ws bytes up bw lw h g = by P.limit refl h
    where
      by : (limit : ℕ) → P.limit ≡ limit → held_bits (size_of limit) T + count ≤ size_of limit
          → feed_bits P T (part_bits bytes from count) (ws ∷ up) ≡ made (filled ws (base_of limit + held_bits (size_of limit) T) bytes from count ∷ up) []
      by zero e h = fill_sequential P T ws up bytes from count e bw lw h g
      by (suc n) e h =
          let z : 0 + held_bits block_bits T ≡ held_bits block_bits T = omega arith in
          fill_parallel P n T ws up bytes from count e bw lw h g ∙ ap (λ (x : ℕ). made (filled ws x bytes from count ∷ up) []) (sym z)

-- ---- a full level 1

-- the bits of a piece, one and the rest
bits-cons : (bytes : List ℕ) (from c : ℕ) → from < 8 * length bytes
    → part_bits bytes from (suc c) ≡ get_or (bits_of 8 bytes) from false ∷ part_bits bytes (suc from) c
bits-cons bytes from c h = rw (drop-cons (bits_of 8 bytes) from false (rw length-bits_of (omega arith)))

-- a bit set in words is a bit copied into them
bit_filled : (ws : List ℕ) (h : ℕ) (bytes : List ℕ) (from : ℕ) → Below (2 ^ 64) ws → h < 64 * length ws → from < 8 * length bytes
    → with_bit h (get_or (bits_of 8 bytes) from false) ws ≡ filled ws h bytes from 1
bit_filled ws h bytes from b hw hs = rw (bits-cons bytes from 0 hs) at (with_bits-filled ws h bytes from 1 b (omega arith) (omega arith))

first-size : (P : Params) (limit T : ℕ) (ws : List ℕ) (up : List (List ℕ)) → length (first_of (flushed P limit T (ws ∷ up)).levels) ≡ block_words
first-size P zero T ws up = length-chained P (node P 1 (done_blocks sequential_bits T) 0 0 ws)
first-size P (suc n) T ws up = length-empty

first-empty : (P : Params) (limit T : ℕ) (ws : List ℕ) (up : List (List ℕ)) → 1 ≤ limit → first_of (flushed P limit T (ws ∷ up)).levels ≡ empty_level
first-empty P zero T ws up h = absurd (omega arith)
first-empty P (suc n) T ws up h = refl

first_below : (P : Params) (limit T : ℕ) (ws : List ℕ) (up : List (List ℕ)) → Below (2 ^ 64) (first_of (flushed P limit T (ws ∷ up)).levels)
unfolding out_words empty_level
first_below P zero T ws up =
    let m : Node = node P 1 (done_blocks sequential_bits T) 0 0 ws in
    below-append (numbers-below 64 16 (output P.rounds m)) (below-zeros (2 ^ 64) 48 (omega arith))
first_below P (suc n) T ws up = below-zeros (2 ^ 64) 64 (omega arith)

module _ (P : Params) where
  bit_full : (T : ℕ) (b : Bool) (ws : List ℕ) (up : List (List ℕ)) → held_bits (size_of P.limit) T ≡ size_of P.limit
      → feed_bit P P.limit T b (ws ∷ up)
      ≡ (let F : Made = flushed P P.limit T (ws ∷ up) in made (with_bit (base_of P.limit) b (first_of F.levels) ∷ rest_of F.levels) F.nodes)
  bit_full T b ws up h = by P.limit h
    where
      by : (limit : ℕ) → held_bits (size_of limit) T ≡ size_of limit
          → feed_bit P limit T b (ws ∷ up) ≡ (let F : Made = flushed P limit T (ws ∷ up) in made (with_bit (base_of limit) b (first_of F.levels) ∷ rest_of F.levels) F.nodes)
      by zero h = Machine.feed-seq-yes P T b ws up (eq-eqb (held_bits sequential_bits T) sequential_bits h)
      by (suc n) h = Machine.feed-par-yes P n T b ws up (eq-eqb (held_bits block_bits T) block_bits h)

  -- bits that come to a full level 1 and fit the next block
  pub full-chunk : (count T from : ℕ) (ws bytes : List ℕ) (up : List (List ℕ)) → held_bits (size_of P.limit) T ≡ size_of P.limit → 1 ≤ count
      → count ≤ size_of P.limit → from + count ≤ 8 * length bytes
      → feed_bits P T (part_bits bytes from count) (ws ∷ up)
      ≡ (let F : Made = flushed P P.limit T (ws ∷ up) in made (filled (first_of F.levels) (base_of P.limit) bytes from count ∷ rest_of F.levels) F.nodes)
  full-chunk zero T from ws bytes up e l h g = absurd (omega arith)
  full-chunk (suc c) T from ws bytes up e l h g =
      let F : Made = flushed P P.limit T (ws ∷ up) in
      let W : List ℕ = first_of F.levels in
      let S : ℕ = size_of P.limit in
      let at : ℕ = base_of P.limit in
      let b : Bool = get_or (bits_of 8 bytes) from false in
      let bs : List Bool = part_bits bytes (suc from) c in
      let room : at + S ≡ block_bits = base_size P.limit in
      let lw : length W ≡ block_words = first-size P P.limit T ws up in
      let one : with_bit at b W ≡ filled W at bytes from 1 = bit_filled W at bytes from (first_below P P.limit T ws up) (omega arith) (omega arith) in
      let full : feed_bit P P.limit T b (ws ∷ up) ≡ made (filled W at bytes from 1 ∷ rest_of F.levels) F.nodes =
      bit_full T b ws up e ∙ ap (λ (x : List ℕ). made (x ∷ rest_of F.levels) F.nodes) one in
      let next : held_bits S (suc T) ≡ 1 = held_first S (size_pos P.limit).0 T e in
      let q : suc from ≡ from + 1 = omega arith in
      let p : at + held_bits S (suc T) ≡ at + 1 = omega arith in
      let t : 1 + c ≡ suc c = omega arith in
      let lf : length (filled W at bytes from 1) ≡ block_words = length-filled W at bytes from 1 ∙ lw in
      let rest = chunk P c (suc T) (suc from) (filled W at bytes from 1) bytes (rest_of F.levels) (filled-below W at bytes from 1) lf (omega arith) (omega arith) in
      let more : filled (filled W at bytes from 1) (at + held_bits S (suc T)) bytes (suc from) c ≡ filled W at bytes from (suc c) =
      rw (p, q) (filled_more W at bytes from 1 c (omega arith) (omega arith)) ∙ ap (filled W at bytes from) t in
      ap (λ (x : List Bool). feed_bits P T x (ws ∷ up)) (bits-cons bytes from c (omega arith))
      ∙ Machine.feed_bits-more P T b bs (ws ∷ up)
      ∙ rw (full, rest, more) (ap (made (filled W at bytes from (suc c) ∷ rest_of F.levels)) (append-nil F.nodes))

-- ---- a full level 1, and a block and more that come to it

-- bits cut in two
bits-cut : (bytes : List ℕ) (from m n : ℕ) → part_bits bytes from (m + n) ≡ part_bits bytes from m ++ part_bits bytes (from + m) n
bits-cut bytes from m n =
    let B : List Bool = bits_of 8 bytes in
    take-add m n (drop from B) ∙ ap (λ (x : List Bool). take m (drop from B) ++ take n x) (drop-drop m from B)

length_part : (bytes : List ℕ) (from m : ℕ) → from + m ≤ 8 * length bytes → length (part_bits bytes from m) ≡ m
length_part bytes from m h = length-take-le m (drop from (bits_of 8 bytes)) (simp (length-drop, length-bits_of) (omega arith))

-- a block that is filled whole: what it held before does not matter
filled-whole : (ws vs bytes : List ℕ) (from : ℕ) → length ws ≡ block_words → length vs ≡ block_words → filled ws 0 bytes from block_bits ≡ filled vs 0 bytes from block_bits
unfolding filled
filled-whole ws vs bytes from h g =
    rw (h, g, drop_of_length-le (bits_of 64 ws) {i = block_bits} (rw length-bits_of (omega arith)), drop_of_length-le (bits_of 64 vs) {i = block_bits} (rw length-bits_of (omega arith)))

-- a block is done, and the next is full
held-block : (T : ℕ) → held_bits block_bits T ≡ block_bits → held_bits block_bits (T + block_bits) ≡ block_bits
held-block T h = omega arith

module _ (P : Params) where
  -- the next block, which is put over the one that is held, and then bits that fit the one after it
  pub full-two : (count T from : ℕ) (ws bytes : List ℕ) (up : List (List ℕ)) → length ws ≡ block_words → 1 ≤ P.limit → held_bits block_bits T ≡ block_bits
      → 1 ≤ count → count ≤ block_bits → from + (block_bits + count) ≤ 8 * length bytes
      → feed_bits P T (part_bits bytes from (block_bits + count)) (ws ∷ up)
      ≡ (let F : Made = flushed_two P P.limit T ws (filled ws 0 bytes from block_bits ∷ up) in made (filled (first_of F.levels) 0 bytes (from + block_bits) count ∷ rest_of F.levels) F.nodes)
  full-two count T from ws bytes up wide some e l h g =
      let limit : ℕ = P.limit in
      let size : size_of limit ≡ block_bits = size_some limit some in
      let base : base_of limit ≡ 0 = ap (λ (x : ℕ). block_bits - x) size in
      let next : List ℕ = filled ws 0 bytes from block_bits in
      let one : Made = flushed P limit T (ws ∷ up) in
      let two : Made = flushed P limit (T + block_bits) (next ∷ rest_of one.levels) in
      let a : feed_bits P T (part_bits bytes from block_bits) (ws ∷ up) ≡ made (next ∷ rest_of one.levels) one.nodes =
      full-chunk P block_bits T from ws bytes up (rw size e) (omega arith) (rw size (omega arith)) (omega arith)
      ∙ rw (base, first-empty P limit T ws up some, filled-whole empty_level ws bytes from length-empty wide) refl in
      let b : feed_bits P (T + block_bits) (part_bits bytes (from + block_bits) count) (next ∷ rest_of one.levels)
      ≡ made (filled (first_of two.levels) 0 bytes (from + block_bits) count ∷ rest_of two.levels) two.nodes =
      full-chunk P count (T + block_bits) (from + block_bits) next bytes (rest_of one.levels) (rw size (held-block T e)) l (rw size h) (omega arith)
      ∙ rw base refl in
      ap (λ (x : List Bool). feed_bits P T x (ws ∷ up)) (bits-cut bytes from block_bits count)
      ∙ feed_bits-append P T (part_bits bytes from block_bits) (part_bits bytes (from + block_bits) count) (ws ∷ up)
      ∙ rw (a, length_part bytes from block_bits (omega arith), b)

-- ---- as the code does it

-- the bits that level 1 takes before a node is made: the last of its words' bits
abbrev pub free_of : ℕ → ℕ → ℕ
free_of limit T = size_of limit - held_bits (size_of limit) T

pub free_place : (limit T : ℕ) → block_bits - free_of limit T ≡ base_of limit + held_bits (size_of limit) T
free_place zero T = omega (arith, held_le zero T)
free_place (suc n) T = omega (arith, held_le (suc n) T)

pub free_le : (limit T : ℕ) → free_of limit T ≤ block_bits
free_le zero T = omega arith
free_le (suc n) T = omega arith

-- the bits that a full level 1 takes next: of two blocks, whose nodes are made at once; of one if it is sequential
abbrev pub next_of : ℕ → ℕ
next_of zero = sequential_bits
next_of (suc n) = 2 * block_bits

-- the bits that level 1 takes next: before a node is made, or after that if it is full
abbrev pub room_of : ℕ → ℕ → ℕ
room_of limit T = elim (ltb 0 (free_of limit T)) [ true ↦ free_of limit T | false ↦ next_of limit ]

pub room_free : (limit T : ℕ) → 0 < free_of limit T → room_of limit T ≡ free_of limit T
room_free limit T h = rw (lt-ltb 0 (free_of limit T) h, room_of)

pub room-full : (limit T : ℕ) → free_of limit T ≤ 0 → room_of limit T ≡ next_of limit
room-full limit T h = rw (le-ltb 0 (free_of limit T) h, room_of)

room_by : (limit T : ℕ) (b : Bool) → ltb 0 (free_of limit T) ≡ b → 1 ≤ room_of limit T
room_by limit T true e = rw (room_free limit T (ltb-true 0 (free_of limit T) e)) (omega (arith, ltb-true 0 (free_of limit T) e))
room_by limit T false e = rw (room-full limit T (ltb-false 0 (free_of limit T) e)) (next_pos limit)
  where
    next_pos : (limit : ℕ) → 1 ≤ next_of limit
    next_pos zero = omega arith
    next_pos (suc n) = omega arith

pub room_some : (limit T : ℕ) → 1 ≤ room_of limit T
room_some limit T = room_by limit T (ltb 0 (free_of limit T)) refl

pub next_some : (limit : ℕ) → 1 ≤ limit → next_of limit ≡ 2 * block_bits
next_some zero h = absurd (omega arith)
next_some (suc n) h = refl

-- of the bits that a full level 1 takes, a block at most is taken after one node; only a parallel one takes more
pub next_one : (limit : ℕ) {count : ℕ} → count ≤ next_of limit → count ≤ block_bits → count ≤ size_of limit
next_one zero h g = h
next_one (suc n) h g = g

pub next-two : (limit : ℕ) {count : ℕ} → count ≤ next_of limit → block_bits < count → (1 ≤ limit) × (size_of limit ≡ block_bits)
next-two zero h g = absurd (omega arith)
next-two (suc n) h g = (omega arith, refl)

-- the places of count bits among the last size bits of level 1
pub base_place : {size count : ℕ} → size ≤ block_bits → count ≤ size → (block_bits - size) + count ≤ block_bits
base_place h g = omega arith

pub some_less : {room all done count : ℕ} → count ≡ min room (all - done) → 1 ≤ room → done < all → 1 ≤ count
some_less h g f = omega arith

pub less_left : {done all count : ℕ} → done < all → 1 ≤ count → all - (done + count) < all - done
less_left h g = omega arith

pub fits_sum : (total : ℕ) {all done : ℕ} → total + all < 2 ^ 64 → done < all → Fits w64 (total + done)
fits_sum total h g = record { fits = omega arith }
