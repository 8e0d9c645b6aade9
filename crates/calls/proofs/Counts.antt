-- Laws: how many nodes a feed and an end make, and at most how many: word 14 is the number of compressions. It goes by the total and
-- the limit alone, whatever the levels hold.
use Rattle.std.specs.Prelude.{◌≡◌, refl, Bool, true, false, List, [], ◌∷◌, ℕ, zero, suc, ◌+◌, ◌-◌, ◌*◌, ◌/◌, ◌%◌, ◌^◌, ◌≤◌, ◌<◌, eqb, length}
use Rattle.std.proofs.Common.{ap, ◌∙◌, arith, eqb-true, ne_eqb, length-append}
use Rattle.std.proofs.Math.Nat.{pow-succ'}
use Rattle.std.proofs.lemmas.Bool.{eqb-false}
use Rattle.tree.specs.Tree.{Params, Node, block_bits, output_bits, most_levels, node, blocks, sequential_bits, out_words}
use Rattle.tree.specs.Sizes.{nodes_from, tree_nodes}
use Rattle.calls.specs.Area.{area_levels, done_blocks, held_bits, open_above, open_count}
use Rattle.calls.specs.Calls.{Made, join_parallel, receive, feed_bit, feed_bits, last_above, last_nodes}
use Rattle.calls.proofs.Receive
use Rattle.calls.proofs.LastNodes
use Rattle.calls.proofs.Machine
use Rattle.calls.proofs.Blocks.{done_less, done_full}

pub open_above_none : (n : ℕ) → open_above n 0 ≡ 0
open_above_none zero = refl
open_above_none (suc n) = omega (arith, open_above_none n)

-- no bits, no nodes
pub open_count_none : (limit : ℕ) → open_count limit 0 ≡ 0
open_count_none zero = refl
open_count_none (suc n) = omega (arith, open_above_none n)

module _ (P : Params) where
  -- ---- a feed

  receive-count : (n level i : ℕ) (x : List ℕ) (st : List (List ℕ)) → (length st ≤ n → i + 2 ≤ 4 ^ length st) →
      length (receive P n level i x st).nodes + open_above n i ≡ open_above n (suc i)
  receive-count n level i x [] b = absurd (omega (arith, b (omega arith)))
  receive-count zero level i x (ws ∷ up) b = go (eqb (i % 3) 2) refl
    where
      go : (t : Bool) → eqb (i % 3) 2 ≡ t → length (receive P 0 level i x (ws ∷ up)).nodes + i / 3 ≡ suc i / 3
      go true e = rw (Receive.seq-yes P level i x ws up e) (omega (arith, eqb-true (i % 3) 2 e))
      go false e = rw (Receive.seq-no P level i x ws up e) (omega (arith, eqb-false (i % 3) 2 e))
  receive-count (suc n) level i x (ws ∷ up) b = go (eqb (i % 4) 3) refl (receive-count n (suc level) (i / 4) (out_words P m) up)
    where
      m : Node
      m = node P level (i / 4) 0 0 (join_parallel i x ws)

      next : i % 4 ≡ 3 → suc i / 4 ≡ suc (i / 4)
      next e = omega arith

      same : (i % 4 ≡ 3 → ⊥) → suc i / 4 ≡ i / 4
      same e = omega arith

      go : (t : Bool) → eqb (i % 4) 3 ≡ t →
          ((length up ≤ n → i / 4 + 2 ≤ 4 ^ length up) → length (receive P n (suc level) (i / 4) (out_words P m) up).nodes + open_above n (i / 4) ≡ open_above n (suc (i / 4))) →
          length (receive P (suc n) level i x (ws ∷ up)).nodes + (i / 4 + open_above n (i / 4)) ≡ suc i / 4 + open_above n (suc i / 4)
      go true e u = rw (Receive.par-yes P n level i x ws up e, next (eqb-true (i % 4) 3 e))
          (omega (arith, u (λ h. omega (arith, eqb-true (i % 4) 3 e, pow-succ' 4 (length up), b (omega arith)))))
      go false e u = rw (Receive.par-no P n level i x ws up e, same (eqb-false (i % 4) 3 e)) (omega arith)

  pub feed_bit-size : (limit T : ℕ) (b : Bool) (st : List (List ℕ)) → 0 < length st → length (feed_bit P limit T b st).levels ≡ length st
  feed_bit-size limit T b [] h = absurd (omega arith)
  feed_bit-size zero T b (ws ∷ up) h = go (eqb (held_bits sequential_bits T) sequential_bits) refl
    where
      go : (t : Bool) → eqb (held_bits sequential_bits T) sequential_bits ≡ t → length (feed_bit P 0 T b (ws ∷ up)).levels ≡ suc (length up)
      go true e = rw (Machine.feed-seq-yes P T b ws up e) refl
      go false e = rw (Machine.feed-seq-no P T b ws up e) refl
  feed_bit-size (suc n) T b (ws ∷ up) h = go (eqb (held_bits block_bits T) block_bits) refl
    where
      go : (t : Bool) → eqb (held_bits block_bits T) block_bits ≡ t → length (feed_bit P (suc n) T b (ws ∷ up)).levels ≡ suc (length up)
      go true e = rw (Machine.feed-par-yes P n T b ws up e) (ap suc (Machine.receive-size P n 2 (done_blocks block_bits T) (out_words P (node P 1 (done_blocks block_bits T) 0 0 ws)) up))
      go false e = rw (Machine.feed-par-no P n T b ws up e) refl

  feed_bit-count : (limit T : ℕ) (b : Bool) (st : List (List ℕ)) → length st ≡ area_levels limit → suc T < 2 ^ 64 →
      length (feed_bit P limit T b st).nodes + open_count limit T ≡ open_count limit (suc T)
  feed_bit-count limit T b [] h g = absurd (omega arith)
  feed_bit-count zero T b (ws ∷ up) h g = go (eqb (held_bits sequential_bits T) sequential_bits) refl
    where
      go : (t : Bool) → eqb (held_bits sequential_bits T) sequential_bits ≡ t → length (feed_bit P 0 T b (ws ∷ up)).nodes + (T - 1) / sequential_bits ≡ (suc T - 1) / sequential_bits
      go true e = rw (Machine.feed-seq-yes P T b ws up e, done_full sequential_bits (omega arith) T (eqb-true (held_bits sequential_bits T) sequential_bits e)) (omega arith)
      go false e = rw (Machine.feed-seq-no P T b ws up e, done_less sequential_bits (omega arith) T (eqb-false (held_bits sequential_bits T) sequential_bits e)) (omega arith)
  feed_bit-count (suc n) T b (ws ∷ up) h g = go (eqb (held_bits block_bits T) block_bits) refl
    where
      i : ℕ
      i = done_blocks block_bits T

      go : (t : Bool) → eqb (held_bits block_bits T) block_bits ≡ t →
          length (feed_bit P (suc n) T b (ws ∷ up)).nodes + ((T - 1) / block_bits + open_above n ((T - 1) / block_bits)) ≡ (suc T - 1) / block_bits + open_above n ((suc T - 1) / block_bits)
      go true e =
          let f : held_bits block_bits T ≡ block_bits = eqb-true (held_bits block_bits T) block_bits e in
          let u = receive-count n 2 i (out_words P (node P 1 i 0 0 ws)) up (λ k. rw (Machine.all_above n (length up) (omega arith) k) (omega (arith, f, g))) in
          rw (Machine.feed-par-yes P n T b ws up e, done_full block_bits (omega arith) T f) (omega (arith, u))
      go false e = rw (Machine.feed-par-no P n T b ws up e, done_less block_bits (omega arith) T (eqb-false (held_bits block_bits T) block_bits e)) (omega arith)

  pub feed_bits-size : (T : ℕ) (bs : List Bool) (st : List (List ℕ)) → 0 < length st → length (feed_bits P T bs st).levels ≡ length st
  feed_bits-size T [] st h = rw (Machine.feed_bits_none P T st) refl
  feed_bits-size T (b ∷ bs) st h =
      let e = feed_bit-size P.limit T b st h in
      rw (Machine.feed_bits-more P T b bs st) (feed_bits-size (suc T) bs (feed_bit P P.limit T b st).levels (omega arith) ∙ e)

  -- the nodes that bits make
  pub feed_bits-count : (T : ℕ) (bs : List Bool) (st : List (List ℕ)) → length st ≡ area_levels P.limit → T + length bs < 2 ^ 64 →
      length (feed_bits P T bs st).nodes + open_count P.limit T ≡ open_count P.limit (T + length bs)
  feed_bits-count T [] st h g =
      let e : T + 0 ≡ T = omega arith in
      rw (Machine.feed_bits_none P T st, e) (omega arith)
  feed_bits-count T (b ∷ bs) st h g =
      let one : Made = feed_bit P P.limit T b st in
      let c = feed_bit-count P.limit T b st h (omega arith) in
      let s = feed_bit-size P.limit T b st (omega arith) in
      let u = feed_bits-count (suc T) bs one.levels (omega arith) (omega arith) in
      let e : T + suc (length bs) ≡ suc T + length bs = omega arith in
      rw (Machine.feed_bits-more P T b bs st, length-append one.nodes (feed_bits P (suc T) bs one.levels).nodes, e) (omega (arith, c, u))

  -- ---- an end

  from_more : (n i : ℕ) → 0 < i → nodes_from (suc n) (suc i) ≡ suc i + nodes_from n (suc (i / 4))
  from_more n i h =
      let b : blocks 4 (suc i) ≡ suc (i / 4) = omega arith in
      rw (ne_eqb (suc i) 1 (λ e. omega arith), b) refl

  from_last : (i : ℕ) → 0 < i → nodes_from 0 (suc i) ≡ suc i + suc (i / 3)
  from_last i h =
      let b : blocks 3 (suc i) ≡ suc (i / 3) = omega arith in
      rw (ne_eqb (suc i) 1 (λ e. omega arith), b) refl

  from_one : (n : ℕ) → nodes_from n 1 ≡ 1
  from_one zero = refl
  from_one (suc n) = refl

  last_above-count : (n level i : ℕ) (x : List ℕ) (st : List (List ℕ)) → 0 < i → (length st ≤ n → i < 4 ^ length st) →
      suc i + (length (last_above P n level i x st) + open_above n i) ≡ nodes_from n (suc i)
  last_above-count n level i x [] h b = absurd (omega (arith, b (omega arith)))
  last_above-count zero level i x (ws ∷ up) h b = rw (LastNodes.above-seq P level i x ws up, from_last i h) (omega arith)
  last_above-count (suc n) level i x (ws ∷ up) h b = go (eqb (i / 4) 0) refl (λ y. last_above-count n (suc level) (i / 4) y up)
    where
      m : Node
      m = node P level (i / 4) 0 (output_bits * (3 - i % 4)) (join_parallel i x ws)

      go : (t : Bool) → eqb (i / 4) 0 ≡ t →
          ((y : List ℕ) → 0 < i / 4 → (length up ≤ n → i / 4 < 4 ^ length up) →
          suc (i / 4) + (length (last_above P n (suc level) (i / 4) y up) + open_above n (i / 4)) ≡ nodes_from n (suc (i / 4))) →
          suc i + (length (last_above P (suc n) level i x (ws ∷ up)) + (i / 4 + open_above n (i / 4))) ≡ nodes_from (suc n) (suc i)
      go true e u =
          rw (LastNodes.above-one P n level i x ws up e, from_more n i h, eqb-true (i / 4) 0 e, from_one n, open_above_none n) refl
      go false e u =
          rw (LastNodes.above_many P n level i x ws up e, from_more n i h)
          (omega (arith, u (out_words P m) (omega (arith, eqb-false (i / 4) 0 e)) (λ k. omega (arith, pow-succ' 4 (length up), b (omega arith)))))

  -- the nodes that an end makes, and those made before, are the whole tree's
  pub last_nodes-count : (limit T : ℕ) (st : List (List ℕ)) → length st ≡ area_levels limit → T < 2 ^ 64 →
      length (last_nodes P limit T st) + open_count limit T ≡ tree_nodes limit T
  last_nodes-count limit T [] h g = absurd (omega arith)
  last_nodes-count zero T (ws ∷ up) h g =
      let b : blocks sequential_bits T ≡ suc ((T - 1) / sequential_bits) = omega arith in
      rw (Machine.last_nodes-seq P T ws up, b) (omega arith)
  last_nodes-count (suc n) T (ws ∷ up) h g = go (eqb (done_blocks block_bits T) 0) refl
    where
      b : blocks block_bits T ≡ suc ((T - 1) / block_bits)
      b = omega arith

      m : Node
      m = node P 1 (done_blocks block_bits T) 0 (block_bits - held_bits block_bits T) ws

      go : (t : Bool) → eqb (done_blocks block_bits T) 0 ≡ t →
          length (last_nodes P (suc n) T (ws ∷ up)) + ((T - 1) / block_bits + open_above n ((T - 1) / block_bits)) ≡ nodes_from n (blocks block_bits T)
      go true e = rw (Machine.last_nodes-one P n T ws up e, b, eqb-true (done_blocks block_bits T) 0 e, from_one n, open_above_none n) refl
      go false e =
          rw (Machine.last_nodes_many P n T ws up e, b)
          (omega (arith, last_above-count n 2 (done_blocks block_bits T) (out_words P m) up (omega (arith, eqb-false (done_blocks block_bits T) 0 e)) (λ k. rw (Machine.all_above n (length up) (omega arith) k) (omega (arith, g)))))

  -- an end makes at most one node a level
  last_above_bound : (n level i : ℕ) (x : List ℕ) (st : List (List ℕ)) → length (last_above P n level i x st) ≤ length st
  last_above_bound n level i x [] = rw (LastNodes.above_none P n level i x) (omega arith)
  last_above_bound zero level i x (ws ∷ up) = rw (LastNodes.above-seq P level i x ws up) (omega arith)
  last_above_bound (suc n) level i x (ws ∷ up) = go (eqb (i / 4) 0) refl (last_above_bound n (suc level) (i / 4) (out_words P m) up)
    where
      m : Node
      m = node P level (i / 4) 0 (output_bits * (3 - i % 4)) (join_parallel i x ws)

      go : (t : Bool) → eqb (i / 4) 0 ≡ t → length (last_above P n (suc level) (i / 4) (out_words P m) up) ≤ length up →
          length (last_above P (suc n) level i x (ws ∷ up)) ≤ suc (length up)
      go true e u = rw (LastNodes.above-one P n level i x ws up e) (omega arith)
      go false e u = rw (LastNodes.above_many P n level i x ws up e) (omega arith)

  pub last_nodes_bound : (limit T : ℕ) (st : List (List ℕ)) → 0 < length st → length (last_nodes P limit T st) ≤ length st
  last_nodes_bound limit T [] h = absurd (omega arith)
  last_nodes_bound zero T (ws ∷ up) h = rw (Machine.last_nodes-seq P T ws up) (omega arith)
  last_nodes_bound (suc n) T (ws ∷ up) h = go (eqb (done_blocks block_bits T) 0) refl
    where
      m : Node
      m = node P 1 (done_blocks block_bits T) 0 (block_bits - held_bits block_bits T) ws

      go : (t : Bool) → eqb (done_blocks block_bits T) 0 ≡ t → length (last_nodes P (suc n) T (ws ∷ up)) ≤ suc (length up)
      go true e = rw (Machine.last_nodes-one P n T ws up e) (omega arith)
      go false e = rw (Machine.last_nodes_many P n T ws up e) (omega (arith, last_above_bound n 2 (done_blocks block_bits T) (out_words P m) up))

-- ---- how many nodes a feed can make

-- m outputs more make at most a third of m, and one for each of k levels, more nodes above
above_bound : (n k c d : ℕ) → c ≤ d → d < 4 ^ k → open_above n d * 3 ≤ open_above n c * 3 + (d - c) + k * 3
above_bound n zero c d h b = let e : d ≡ c = omega arith in rw e (omega arith)
above_bound zero (suc k) c d h b = omega arith
above_bound (suc n) (suc k) c d h b = omega (arith, above_bound n k (c / 4) (d / 4) (omega arith) (omega (arith, pow-succ' 4 k)))

pub feed_bound : (limit T m : ℕ) → T + m < 2 ^ 64 → open_count limit (T + m) ≤ open_count limit T + 2 * ((m + (block_bits - 1)) / block_bits) + (most_levels - 1)
feed_bound zero T m h = omega arith
feed_bound (suc n) T m h = omega (arith, above_bound n (most_levels - 1) (done_blocks block_bits T) (done_blocks block_bits (T + m)) (omega arith) (omega arith))
