-- Laws: how many nodes one bit makes: at most one a level, so at most 27, whatever the levels hold; and 27 it can be. `feed_bound` of
-- Counts, which is for any number of bits, gives one more.
use Rattle.std.specs.Prelude.{◌≡◌, Bool, true, false, List, [], ◌∷◌, ℕ, zero, suc, ◌+◌, ◌*◌, ◌/◌, ◌%◌, ◌^◌, ◌≤◌, eqb, length}
use Rattle.std.proofs.Math.Path.{refl}
use Rattle.std.proofs.Common.{arith, length-append}
use Rattle.tree.specs.Tree.{Params, block_bits, sequential_bits, most_levels}
use Rattle.calls.specs.Area.{own_levels, total_of, params_of, levels_of, done_blocks, held_bits, open_count}
use Rattle.calls.specs.Calls.{Made, receive, feed_bit, fed_bits}
use Rattle.calls.proofs.AreaLaws.{length-levels_of}
use Rattle.calls.proofs.Accepts.{fed-count}
use Rattle.calls.proofs.Receive
use Rattle.calls.proofs.Machine

more-both : {m n : ℕ} → m ≤ n → suc m ≤ suc n
more-both h = omega arith

module _ (P : Params) where
  -- an output that comes to a level makes at most one node there and on each level above
  receive_bound : (n level i : ℕ) (x : List ℕ) (st : List (List ℕ)) → length (receive P n level i x st).nodes ≤ length st
  receive_bound n level i x [] = rw (Receive.receive_none P n level i x) (omega arith)
  receive_bound zero level i x (ws ∷ up) = go (eqb (i % 3) 2) refl
    where
      go : (t : Bool) → eqb (i % 3) 2 ≡ t → length (receive P 0 level i x (ws ∷ up)).nodes ≤ suc (length up)
      go true e = rw (Receive.seq-yes P level i x ws up e) (omega arith)
      go false e = rw (Receive.seq-no P level i x ws up e) (omega arith)
  receive_bound (suc n) level i x (ws ∷ up) = go (eqb (i % 4) 3) refl (λ y. receive_bound n (suc level) (i / 4) y up)
    where
      go : (t : Bool) → eqb (i % 4) 3 ≡ t → ((y : List ℕ) → length (receive P n (suc level) (i / 4) y up).nodes ≤ length up)
          → length (receive P (suc n) level i x (ws ∷ up)).nodes ≤ suc (length up)
      go true e above = rw (Receive.par-yes P n level i x ws up e) (more-both (above _))
      go false e above = rw (Receive.par-no P n level i x ws up e) (omega arith)

  bit_none : (limit T : ℕ) (b : Bool) → feed_bit P limit T b [] ≡ record { levels = []; nodes = [] }
  unfolding feed_bit
  bit_none limit T b = refl

  -- a bit makes at most one node a level
  pub bit_bound : (limit T : ℕ) (b : Bool) (st : List (List ℕ)) → length (feed_bit P limit T b st).nodes ≤ length st
  bit_bound limit T b [] = rw (bit_none limit T b) (omega arith)
  bit_bound zero T b (ws ∷ up) = go (eqb (held_bits sequential_bits T) sequential_bits) refl
    where
      go : (t : Bool) → eqb (held_bits sequential_bits T) sequential_bits ≡ t → length (feed_bit P 0 T b (ws ∷ up)).nodes ≤ suc (length up)
      go true e = rw (Machine.feed-seq-yes P T b ws up e) (omega arith)
      go false e = rw (Machine.feed-seq-no P T b ws up e) (omega arith)
  bit_bound (suc n) T b (ws ∷ up) = go (eqb (held_bits block_bits T) block_bits) refl
    where
      go : (t : Bool) → eqb (held_bits block_bits T) block_bits ≡ t → length (feed_bit P (suc n) T b (ws ∷ up)).nodes ≤ suc (length up)
      go true e = rw (Machine.feed-par-yes P n T b ws up e) (more-both (receive_bound n 2 (done_blocks block_bits T) _ up))
      go false e = rw (Machine.feed-par-no P n T b ws up e) (omega arith)

-- a feed of one bit makes at most as many nodes as the area has levels, whatever it holds
pub one_bit_nodes : (area : List ℕ) (b : Bool) → length (fed_bits area (b ∷ [])).nodes ≤ own_levels area
unfolding fed_bits
one_bit_nodes area b =
    let P : Params = params_of area in
    let one : Made = feed_bit P P.limit (total_of area) b (levels_of area) in
    let bound = bit_bound P P.limit (total_of area) b (levels_of area) in
    rw (Machine.feed_bits-more P (total_of area) b [] (levels_of area), Machine.feed_bits_none P (suc (total_of area)) one.levels)
    (omega (arith, length-levels_of area, length-append one.nodes []))

pub one_bit_most : (area : List ℕ) (b : Bool) → length (fed_bits area (b ∷ [])).nodes ≤ most_levels
one_bit_most area b = omega (arith, one_bit_nodes area b)

-- the bound is met: with L = 26 the bit after 3 * 2 ^ 62 bits makes a node on each of the 27 levels
pub one_bit_every-level : (area : List ℕ) (b : Bool) → (params_of area).limit ≡ 26 → total_of area ≡ 3 * 2 ^ 62
    → length (fed_bits area (b ∷ [])).nodes ≡ most_levels
one_bit_every-level area b l t =
    let c : length (fed_bits area (b ∷ [])).nodes + open_count 26 (3 * 2 ^ 62) ≡ open_count 26 (3 * 2 ^ 62 + 1) =
    rw (l, t) at (fed-count area (b ∷ []) (rw t (omega arith))) in
    omega arith
