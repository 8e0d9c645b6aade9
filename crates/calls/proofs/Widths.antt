-- Laws: what bits make of an area's levels are as many levels again, of 64 words each, whatever the levels held.
use Rattle.std.specs.Prelude.{◌≡◌, refl, Bool, true, false, List, [], ◌∷◌, ℕ, zero, suc, ◌+◌, ◌*◌, ◌/◌, ◌%◌, ◌≤◌, eqb, length, replicate}
use Rattle.std.proofs.Common.{◌∙◌, arith, length-append, length-take, length-drop}
use Rattle.lists.specs.Part.{put}
use Rattle.tree.specs.Tree.{Params, Node, node, block_bits, sequential_bits, output_bits, out_words}
use Rattle.tree.proofs.OutputLaws.{length-out_words}
use Rattle.calls.specs.Area.{params_of, levels_of, empty_level, done_blocks, held_bits, area_levels, Long}
use Rattle.calls.specs.Calls.{chained, join_parallel, join_sequential, receive, feed_bit, feed_bits}
use Rattle.calls.proofs.Rows.{AllLen}
use Rattle.calls.proofs.Receive
use Rattle.calls.proofs.Machine
use Rattle.calls.proofs.Counts
use Rattle.calls.proofs.Block.{length-with_bit}
use Rattle.calls.proofs.WriteLaws.{levels_of-widths}
use Rattle.calls.proofs.AreaLaws.{length-levels_of}

pub length-empty : length empty_level ≡ 64
unfolding empty_level
length-empty = refl

-- a level that an output joined
pub length-joined : (place : ℕ) (ws out : List ℕ) → length ws ≡ 64 → length out ≡ 16 → place + 16 ≤ 64 → length (put place 16 ws out) ≡ 64
length-joined place ws out h g f = simp (length-append, length-take, length-drop) (omega arith)

-- as many levels as a limit gives, of 64 words each
pub record Wide (limit : ℕ) (L : List (List ℕ)) : Type 0 where
  pub widths : AllLen 64 L
  pub size : length L ≡ area_levels limit

pub wide-levels : (area : List ℕ) → Long area → Wide (params_of area).limit (levels_of area)
wide-levels area h = record { widths = levels_of-widths area h; size = length-levels_of area }

pub length-chained : (P : Params) (m : Node) → length (chained P m) ≡ 64
length-chained P m = length-append (out_words P m) (replicate 48 0) ∙ omega (arith, length-out_words P m)

module _ (P : Params) where
  pub receive-widths : (n k i : ℕ) (out : List ℕ) (L : List (List ℕ)) → length out ≡ 16 → AllLen 64 L → AllLen 64 (receive P n k i out L).levels
  receive-widths n k i out [] h a = rw (Receive.receive_none P n k i out) a
  receive-widths zero k i out (ws ∷ up) h a = by (eqb (i % 3) 2) refl
    where
      by : (b : Bool) → eqb (i % 3) 2 ≡ b → AllLen 64 (receive P zero k i out (ws ∷ up)).levels
      by true e = rw (Receive.seq-yes P k i out ws up e) (length-chained P (node P k (i / 3) 0 0 (join_sequential i out ws)), a.1)
      by false e = rw (Receive.seq-no P k i out ws up e) (length-joined (16 + 16 * (i % 3)) ws out a.0 h (omega arith), a.1)
  receive-widths (suc n) k i out (ws ∷ up) h a =
      by (eqb (i % 4) 3) refl (receive-widths n (suc k) (i / 4) (out_words P m) up (length-out_words P m) a.1)
    where
      m : Node
      m = node P k (i / 4) 0 0 (join_parallel i out ws)

      by : (b : Bool) → eqb (i % 4) 3 ≡ b → AllLen 64 (receive P n (suc k) (i / 4) (out_words P m) up).levels
          → AllLen 64 (receive P (suc n) k i out (ws ∷ up)).levels
      by true e r = rw (Receive.par-yes P n k i out ws up e) (length-empty, r)
      by false e r = rw (Receive.par-no P n k i out ws up e) (length-joined (16 * (i % 4)) ws out a.0 h (omega arith), a.1)

  bit_widths : (limit T : ℕ) (b : Bool) (ws : List ℕ) (up : List (List ℕ)) → AllLen 64 (ws ∷ up) → AllLen 64 (feed_bit P limit T b (ws ∷ up)).levels
  bit_widths zero T b ws up a = by (eqb (held_bits sequential_bits T) sequential_bits) refl
    where
      m : Node
      m = node P 1 (done_blocks sequential_bits T) 0 0 ws

      by : (c : Bool) → eqb (held_bits sequential_bits T) sequential_bits ≡ c → AllLen 64 (feed_bit P zero T b (ws ∷ up)).levels
      by true e = rw (Machine.feed-seq-yes P T b ws up e) (length-with_bit output_bits b (chained P m) ∙ length-chained P m, a.1)
      by false e = rw (Machine.feed-seq-no P T b ws up e) (length-with_bit (output_bits + held_bits sequential_bits T) b ws ∙ a.0, a.1)
  bit_widths (suc n) T b ws up a = by (eqb (held_bits block_bits T) block_bits) refl
    where
      m : Node
      m = node P 1 (done_blocks block_bits T) 0 0 ws

      by : (c : Bool) → eqb (held_bits block_bits T) block_bits ≡ c → AllLen 64 (feed_bit P (suc n) T b (ws ∷ up)).levels
      by true e =
          rw (Machine.feed-par-yes P n T b ws up e)
          (length-with_bit 0 b empty_level ∙ length-empty, receive-widths n 2 (done_blocks block_bits T) (out_words P m) up (length-out_words P m) a.1)
      by false e = rw (Machine.feed-par-no P n T b ws up e) (length-with_bit (held_bits block_bits T) b ws ∙ a.0, a.1)

  pub wide-bits : (limit T : ℕ) (bs : List Bool) (L : List (List ℕ)) → Wide limit L → Wide limit (feed_bits P T bs L).levels
  wide-bits limit T bs L w = record { widths = go T bs L w.size w.widths; size = Counts.feed_bits-size P T bs L (omega (arith, w.size)) ∙ w.size }
    where
      go : (T : ℕ) (bs : List Bool) (L : List (List ℕ)) → length L ≡ area_levels limit → AllLen 64 L → AllLen 64 (feed_bits P T bs L).levels
      go T [] L s a = rw (Machine.feed_bits_none P T L) a
      go T (b ∷ bs) [] s a = absurd (omega arith)
      go T (b ∷ bs) (ws ∷ up) s a =
          let e = Counts.feed_bit-size P P.limit T b (ws ∷ up) (omega arith) in
          rw (Machine.feed_bits-more P T b bs (ws ∷ up)) (go (suc T) bs (feed_bit P P.limit T b (ws ∷ up)).levels (e ∙ s) (bit_widths P.limit T b ws up a))
