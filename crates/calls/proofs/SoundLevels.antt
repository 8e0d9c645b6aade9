-- Laws: what the levels of any sound area hold, whatever it is, and that what bits make of them is sound again.
use Rattle.std.specs.Prelude.{◌≡◌, refl, Bool, true, false, ◌||◌, List, [], ◌∷◌, ◌++◌, ℕ, zero, suc, ◌+◌, ◌-◌, ◌*◌, ◌/◌, ◌%◌, ◌^◌, ◌≤◌, ◌<◌, eqb, ltb, length, take, drop, replicate}
use Rattle.std.proofs.Common.{sym, ap, ◌∙◌, append_assoc, append-nil, arith, eqb-true, le-ltb, length-append, length-drop, take-append-drop, take-add, length-take-le}
use Rattle.std.proofs.lemmas.Bool.{eqb-false}
use Rattle.std.proofs.lemmas.List.{length-replicate}
use Rattle.lists.specs.Append.{cons_eq}
use Rattle.lists.specs.Below.{Below}
use Rattle.bits.specs.Bits.{bits_of}
use Rattle.bits.specs.BitsLaws.{length-bits_of, numbers-exact}
use Rattle.tree.specs.Tree.{Params, Node, block_bits, sequential_bits, output_bits, words, node, output, no_chain}
use Rattle.tree.proofs.TreeLaws.{length-output-node}
use Rattle.calls.specs.Area.{empty_level, done_blocks, held_bits, parallel_hold, sequential_hold, holds_above, open_holds, all_false, clean, clean_all}
use Rattle.calls.specs.Calls.{join_parallel, join_sequential, receive, feed_bit, feed_bits}
use Rattle.calls.proofs.Block.{block_of, length-block_of, block_of_none, block_of-output, block_of_bit, join_parallel_lem, join_sequential_lem}
use Rattle.calls.proofs.Rows.{AllLen}
use Rattle.calls.proofs.Receive.{out_words_is}
use Rattle.calls.proofs.Receive
use Rattle.calls.proofs.Machine
use Rattle.calls.proofs.Blocks.{held-most, done_less, held_next, done_full, held_first}
use Rattle.calls.proofs.AreaLaws.{all_false_is}
use Rattle.calls.proofs.Sound.{clean-parallel, clean-sequential, clean-empty}
use Rattle.lists.specs.And.{and_intro, and_parts}
use Rattle.calls.proofs.Moved.{Words, cons}

-- ---- the words of a level whose bits from n on are zero

clean-block : (n : ℕ) (ws : List ℕ) → Below (2 ^ 64) ws → length ws ≡ 64 → n ≤ block_bits → all_false (drop n (bits_of 64 ws)) ≡ true →
    ws ≡ block_of (take n (bits_of 64 ws))
unfolding block_of
clean-block n ws b w h f =
    let X : List Bool = bits_of 64 ws in
    let l : length X ≡ block_bits = length-bits_of 64 ws ∙ rw w refl in
    let t : length (take n X) ≡ n = length-take-le n X (omega arith) in
    let m : length (drop n X) ≡ block_bits - length (take n X) = length-drop n X ∙ omega arith in
    let z : drop n X ≡ replicate (block_bits - length (take n X)) false = all_false_is (drop n X) f ∙ ap (λ (k : ℕ). replicate k false) m in
    sym (rw (← z, take-append-drop n X) (numbers-exact 64 64 b w))

-- ---- what is held, whatever it is

pub record SeqHeld (c held : ℕ) (ws : List ℕ) (up : List (List ℕ)) : Type 0 where
  pub chain : List Bool
  pub Y : List Bool
  pub chained : length chain ≡ output_bits
  pub size : length Y ≡ held
  pub before : c ≡ 0 → chain ≡ no_chain
  pub is : ws ≡ block_of (chain ++ Y)
  pub empty : up ≡ replicate (length up) empty_level

pub record ParHeld (held : ℕ) (ws : List ℕ) : Type 0 where
  pub Y : List Bool
  pub size : length Y ≡ held
  pub is : ws ≡ block_of Y

abbrev pub HeldAbove : ℕ → ℕ → List (List ℕ) → Type 0
HeldAbove n i [] = Unit {0}
HeldAbove zero i (ws ∷ up) = SeqHeld (i / 3) (output_bits * (i % 3)) ws up
HeldAbove (suc n) i (ws ∷ up) = ParHeld (output_bits * (i % 4)) ws × HeldAbove n (i / 4) up

abbrev pub HeldOpen : ℕ → ℕ → List (List ℕ) → Type 0
HeldOpen limit T [] = Unit {0}
HeldOpen zero T (ws ∷ up) = SeqHeld (done_blocks sequential_bits T) (held_bits sequential_bits T) ws up
HeldOpen (suc n) T (ws ∷ up) = ParHeld (held_bits block_bits T) ws × HeldAbove n (done_blocks block_bits T) up

-- ---- sound levels hold it

par-held : (n : ℕ) (ws : List ℕ) → n ≤ block_bits → Below (2 ^ 64) ws → length ws ≡ 64 → clean (parallel_hold n) ws ≡ true → ParHeld n ws
par-held n ws h b w e =
    let f = (and_parts (false || all_false (take 0 (bits_of 64 ws))) (all_false (drop (0 + n) (bits_of 64 ws))) e).1 in
    let z : 0 + n ≡ n = omega arith in
    record {
      Y = take n (bits_of 64 ws);
      size = length-take-le n (bits_of 64 ws) (rw (length-bits_of 64 ws, w) h);
      is = clean-block n ws b w h (rw z at f);
    }

empty-held : (up : List (List ℕ)) → Words up → AllLen 64 up → clean_all (replicate (length up) (parallel_hold 0)) up ≡ true →
    up ≡ replicate (length up) empty_level
empty-held [] w a e = refl
empty-held (ws ∷ up) (cons b w) a e =
    let p = and_parts (clean (parallel_hold 0) ws) (clean_all (replicate (length up) (parallel_hold 0)) up) e in
    let k = par-held 0 ws (omega arith) b a.0 p.0 in
    cons_eq (k.is ∙ none k.Y k.size) (empty-held up w a.1 p.1)
  where
    none : (Y : List Bool) → length Y ≡ 0 → block_of Y ≡ empty_level
    none [] l = block_of_none
    none (y ∷ Y) l = absurd (omega arith)

no_chain_is : (X : List Bool) → length X ≡ output_bits → all_false X ≡ true → X ≡ no_chain
unfolding no_chain
no_chain_is X l e = all_false_is X e ∙ rw l refl

seq-held : (c n : ℕ) (ws : List ℕ) (up : List (List ℕ)) → n ≤ sequential_bits → Words (ws ∷ up) → AllLen 64 (ws ∷ up) →
    clean (sequential_hold c n) ws ≡ true →
    clean_all (replicate (length up) (parallel_hold 0)) up ≡ true → SeqHeld c n ws up
seq-held c n ws up h (cons b w) a e g =
    let X : List Bool = bits_of 64 ws in
    let l : length X ≡ block_bits = length-bits_of 64 ws ∙ rw a.0 refl in
    let p = and_parts (ltb 0 c || all_false (take output_bits X)) (all_false (drop (output_bits + n) X)) e in
    let t : length (take output_bits X) ≡ output_bits = length-take-le output_bits X (omega arith) in
    record {
      chain = take output_bits X;
      Y = take n (drop output_bits X);
      chained = t;
      size = length-take-le n (drop output_bits X) (rw (length-drop output_bits X) (omega arith));
      before = λ z. no_chain_is (take output_bits X) t (rw (le-ltb 0 c (omega arith)) at p.0);
      is = clean-block (output_bits + n) ws b a.0 (omega arith) p.1 ∙ ap block_of (take-add output_bits n X);
      empty = empty-held up w a.1 g;
    }

above-held : (n i : ℕ) (st : List (List ℕ)) → Words st → AllLen 64 st → clean_all (holds_above (length st) n i) st ≡ true → HeldAbove n i st
above-held n i [] w a e = tt
above-held zero i (ws ∷ up) w a e =
    let p = and_parts (clean (sequential_hold (i / 3) (output_bits * (i % 3))) ws) (clean_all (replicate (length up) (parallel_hold 0)) up) e in
    seq-held (i / 3) (output_bits * (i % 3)) ws up (omega arith) w a p.0 p.1
above-held (suc n) i (ws ∷ up) (cons b w) a e =
    let p = and_parts (clean (parallel_hold (output_bits * (i % 4))) ws) (clean_all (holds_above (length up) n (i / 4)) up) e in
    (par-held (output_bits * (i % 4)) ws (omega arith) b a.0 p.0, above-held n (i / 4) up w a.1 p.1)

pub open_held : (limit T : ℕ) (st : List (List ℕ)) → Words st → AllLen 64 st → clean_all (open_holds (length st) limit T) st ≡ true →
    HeldOpen limit T st
open_held limit T [] w a e = tt
open_held zero T (ws ∷ up) w a e =
    let k : ℕ = done_blocks sequential_bits T in
    let h : ℕ = held_bits sequential_bits T in
    let p = and_parts (clean (sequential_hold k h) ws) (clean_all (replicate (length up) (parallel_hold 0)) up) e in
    seq-held k h ws up (held-most sequential_bits (omega arith) T) w a p.0 p.1
open_held (suc n) T (ws ∷ up) (cons b w) a e =
    let p = and_parts (clean (parallel_hold (held_bits block_bits T)) ws) (clean_all (holds_above (length up) n (done_blocks block_bits T)) up) e in
    (par-held (held_bits block_bits T) ws (held-most block_bits (omega arith) T) b a.0 p.0, above-held n (done_blocks block_bits T) up w a.1 p.1)

-- ---- and levels that hold it are sound

above_clean : (n i : ℕ) (st : List (List ℕ)) → HeldAbove n i st → clean_all (holds_above (length st) n i) st ≡ true
above_clean n i [] h = refl
above_clean zero i (ws ∷ up) h =
    rw (h.is, h.empty, length-replicate (length up) empty_level)
    (and_intro (clean-sequential (i / 3) (output_bits * (i % 3)) h.chain h.Y h.chained (omega (arith, h.size)) h.size h.before) (clean-empty (length up)))
above_clean (suc n) i (ws ∷ up) h =
    rw h.0.is (and_intro (clean-parallel (output_bits * (i % 4)) h.0.Y (omega (arith, h.0.size)) h.0.size) (above_clean n (i / 4) up h.1))

pub open_clean : (limit T : ℕ) (st : List (List ℕ)) → HeldOpen limit T st → clean_all (open_holds (length st) limit T) st ≡ true
open_clean limit T [] h = refl
open_clean zero T (ws ∷ up) h =
    rw (h.is, h.empty, length-replicate (length up) empty_level)
    (and_intro (clean-sequential (done_blocks sequential_bits T) (held_bits sequential_bits T) h.chain h.Y h.chained (omega (arith, h.size, held-most sequential_bits (omega arith) T)) h.size h.before) (clean-empty (length up)))
open_clean (suc n) T (ws ∷ up) h =
    rw h.0.is
    (and_intro (clean-parallel (held_bits block_bits T) h.0.Y (omega (arith, h.0.size, held-most block_bits (omega arith) T)) h.0.size) (above_clean n (done_blocks block_bits T) up h.1))

-- ---- a node that comes to the levels

module _ (P : Params) where
  held-receive : (n level i : ℕ) (y : List Bool) (st : List (List ℕ)) → length y ≡ output_bits → HeldAbove n i st →
      HeldAbove n (suc i) (receive P n level i (words 16 y) st).levels
  held-receive n level i y [] l h = rw (Receive.receive_none P n level i (words 16 y)) tt
  held-receive zero level i y (ws ∷ up) l h = go (eqb (i % 3) 2) refl
    where
      j : join_sequential i (words 16 y) ws ≡ block_of (h.chain ++ (h.Y ++ y))
      j = rw h.is (join_sequential_lem i (i % 3) h.chain h.Y y refl h.chained (h.size ∙ omega arith) l)

      m : Node
      m = node P level (i / 3) 0 0 (join_sequential i (words 16 y) ws)

      o : length (output P.rounds m) ≡ output_bits
      o = length-output-node P P.rounds level (i / 3) 0 0 (join_sequential i (words 16 y) ws) (ap length j ∙ length-block_of (h.chain ++ (h.Y ++ y)))

      go : (t : Bool) → eqb (i % 3) 2 ≡ t → HeldAbove 0 (suc i) (receive P 0 level i (words 16 y) (ws ∷ up)).levels
      go true e = rw (Receive.seq-yes P level i (words 16 y) ws up e) record {
        chain = output P.rounds m;
        Y = [];
        chained = o;
        size = omega (arith, eqb-true (i % 3) 2 e);
        before = λ z. absurd (omega (arith, eqb-true (i % 3) 2 e));
        is = rw (out_words_is P m, append-nil (output P.rounds m)) (block_of-output (output P.rounds m) o);
        empty = h.empty;
      }
      go false e = rw (Receive.seq-no P level i (words 16 y) ws up e) record {
        chain = h.chain;
        Y = h.Y ++ y;
        chained = h.chained;
        size = length-append h.Y y ∙ omega (arith, h.size, l, eqb-false (i % 3) 2 e);
        before = λ z. h.before (omega (arith, eqb-false (i % 3) 2 e));
        is = j;
        empty = h.empty;
      }
  held-receive (suc n) level i y (ws ∷ up) l h = go (eqb (i % 4) 3) refl (held-receive n (suc level) (i / 4) (output P.rounds m) up o h.1)
    where
      j : join_parallel i (words 16 y) ws ≡ block_of (h.0.Y ++ y)
      j = rw h.0.is (join_parallel_lem i (i % 4) h.0.Y y refl (h.0.size ∙ omega arith) l)

      m : Node
      m = node P level (i / 4) 0 0 (join_parallel i (words 16 y) ws)

      o : length (output P.rounds m) ≡ output_bits
      o = length-output-node P P.rounds level (i / 4) 0 0 (join_parallel i (words 16 y) ws) (ap length j ∙ length-block_of (h.0.Y ++ y))

      next : i % 4 ≡ 3 → suc (i / 4) ≡ suc i / 4
      next e = omega arith

      same : (i % 4 ≡ 3 → ⊥) → i / 4 ≡ suc i / 4
      same e = omega arith

      go : (t : Bool) → eqb (i % 4) 3 ≡ t → HeldAbove n (suc (i / 4)) (receive P n (suc level) (i / 4) (words 16 (output P.rounds m)) up).levels →
          HeldAbove (suc n) (suc i) (receive P (suc n) level i (words 16 y) (ws ∷ up)).levels
      go true e u = rw (Receive.par-yes P n level i (words 16 y) ws up e, out_words_is P m)
          (record { Y = []; size = omega (arith, eqb-true (i % 4) 3 e); is = sym block_of_none }, rw (next (eqb-true (i % 4) 3 e)) at u)
      go false e u = rw (Receive.par-no P n level i (words 16 y) ws up e)
          (record { Y = h.0.Y ++ y; size = length-append h.0.Y y ∙ omega (arith, h.0.size, l, eqb-false (i % 4) 3 e); is = j }, rw (same (eqb-false (i % 4) 3 e)) at h.1)

  -- ---- one bit more

  held-feed_bit : (limit T : ℕ) (b : Bool) (st : List (List ℕ)) → 0 < length st → HeldOpen limit T st →
      HeldOpen limit (suc T) (feed_bit P limit T b st).levels
  held-feed_bit limit T b [] p h = absurd (omega arith)
  held-feed_bit zero T b (ws ∷ up) p h = go (eqb (held_bits sequential_bits T) sequential_bits) refl
    where
      m : Node
      m = node P 1 (done_blocks sequential_bits T) 0 0 ws

      o : length (output P.rounds m) ≡ output_bits
      o = length-output-node P P.rounds 1 (done_blocks sequential_bits T) 0 0 ws (ap length h.is ∙ length-block_of (h.chain ++ h.Y))

      place : output_bits + held_bits sequential_bits T ≡ length (h.chain ++ h.Y)
      place = rw (length-append h.chain h.Y) (omega (arith, h.chained, h.size))

      go : (t : Bool) → eqb (held_bits sequential_bits T) sequential_bits ≡ t → HeldOpen 0 (suc T) (feed_bit P 0 T b (ws ∷ up)).levels
      go true e =
          let f : held_bits sequential_bits T ≡ sequential_bits = eqb-true (held_bits sequential_bits T) sequential_bits e in
          rw (Machine.feed-seq-yes P T b ws up e, done_full sequential_bits (omega arith) T f) record {
            chain = output P.rounds m;
            Y = b ∷ [];
            chained = o;
            size = sym (rw (done_full sequential_bits (omega arith) T f) at (held_first sequential_bits (omega arith) T f));
            before = λ z. absurd (omega arith);
            is = rw (out_words_is P m, block_of-output (output P.rounds m) o, ← o) (block_of_bit (output P.rounds m) b (omega (arith, o)));
            empty = h.empty;
          }
      go false e =
          let f : held_bits sequential_bits T ≡ sequential_bits → ⊥ = eqb-false (held_bits sequential_bits T) sequential_bits e in
          let less : held_bits sequential_bits T < sequential_bits = omega (arith, held-most sequential_bits (omega arith) T) in
          rw (Machine.feed-seq-no P T b ws up e) record {
            chain = h.chain;
            Y = h.Y ++ (b ∷ []);
            chained = h.chained;
            size = length-append h.Y (b ∷ []) ∙ omega (arith, h.size, held_next sequential_bits (omega arith) T less);
            before = λ z. h.before (sym (done_less sequential_bits (omega arith) T f) ∙ z);
            is = rw (h.is, place) (block_of_bit (h.chain ++ h.Y) b (omega (arith, place)) ∙ rw append_assoc);
            empty = h.empty;
          }
  held-feed_bit (suc n) T b (ws ∷ up) p h = go (eqb (held_bits block_bits T) block_bits) refl
    where
      m : Node
      m = node P 1 (done_blocks block_bits T) 0 0 ws

      o : length (output P.rounds m) ≡ output_bits
      o = length-output-node P P.rounds 1 (done_blocks block_bits T) 0 0 ws (ap length h.0.is ∙ length-block_of h.0.Y)

      go : (t : Bool) → eqb (held_bits block_bits T) block_bits ≡ t → HeldOpen (suc n) (suc T) (feed_bit P (suc n) T b (ws ∷ up)).levels
      go true e =
          let f : held_bits block_bits T ≡ block_bits = eqb-true (held_bits block_bits T) block_bits e in
          rw (Machine.feed-par-yes P n T b ws up e, out_words_is P m)
          (record { Y = b ∷ []; size = sym (held_first block_bits (omega arith) T f); is = Machine.first_bit P b }, rw (done_full block_bits (omega arith) T f) (held-receive n 2 (done_blocks block_bits T) (output P.rounds m) up o h.1))
      go false e =
          let f : held_bits block_bits T ≡ block_bits → ⊥ = eqb-false (held_bits block_bits T) block_bits e in
          let less : held_bits block_bits T < block_bits = omega (arith, held-most block_bits (omega arith) T) in
          rw (Machine.feed-par-no P n T b ws up e) (
            record {
              Y = h.0.Y ++ (b ∷ []);
              size = length-append h.0.Y (b ∷ []) ∙ omega (arith, h.0.size, held_next block_bits (omega arith) T less);
              is = rw (h.0.is, ← h.0.size) (block_of_bit h.0.Y b (omega (arith, h.0.size)));
            },
            rw (done_less block_bits (omega arith) T f) h.1,
          )

  pub held-feed_bits : (T : ℕ) (bs : List Bool) (st : List (List ℕ)) → 0 < length st → HeldOpen P.limit T st →
      HeldOpen P.limit (T + length bs) (feed_bits P T bs st).levels
  held-feed_bits T [] st p h = let e : T + 0 ≡ T = omega arith in rw (Machine.feed_bits_none P T st, e) h
  held-feed_bits T (b ∷ bs) st p h =
      let e : T + suc (length bs) ≡ suc T + length bs = omega arith in
      let s = Rattle.calls.proofs.Counts.feed_bit-size P P.limit T b st p in
      rw (Machine.feed_bits-more P T b bs st, e) (held-feed_bits (suc T) bs (feed_bit P P.limit T b st).levels (omega arith) (held-feed_bit P.limit T b st p h))
