-- Laws: how many words of log a feed, an end and a close need. Which nodes a feed makes goes by the total, the limit and the number of its bits
-- alone, and what is told of it is exact: document 02, M-103.
use Rattle.std.specs.Prelude.{◌≡◌, refl, Bool, true, false, cond, ◌↔◌, List, [], ◌∷◌, ◌++◌, map, ℕ, zero, suc, ◌*◌, ◌/◌, ◌%◌, ◌≤◌, ◌<◌, eqb, ltb, length, replicate}
use Rattle.std.proofs.Common.{sym, ap, ◌∙◌, arith, ltb-true, lt-ltb, le-ltb}
use Rattle.std.proofs.lemmas.List.{length-map, length-replicate}
use Rattle.lists.specs.Append.{cons_eq}
use Rattle.lists.specs.Flatten.{map-append}
use Rattle.bits.specs.Piece.{Piece, piece_bits, refused_bits, bits_test}
use Rattle.bits.specs.PieceLaws.{length-piece_bits, bits-there}
use Rattle.tree.specs.Tree.{Params, Node, block_bits, sequential_bits, most_levels, node, digest_bytes, out_words}
use Rattle.refusals.specs.Refusals.{first_refusal, output_test, log_test}
use Rattle.refusals.specs.RefusalLaws.{test_at, passed, passed-by, second-part}
use Rattle.calls.specs.Area.{area_levels, total_of, params_of, levels_of, done_blocks, held_bits}
use Rattle.calls.specs.Calls.{Made, join_parallel, receive, feed_bit, feed_bits, fed_bits, open_tests, total_test, feed_number, feed_of, last_nodes_of, end_number, end_of, nodes_digest, figure_test, close_number, close_of, log_words_number, log_words_of}
use Rattle.calls.proofs.CallLaws.{total-passed, feed-number, feed-accepted, end-number, close-number, log_words-accepted}
use Rattle.calls.proofs.AreaLaws.{length-levels_of}
use Rattle.calls.proofs.Accepts.{fed-count}
use Rattle.calls.specs.Vocabulary.{enough_words}
use Rattle.calls.proofs.Receive
use Rattle.calls.proofs.Machine
use Rattle.calls.proofs.Counts

-- ---- which nodes a feed makes

-- the levels and indexes of nodes
abbrev us : List Node → List ℕ
us nodes = map (λ (m : Node). m.u) nodes

module _ (P Q : Params) where
  receive-shape : (n level i : ℕ) (x y : List ℕ) (st other : List (List ℕ)) → length st ≡ length other
      → us (receive P n level i x st).nodes ≡ us (receive Q n level i y other).nodes
  receive-shape n level i x y [] [] h = rw (Receive.receive_none P n level i x, Receive.receive_none Q n level i y) refl
  receive-shape n level i x y [] (vs ∷ vp) h = absurd (omega arith)
  receive-shape n level i x y (ws ∷ up) [] h = absurd (omega arith)
  receive-shape zero level i x y (ws ∷ up) (vs ∷ vp) h = go (eqb (i % 3) 2) refl
    where
      go : (t : Bool) → eqb (i % 3) 2 ≡ t → us (receive P 0 level i x (ws ∷ up)).nodes ≡ us (receive Q 0 level i y (vs ∷ vp)).nodes
      go true e = rw (Receive.seq-yes P level i x ws up e, Receive.seq-yes Q level i y vs vp e) refl
      go false e = rw (Receive.seq-no P level i x ws up e, Receive.seq-no Q level i y vs vp e) refl
  receive-shape (suc n) level i x y (ws ∷ up) (vs ∷ vp) h =
      go (eqb (i % 4) 3) refl (receive-shape n (suc level) (i / 4) (out_words P (made P x ws)) (out_words Q (made Q y vs)) up vp (omega arith))
    where
      made : Params → List ℕ → List ℕ → Node
      made R z zs = node R level (i / 4) 0 0 (join_parallel i z zs)

      go : (t : Bool) → eqb (i % 4) 3 ≡ t
          → us (receive P n (suc level) (i / 4) (out_words P (made P x ws)) up).nodes ≡ us (receive Q n (suc level) (i / 4) (out_words Q (made Q y vs)) vp).nodes
          → us (receive P (suc n) level i x (ws ∷ up)).nodes ≡ us (receive Q (suc n) level i y (vs ∷ vp)).nodes
      go true e u = rw (Receive.par-yes P n level i x ws up e, Receive.par-yes Q n level i y vs vp e) (cons_eq refl u)
      go false e u = rw (Receive.par-no P n level i x ws up e, Receive.par-no Q n level i y vs vp e) refl

  feed_bit-shape : (limit T : ℕ) (b c : Bool) (st other : List (List ℕ)) → 0 < length st → length st ≡ length other
      → us (feed_bit P limit T b st).nodes ≡ us (feed_bit Q limit T c other).nodes
  feed_bit-shape limit T b c [] other o h = absurd (omega arith)
  feed_bit-shape limit T b c (ws ∷ up) [] o h = absurd (omega arith)
  feed_bit-shape zero T b c (ws ∷ up) (vs ∷ vp) o h = go (eqb (held_bits sequential_bits T) sequential_bits) refl
    where
      go : (t : Bool) → eqb (held_bits sequential_bits T) sequential_bits ≡ t
          → us (feed_bit P 0 T b (ws ∷ up)).nodes ≡ us (feed_bit Q 0 T c (vs ∷ vp)).nodes
      go true e = rw (Machine.feed-seq-yes P T b ws up e, Machine.feed-seq-yes Q T c vs vp e) refl
      go false e = rw (Machine.feed-seq-no P T b ws up e, Machine.feed-seq-no Q T c vs vp e) refl
  feed_bit-shape (suc n) T b c (ws ∷ up) (vs ∷ vp) o h = go (eqb (held_bits block_bits T) block_bits) refl
    where
      i : ℕ
      i = done_blocks block_bits T

      go : (t : Bool) → eqb (held_bits block_bits T) block_bits ≡ t
          → us (feed_bit P (suc n) T b (ws ∷ up)).nodes ≡ us (feed_bit Q (suc n) T c (vs ∷ vp)).nodes
      go true e = rw (Machine.feed-par-yes P n T b ws up e, Machine.feed-par-yes Q n T c vs vp e)
          (cons_eq refl (receive-shape n 2 i (out_words P (node P 1 i 0 0 ws)) (out_words Q (node Q 1 i 0 0 vs)) up vp (omega arith)))
      go false e = rw (Machine.feed-par-no P n T b ws up e, Machine.feed-par-no Q n T c vs vp e) refl

  feed_bits-shape : P.limit ≡ Q.limit → (T : ℕ) (Y Z : List Bool) (st other : List (List ℕ)) → length Y ≡ length Z → 0 < length st
      → length st ≡ length other → us (feed_bits P T Y st).nodes ≡ us (feed_bits Q T Z other).nodes
  feed_bits-shape l T [] [] st other y o h = rw (Machine.feed_bits_none P T st, Machine.feed_bits_none Q T other) refl
  feed_bits-shape l T [] (c ∷ Z) st other y o h = absurd (omega arith)
  feed_bits-shape l T (b ∷ Y) [] st other y o h = absurd (omega arith)
  feed_bits-shape l T (b ∷ Y) (c ∷ Z) st other y o h =
      let one : Made = feed_bit P P.limit T b st in
      let two : Made = feed_bit Q Q.limit T c other in
      let s = Counts.feed_bit-size P P.limit T b st o in
      let t = Counts.feed_bit-size Q Q.limit T c other (omega arith) in
      let e : us one.nodes ≡ us two.nodes = feed_bit-shape P.limit T b c st other o h ∙ ap (λ (k : ℕ). us (feed_bit Q k T c other).nodes) l in
      let f = feed_bits-shape l (suc T) Y Z one.levels two.levels (omega arith) (omega arith) (omega arith) in
      rw (Machine.feed_bits-more P T b Y st, Machine.feed_bits-more Q T c Z other, map-append (λ (m : Node). m.u) one.nodes (feed_bits P (suc T) Y one.levels).nodes, map-append (λ (m : Node). m.u) two.nodes (feed_bits Q (suc T) Z two.levels).nodes, e, f) refl

-- "exactly two words for each node that the feed would make": which nodes, by level and index, goes by the total, the limit and the
-- number of bits alone, whatever the areas hold and whatever the bits are
pub feed-shape : (a b : List ℕ) (Y Z : List Bool) → total_of a ≡ total_of b → (params_of a).limit ≡ (params_of b).limit → length Y ≡ length Z
    → map (λ (m : Node). m.u) (fed_bits a Y).nodes ≡ map (λ (m : Node). m.u) (fed_bits b Z).nodes
unfolding fed_bits
feed-shape a b Y Z t l y =
    let m = length-levels_of a in
    let n = length-levels_of b in
    let o : area_levels (params_of a).limit ≡ area_levels (params_of b).limit = ap area_levels l in
    ap (λ (T : ℕ). us (feed_bits (params_of a) T Y (levels_of a)).nodes) t
    ∙ feed_bits-shape (params_of a) (params_of b) l (total_of b) Y Z (levels_of a) (levels_of b) y (omega arith) (omega arith)

-- so the told words are those of any n bits
pub any_bits : (area : List ℕ) (Y : List Bool) → length (fed_bits area Y).nodes ≡ length (fed_bits area (replicate (length Y) false)).nodes
any_bits area Y =
    let zs : List Bool = replicate (length Y) false in
    sym (length-map (fed_bits area Y).nodes (λ (m : Node). m.u))
    ∙ ap length (feed-shape area area Y zs refl refl (sym (length-replicate (length Y) false)))
    ∙ length-map (fed_bits area zs).nodes (λ (m : Node). m.u)

-- and of any piece that has its bits
pub piece-nodes : (area : List ℕ) (piece : Piece) → refused_bits piece ≡ false
    → length (fed_bits area (piece_bits piece)).nodes ≡ length (fed_bits area (replicate piece.count false)).nodes
piece-nodes area piece b =
    any_bits area (piece_bits piece)
    ∙ ap (λ (n : ℕ). length (fed_bits area (replicate n false)).nodes) (length-piece_bits piece (bits-there piece b))

-- ---- what is told is exact

-- the tests of a feed before number 8: "7, 10, 5, 6"
abbrev earlier_tests : List ℕ → Piece → List (Bool × ℕ)
earlier_tests area piece = open_tests area ++ (bits_test piece ∷ total_test (total_of area) piece.count ∷ [])

-- where none of these holds, telling is accepted
told_where_fed : (area : List ℕ) (piece : Piece) → ((k : ℕ) → test_at (earlier_tests area piece) k ≡ false)
    → log_words_of area piece.count ≡ record { number = 0; count = 2 * length (fed_bits area (piece_bits piece)).nodes }
unfolding log_words_number
told_where_fed area piece p =
    log_words-accepted area piece.count (rw (p 0, p 1, p 2, p 4) refl)
    ∙ ap (λ (m : ℕ). record { number = 0; count = 2 * m }) (sym (piece-nodes area piece (p 3)))

-- if a feed is accepted, twice its count was told
pub told_exactly : (area : List ℕ) (piece : Piece) (log : List ℕ) → (feed_of area piece log).number ≡ 0
    → log_words_of area piece.count ≡ record { number = 0; count = 2 * (feed_of area piece log).count }
unfolding feed_number
told_exactly area piece log e =
    let n : feed_number area piece log ≡ 0 = sym (feed-number area piece log) ∙ e in
    let made : ℕ = length (fed_bits area (piece_bits piece)).nodes in
    told_where_fed area piece (passed-by 0 (earlier_tests area piece) (log_test made log ∷ []) refl n).0
    ∙ rw (feed-accepted area piece log n) refl

-- a call is refused by 8 only if the log is too short
number_eight : (nodes : ℕ) (log : List ℕ) → first_refusal (log_test nodes log ∷ []) ≡ 8 → length log < 2 * nodes
number_eight nodes log = go (ltb (length log) (2 * nodes)) refl
  where
    go : (b : Bool) → ltb (length log) (2 * nodes) ≡ b → ◌≡◌ {A = ℕ} (cond b 8 0) 8 → length log < 2 * nodes
    go true t e = ltb-true (length log) (2 * nodes) t
    go false t e = absurd (omega arith)

-- a figure that differs is no short log
not_eight : (differs : Bool) → first_refusal ((differs, 14) ∷ []) ≡ 8 → ⊥
not_eight true e = omega arith
not_eight false e = omega arith

-- "8, 0: log shorter than 2 words a node made": for every area, piece and log, a feed answers 8 exactly if none of 7, 10, 5 and 6 holds
-- and the log has fewer words than told
pub eight_iff : (area : List ℕ) (piece : Piece) (log : List ℕ) → ((feed_of area piece log).number ≡ 8)
    ↔ ((first_refusal (open_tests area ++ (bits_test piece ∷ total_test (total_of area) piece.count ∷ [])) ≡ 0)
    × (length log < (log_words_of area piece.count).count))
unfolding feed_number
eight_iff area piece log = (there, back)
  where
    made : ℕ
    made = length (fed_bits area (piece_bits piece)).nodes

    there : (feed_of area piece log).number ≡ 8 → (first_refusal (earlier_tests area piece) ≡ 0) × (length log < (log_words_of area piece.count).count)
    there e =
        let p = passed-by 8 (earlier_tests area piece) (log_test made log ∷ []) refl (sym (feed-number area piece log) ∙ e) in
        let few = number_eight made log p.1 in
        (second-part (earlier_tests area piece) [] p.0, rw (told_where_fed area piece p.0) few)

    back : (first_refusal (earlier_tests area piece) ≡ 0) × (length log < (log_words_of area piece.count).count) → (feed_of area piece log).number ≡ 8
    back h =
        let p = passed (earlier_tests area piece) refl h.0 in
        let few : length log < 2 * made = rw (told_where_fed area piece p) at h.1 in
        feed-number area piece log ∙ second-part (earlier_tests area piece) (log_test made log ∷ []) p ∙ rw (lt-ltb (length log) (2 * made) few) refl

-- ---- words that are always enough

-- for a feed of so many bits, whatever the area
pub log-enough : (area : List ℕ) (piece : Piece) (log : List ℕ) → enough_words piece.count ≤ length log → (feed_of area piece log).number ≡ 8 → ⊥
unfolding feed_number enough_words
log-enough area piece log h e =
    let made : ℕ = length (fed_bits area (piece_bits piece)).nodes in
    let p = passed-by 8 (earlier_tests area piece) (log_test made log ∷ []) refl (sym (feed-number area piece log) ∙ e) in
    let few = number_eight made log p.1 in
    let l : length (piece_bits piece) ≡ piece.count = length-piece_bits piece (bits-there piece (p.0 3)) in
    let small = total-passed (total_of area) piece.count (p.0 4) in
    let c = rw l at (fed-count area (piece_bits piece) (rw l small)) in
    omega (arith, Counts.feed_bound (params_of area).limit (total_of area) piece.count small)

-- "End needs at most 54": an end makes a node a level at most
pub last_bound : (area : List ℕ) → length (last_nodes_of area) ≤ most_levels
unfolding last_nodes_of
last_bound area =
    let z = length-levels_of area in
    let g = Counts.last_nodes_bound (params_of area) (params_of area).limit (total_of area) (levels_of area) (omega arith) in
    omega arith

-- so with a log of 54 words an end does not answer 8
pub end-enough : (area out log : List ℕ) → 54 ≤ length log → (end_of area out log).number ≡ 8 → ⊥
unfolding end_number
end-enough area out log h e =
    let p = passed-by 8 (open_tests area ++ (output_test (digest_bytes (params_of area).d) out ∷ [])) (log_test (length (last_nodes_of area)) log ∷ []) refl (sym (end-number area out log) ∙ e) in
    omega (arith, number_eight (length (last_nodes_of area)) log p.1, last_bound area)

-- nor does a close
pub close-enough : (area figure log : List ℕ) → 54 ≤ length log → (close_of area figure log).number ≡ 8 → ⊥
unfolding close_number
close-enough area figure log h e =
    let nodes : ℕ = length (last_nodes_of area) in
    let figured : Bool × ℕ = figure_test (nodes_digest area (last_nodes_of area)) figure in
    let room : ltb (length log) (2 * nodes) ≡ false = le-ltb (length log) (2 * nodes) (omega (arith, last_bound area)) in
    let p = passed-by 8 (open_tests area) (log_test nodes log ∷ figured ∷ []) refl (sym (close-number area figure log) ∙ e) in
    let z : first_refusal (figured ∷ []) ≡ 8 = rw room at p.1 in
    not_eight figured.0 z
