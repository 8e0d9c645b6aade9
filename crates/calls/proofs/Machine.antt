-- Laws: bits fed one by one, and the end, against the tree: the nodes made are the tree's, in order.
use Rattle.std.specs.Prelude.{◌≡◌, Bool, true, false, eqb, length}
use Rattle.std.proofs.Math.Path.{refl, ap}
use Rattle.std.proofs.Common.{sym, ◌∙◌, subst, arith, eqb-true, eq-eqb, ne_eqb, length-append}
use mathlib.Core.List.{List, [], ◌∷◌, ◌++◌, append_assoc, append-nil}
use Prim.Native.Nat.{ℕ, zero, suc, ◌+◌, ◌-◌, ◌/◌, ◌%◌, ◌^◌, ◌≤◌, ◌<◌}
use Rattle.std.proofs.lemmas.Bool.{eqb-false}
use Rattle.std.proofs.Math.ListN.{replicate, length-replicate}
use Rattle.std.proofs.Math.Seq.{append_snoc}
use Rattle.lists.specs.Append.{cons_eq}
use Rattle.lists.specs.Flatten.{map-append}
use Rattle.tree.specs.Tree.{Params, Node, Mark, Subtree, block_bits, sequential_bits, output_bits, words, node, output, no_chain, levels, last_or, no_node, root_of, leaves, most_levels, listing, climb, subtrees, last_index, out_words}
use Rattle.tree.proofs.TreeLaws.{length-output-node, length-seq_block, levels-one, levels-more, levels_some, root_of-cons}
use Rattle.bits.specs.BitsLaws.{length-numbers}
use Rattle.calls.specs.Area.{empty_level, empty_levels, done_blocks, held_bits, area_levels}
use Rattle.calls.specs.Calls.{Made, with_bit, chained, join_parallel, receive, feed_bit, feed_bits, last_above, last_nodes}
use Rattle.calls.proofs.Block.{block_of, length-block_of, block_of-full, block_of_none, block_of-no_chain, block_of-output, block_of-chain-full, block_of_bit}
use Rattle.calls.proofs.Rows.{snoc-length, last_or-snoc, Cut, cut-length, cut-last, cut-held, cut-blocks, cut-more, cut-full, tops}
use Rattle.calls.proofs.Rows
use Rattle.calls.proofs.Receive.{listing-append, marked, marked_append, out_words_is}
use Rattle.calls.proofs.Receive
use Rattle.calls.proofs.LastNodes.{length-cases}
use Rattle.calls.proofs.LastNodes

-- ---- leaves

abbrev pub leaf : Bool → Node → Subtree
leaf b n = let m : Mark = record { node = n; reaches = b } in record { top = m; nodes = m ∷ [] }

abbrev pub quiet_leaves : List Node → List Subtree
quiet_leaves [] = []
quiet_leaves (n ∷ ns) = leaf false n ∷ quiet_leaves ns

leaves_snoc : (i last : ℕ) (ns : List Node) (n : Node) → last ≡ i + length ns → leaves last i (ns ++ (n ∷ [])) ≡ quiet_leaves ns ++ (leaf true n ∷ [])
leaves_snoc i last [] n e = rw (eq-eqb i last (omega arith)) refl
leaves_snoc i last (m ∷ ns) n e = rw (ne_eqb i last (λ h. omega arith), leaves_snoc (suc i) last ns n (omega arith)) refl

quiet_leaves_snoc : (ns : List Node) (n : Node) → quiet_leaves (ns ++ (n ∷ [])) ≡ quiet_leaves ns ++ (leaf false n ∷ [])
quiet_leaves_snoc [] n = refl
quiet_leaves_snoc (m ∷ ns) n = cons_eq refl (quiet_leaves_snoc ns n)

length-quiet_leaves : (ns : List Node) → length (quiet_leaves ns) ≡ length ns
length-quiet_leaves [] = refl
length-quiet_leaves (n ∷ ns) = ap suc (length-quiet_leaves ns)

tops-quiet_leaves : (ns : List Node) → tops (quiet_leaves ns) ≡ ns
tops-quiet_leaves [] = refl
tops-quiet_leaves (n ∷ ns) = cons_eq refl (tops-quiet_leaves ns)

listing-quiet_leaves : (ns : List Node) → listing (quiet_leaves ns) ≡ marked false ns
unfolding mathlib.Core.List.flatten
listing-quiet_leaves [] = refl
listing-quiet_leaves (n ∷ ns) = cons_eq refl (listing-quiet_leaves ns)

-- ---- how many levels there are

-- an area whose levels do not reach the sequential one has all 27, so 26 above level 1
pub all_above : (n k : ℕ) → k ≡ area_levels (suc n) - 1 → k ≤ n → k ≡ most_levels - 1
all_above n k e h = omega arith

-- there is a level 1
pub one_more : (limit : ℕ) → area_levels limit ≡ suc (area_levels limit - 1)
one_more limit = omega arith

module _ (P : Params) where
  abbrev pub par_nodes : List (List Bool) → List Node
  par_nodes B = Rows.row P (Rows.par_node P 1) 0 [] B

  abbrev pub seq_nodes : List (List Bool) → List Node
  seq_nodes B = Rows.row P (Rows.seq_node P 1) 0 no_chain B

  -- the levels st and the nodes log made so far, after the message M; the first number is the limit
  pub record SeqState (M : List Bool) (st : List (List ℕ)) (log : List Node) : Type 0 where
    pub B : List (List Bool)
    pub l : List Bool
    pub up : List (List ℕ)
    pub cut : Cut sequential_bits M B l
    pub is : st ≡ block_of (Rows.chain P 1 B ++ l) ∷ up
    pub size : length up ≡ area_levels 0 - 1
    pub empty : up ≡ replicate (length up) empty_level
    pub logged : log ≡ seq_nodes B

  pub record ParState (n : ℕ) (M : List Bool) (st : List (List ℕ)) (log : List Node) : Type 0 where
    pub B : List (List Bool)
    pub l : List Bool
    pub up : List (List ℕ)
    pub cut : Cut block_bits M B l
    pub is : st ≡ block_of l ∷ up
    pub size : length up ≡ area_levels (suc n) - 1
    pub inv : Receive.Inv P n 2 (quiet_leaves (par_nodes B)) up (marked false log)

  abbrev pub State : ℕ → List Bool → List (List ℕ) → List Node → Type 0
  State zero M st log = SeqState M st log
  State (suc n) M st log = ParState n M st log

  nothing : (k : ℕ) → 0 < k → Cut k [] [] []
  unfolding mathlib.Core.List.flatten
  nothing k h = record { size = h; whole = refl; full = tt; fits = omega arith; some = λ e. refl }

  -- an opened stream
  pub state_open : (limit : ℕ) → State limit [] (empty_levels (area_levels limit)) []
  unfolding empty_levels
  state_open zero = record {
    B = [];
    l = [];
    up = [];
    cut = nothing sequential_bits (omega arith);
    is = rw (Rows.chain_none P 1, append-nil no_chain, block_of-no_chain) refl;
    size = refl;
    empty = refl;
    logged = refl;
  }
  state_open (suc n) = record {
    B = [];
    l = [];
    up = replicate (area_levels (suc n) - 1) empty_level;
    cut = nothing block_bits (omega arith);
    is = rw block_of_none (ap (λ (k : ℕ). replicate k empty_level) (one_more (suc n)));
    size = length-replicate (area_levels (suc n) - 1) empty_level;
    inv = Receive.inv_open P n 2 (area_levels (suc n) - 1);
  }

  -- ---- the steps of a bit

  pub feed-seq-no : (T : ℕ) (b : Bool) (ws : List ℕ) (up : List (List ℕ)) → eqb (held_bits sequential_bits T) sequential_bits ≡ false →
      feed_bit P 0 T b (ws ∷ up) ≡ record { levels = with_bit (output_bits + held_bits sequential_bits T) b ws ∷ up; nodes = [] }
  unfolding feed_bit
  feed-seq-no T b ws up e = rw (e, feed_bit) refl

  pub feed-seq-yes : (T : ℕ) (b : Bool) (ws : List ℕ) (up : List (List ℕ)) → eqb (held_bits sequential_bits T) sequential_bits ≡ true →
      feed_bit P 0 T b (ws ∷ up) ≡
      (let m : Node = node P 1 (done_blocks sequential_bits T) 0 0 ws in record { levels = with_bit output_bits b (chained P m) ∷ up; nodes = m ∷ [] })
  unfolding feed_bit
  feed-seq-yes T b ws up e = rw (e, feed_bit) refl

  pub feed-par-no : (n T : ℕ) (b : Bool) (ws : List ℕ) (up : List (List ℕ)) → eqb (held_bits block_bits T) block_bits ≡ false →
      feed_bit P (suc n) T b (ws ∷ up) ≡ record { levels = with_bit (held_bits block_bits T) b ws ∷ up; nodes = [] }
  unfolding feed_bit
  feed-par-no n T b ws up e = rw (e, feed_bit) refl

  pub feed-par-yes : (n T : ℕ) (b : Bool) (ws : List ℕ) (up : List (List ℕ)) → eqb (held_bits block_bits T) block_bits ≡ true →
      feed_bit P (suc n) T b (ws ∷ up) ≡
      (let m : Node = node P 1 (done_blocks block_bits T) 0 0 ws in
      let above : Made = receive P n 2 (done_blocks block_bits T) (out_words P m) up in
      record { levels = with_bit 0 b empty_level ∷ above.levels; nodes = m ∷ above.nodes })
  unfolding feed_bit
  feed-par-yes n T b ws up e = rw (e, feed_bit) refl

  pub receive-size : (n level i : ℕ) (x : List ℕ) (st : List (List ℕ)) → length (receive P n level i x st).levels ≡ length st
  receive-size n level i x [] = rw (Receive.receive_none P n level i x) refl
  receive-size zero level i x (ws ∷ up) = go (eqb (i % 3) 2) refl
    where
      go : (t : Bool) → eqb (i % 3) 2 ≡ t → length (receive P 0 level i x (ws ∷ up)).levels ≡ suc (length up)
      go true e = rw (Receive.seq-yes P level i x ws up e) refl
      go false e = rw (Receive.seq-no P level i x ws up e) refl
  receive-size (suc n) level i x (ws ∷ up) =
      go (eqb (i % 4) 3) refl (receive-size n (suc level) (i / 4) (out_words P (node P level (i / 4) 0 0 (join_parallel i x ws))) up)
    where
      go : (t : Bool) → eqb (i % 4) 3 ≡ t →
          length (receive P n (suc level) (i / 4) (out_words P (node P level (i / 4) 0 0 (join_parallel i x ws))) up).levels ≡ length up →
          length (receive P (suc n) level i x (ws ∷ up)).levels ≡ suc (length up)
      go true e h = rw (Receive.par-yes P n level i x ws up e, h) refl
      go false e h = rw (Receive.par-no P n level i x ws up e) refl

  -- ---- one bit more

  -- a level that holds one bit
  pub first_bit : (b : Bool) → with_bit 0 b empty_level ≡ block_of (b ∷ [])
  first_bit b = rw (← block_of_none) (block_of_bit [] b (omega arith))

  seq-step : (M : List Bool) (st : List (List ℕ)) (log : List Node) (b : Bool) → SeqState M st log →
      SeqState (M ++ (b ∷ [])) (feed_bit P 0 (length M) b st).levels (log ++ (feed_bit P 0 (length M) b st).nodes)
  seq-step M st log b v = rw v.is (go (eqb (held_bits sequential_bits (length M)) sequential_bits) refl)
    where
      c : List Bool
      c = Rows.chain P 1 v.B

      lc : length c ≡ output_bits
      lc = Rows.length-chain P 1 v.B

      ws : List ℕ
      ws = block_of (c ++ v.l)

      held : held_bits sequential_bits (length M) ≡ length v.l
      held = cut-held v.cut

      m : Node
      m = Rows.seq_node P 1 (length v.B) c v.l

      place : output_bits + length v.l ≡ length (c ++ v.l)
      place = rw (length-append c v.l) (omega (arith, lc))

      go : (t : Bool) → eqb (held_bits sequential_bits (length M)) sequential_bits ≡ t →
          SeqState (M ++ (b ∷ [])) (feed_bit P 0 (length M) b (ws ∷ v.up)).levels (log ++ (feed_bit P 0 (length M) b (ws ∷ v.up)).nodes)
      go false e =
          let less : length v.l < sequential_bits = omega (arith, held, v.cut.fits, eqb-false (held_bits sequential_bits (length M)) sequential_bits e) in
          rw (feed-seq-no (length M) b ws v.up e) record {
            B = v.B;
            l = v.l ++ (b ∷ []);
            up = v.up;
            cut = cut-more b v.cut less;
            is = rw (held, place) (ap (λ (w : List ℕ). w ∷ v.up) (block_of_bit (c ++ v.l) b (omega (arith, place)) ∙ rw append_assoc));
            size = v.size;
            empty = v.empty;
            logged = append-nil log ∙ v.logged;
          }
      go true e =
          let full : length v.l ≡ sequential_bits = omega (arith, held, eqb-true (held_bits sequential_bits (length M)) sequential_bits e) in
          let o : length (output P.rounds m) ≡ output_bits = length-output-node P P.rounds 1 (length v.B) 0 0 (words 16 c ++ words 48 v.l) (length-seq_block P c v.l) in
          rw (feed-seq-yes (length M) b ws v.up e, cut-last v.cut, block_of-chain-full c v.l lc full) record {
            B = v.B ++ (v.l ∷ []);
            l = b ∷ [];
            up = v.up;
            cut = cut-full b v.cut full;
            is = rw (out_words_is P m, block_of-output (output P.rounds m) o, Rows.chain_snoc P 1 v.B v.l, ← o)
                (ap (λ (w : List ℕ). w ∷ v.up) (block_of_bit (output P.rounds m) b (omega arith)));
            size = v.size;
            empty = v.empty;
            logged = rw v.logged (sym (Rows.seq_snoc P 1 v.B v.l));
          }

  pub length-par_nodes : (B : List (List Bool)) → length (quiet_leaves (par_nodes B)) ≡ length B
  length-par_nodes B = length-quiet_leaves (par_nodes B) ∙ Rows.length-row P (Rows.par_node P 1) 0 [] B

  par-step : (n : ℕ) (M : List Bool) (st : List (List ℕ)) (log : List Node) (b : Bool) → suc (length M) < 2 ^ 64 → ParState n M st log →
      ParState n (M ++ (b ∷ [])) (feed_bit P (suc n) (length M) b st).levels (log ++ (feed_bit P (suc n) (length M) b st).nodes)
  par-step n M st log b hM v = rw v.is (go (eqb (held_bits block_bits (length M)) block_bits) refl)
    where
      ws : List ℕ
      ws = block_of v.l

      held : held_bits block_bits (length M) ≡ length v.l
      held = cut-held v.cut

      m : Node
      m = Rows.par_node P 1 (length v.B) [] v.l

      o : length (output P.rounds m) ≡ output_bits
      o = length-output-node P P.rounds 1 (length v.B) 0 0 (words 64 v.l) (length-numbers 64 64 v.l)

      X : List Subtree
      X = quiet_leaves (par_nodes v.B)

      above : Made
      above = receive P n 2 (length v.B) (words 16 (output P.rounds m)) v.up

      came : length v.l ≡ block_bits → Receive.Inv P n 2 (X ++ (leaf false m ∷ [])) above.levels (marked false log ++ ((leaf false m).nodes ++ marked false above.nodes))
      came full = rw (length-par_nodes v.B) at
          (Receive.receive-inv P n 2 X v.up (marked false log) (leaf false m) v.inv refl o
          (λ k. rw (all_above n (length v.up) v.size k, length-par_nodes v.B) (omega (arith, cut-length v.cut, full, hM))))

      go : (t : Bool) → eqb (held_bits block_bits (length M)) block_bits ≡ t →
          ParState n (M ++ (b ∷ [])) (feed_bit P (suc n) (length M) b (ws ∷ v.up)).levels (log ++ (feed_bit P (suc n) (length M) b (ws ∷ v.up)).nodes)
      go false e =
          let less : length v.l < block_bits = omega (arith, held, v.cut.fits, eqb-false (held_bits block_bits (length M)) block_bits e) in
          rw (feed-par-no n (length M) b ws v.up e) record {
            B = v.B;
            l = v.l ++ (b ∷ []);
            up = v.up;
            cut = cut-more b v.cut less;
            is = rw held (ap (λ (w : List ℕ). w ∷ v.up) (block_of_bit v.l b less));
            size = v.size;
            inv = rw (append-nil log) v.inv;
          }
      go true e =
          let full : length v.l ≡ block_bits = omega (arith, held, eqb-true (held_bits block_bits (length M)) block_bits e) in
          rw (feed-par-yes n (length M) b ws v.up e, cut-last v.cut, block_of-full v.l full, out_words_is P m) record {
            B = v.B ++ (v.l ∷ []);
            l = b ∷ [];
            up = above.levels;
            cut = cut-full b v.cut full;
            is = rw (first_bit b) refl;
            size = receive-size n 2 (length v.B) (words 16 (output P.rounds m)) v.up ∙ v.size;
            inv = rw (Rows.row0_snoc P (Rows.par_node P 1) [] v.B v.l, quiet_leaves_snoc, marked_append) (came full);
          }

  state-step : (limit : ℕ) (M : List Bool) (st : List (List ℕ)) (log : List Node) (b : Bool) → suc (length M) < 2 ^ 64 → State limit M st log →
      State limit (M ++ (b ∷ [])) (feed_bit P limit (length M) b st).levels (log ++ (feed_bit P limit (length M) b st).nodes)
  state-step zero M st log b h v = seq-step M st log b v
  state-step (suc n) M st log b h v = par-step n M st log b h v

  pub feed_bits_none : (T : ℕ) (st : List (List ℕ)) → feed_bits P T [] st ≡ record { levels = st; nodes = [] }
  unfolding feed_bits
  feed_bits_none T st = refl

  pub feed_bits-more : (T : ℕ) (b : Bool) (bs : List Bool) (st : List (List ℕ)) → feed_bits P T (b ∷ bs) st ≡
      (let one : Made = feed_bit P P.limit T b st in
      let more : Made = feed_bits P (suc T) bs one.levels in record { levels = more.levels; nodes = one.nodes ++ more.nodes })
  unfolding feed_bits
  feed_bits-more T b bs st = refl

  -- bits fed one after the other
  pub state-fed : (M Y : List Bool) (st : List (List ℕ)) (log : List Node) → length M + length Y < 2 ^ 64 → State P.limit M st log →
      State P.limit (M ++ Y) (feed_bits P (length M) Y st).levels (log ++ (feed_bits P (length M) Y st).nodes)
  state-fed M [] st log h v = rw (feed_bits_none (length M) st, append-nil M, append-nil log) v
  state-fed M (b ∷ Y) st log h v =
      rw (feed_bits-more (length M) b Y st, ← append_snoc M b Y, ← append_assoc log, ← snoc-length M b)
      (state-fed (M ++ (b ∷ [])) Y (feed_bit P P.limit (length M) b st).levels (log ++ (feed_bit P P.limit (length M) b st).nodes)
      (rw (snoc-length M b) (omega arith)) (state-step P.limit M st log b (omega arith) v))

  -- ---- the end

  pub last_nodes-seq : (T : ℕ) (ws : List ℕ) (up : List (List ℕ)) →
      last_nodes P 0 T (ws ∷ up) ≡ node P 1 (done_blocks sequential_bits T) 1 (sequential_bits - held_bits sequential_bits T) ws ∷ []
  unfolding last_nodes
  last_nodes-seq T ws up = refl

  pub last_nodes-one : (n T : ℕ) (ws : List ℕ) (up : List (List ℕ)) → eqb (done_blocks block_bits T) 0 ≡ true →
      last_nodes P (suc n) T (ws ∷ up) ≡ node P 1 0 1 (block_bits - held_bits block_bits T) ws ∷ []
  unfolding last_nodes
  last_nodes-one n T ws up e = rw (e, last_nodes) refl

  pub last_nodes_many : (n T : ℕ) (ws : List ℕ) (up : List (List ℕ)) → eqb (done_blocks block_bits T) 0 ≡ false →
      last_nodes P (suc n) T (ws ∷ up) ≡
      (let m : Node = node P 1 (done_blocks block_bits T) 0 (block_bits - held_bits block_bits T) ws in
      m ∷ last_above P n 2 (done_blocks block_bits T) (out_words P m) up)
  unfolding last_nodes
  last_nodes_many n T ws up e = rw (e, last_nodes) refl

  -- the tree's nodes in order: those made so far do not reach the last bit, and those that the end makes do
  pub record Done (limit : ℕ) (M : List Bool) (log last : List Node) : Type 0 where
    pub listed : listing (subtrees limit (length M) (levels P limit 1 M)) ≡ marked false log ++ marked true last
    pub root : (d : Node) → root_of (levels P limit 1 M) ≡ last_or d last

  seq-done : (M : List Bool) (st : List (List ℕ)) (log : List Node) → SeqState M st log → Done 0 M log (last_nodes P 0 (length M) st)
  unfolding mathlib.Core.List.flatten
  seq-done M st log v =
      rw (v.is, last_nodes-seq (length M) ws v.up, cut-held v.cut, cut-last v.cut) record {
        listed = ap (λ (T : List (List Node)). listing (subtrees 0 (length M) T)) level
            ∙ ap listing (leaves_snoc 0 (last_index sequential_bits (length M)) (seq_nodes v.B) m
            (omega (arith, cut-last v.cut, Rows.length-row P (Rows.seq_node P 1) 0 no_chain v.B)))
            ∙ rw (listing-append, listing-quiet_leaves, v.logged) refl;
        root = λ d. ap root_of level ∙ last_or-snoc no_node (seq_nodes v.B) m;
      }
    where
      ws : List ℕ
      ws = block_of (Rows.chain P 1 v.B ++ v.l)

      m : Node
      m = Rows.last_seq P 1 (length v.B) (Rows.chain P 1 v.B) v.l

      level : levels P 0 1 M ≡ (seq_nodes v.B ++ (m ∷ [])) ∷ []
      level = ap (λ (ns : List Node). ns ∷ []) (Rows.sequential_is P 1 v.cut)

  par-one : (n : ℕ) (M : List Bool) (st : List (List ℕ)) (log : List Node) (v : ParState n M st log) → v.B ≡ [] →
      Done (suc n) M log (last_nodes P (suc n) (length M) st)
  unfolding mathlib.Core.List.flatten
  par-one n M st log v none =
      rw (
        v.is,
        last_nodes-one n (length M) (block_of v.l) v.up (eq-eqb (done_blocks block_bits (length M)) 0 (cut-last v.cut ∙ rw none refl)),
        cut-held v.cut,
      ) record {
        listed = ap (λ (T : List (List Node)). listing (subtrees (suc n) (length M) T)) level
            ∙ ap listing (leaves_snoc 0 (last_index block_bits (length M)) [] m (cut-last v.cut ∙ rw none refl)) ∙ rw quiet refl;
        root = λ d. ap root_of level;
      }
    where
      m : Node
      m = Rows.last_par P 1 0 1 v.l

      all : M ≡ v.l
      all = v.cut.whole ∙ rw none refl

      level : levels P (suc n) 1 M ≡ (m ∷ []) ∷ []
      level = levels-one P n 1 M (cut-blocks v.cut ∙ rw none refl) ∙ rw (all, Rows.parallel-one P 1 v.l v.cut.fits) refl

      quiet : marked false log ≡ []
      quiet = LastNodes.inv-empty P n 2 v.up (marked false log)
          (subst (λ (B : List (List Bool)). Receive.Inv P n 2 (quiet_leaves (par_nodes B)) v.up (marked false log)) none v.inv)

  par_many : (n : ℕ) (M : List Bool) (st : List (List ℕ)) (log : List Node) → length M < 2 ^ 64 → (v : ParState n M st log) → 0 < length v.B →
      Done (suc n) M log (last_nodes P (suc n) (length M) st)
  par_many n M st log hM v some =
      rw (
        v.is,
        last_nodes_many n (length M) (block_of v.l) v.up (ne_eqb (done_blocks block_bits (length M)) 0 (λ e. omega (arith, cut-last v.cut))),
        cut-held v.cut,
        cut-last v.cut,
        out_words_is P m,
      ) record {
        listed = ap (λ (T : List (List Node)). listing (subtrees (suc n) (length M) T)) level
            ∙ ap (λ (ss : List Subtree). listing (climb n ss above)) (leaves_snoc 0 (last_index block_bits (length M)) (par_nodes v.B) m
            (omega (arith, cut-last v.cut, Rows.length-row P (Rows.par_node P 1) 0 [] v.B)))
            ∙ ends.listed;
        root = λ d. ap root_of level ∙ root_of-cons _ above (levels_some P n 2 _) ∙ ends.root _;
      }
    where
      m : Node
      m = Rows.last_par P 1 (length v.B) 0 v.l

      X : List Subtree
      X = quiet_leaves (par_nodes v.B)

      above : List (List Node)
      above = levels P n 2 (Receive.outs P (X ++ (leaf true m ∷ [])))

      nodes : tops (X ++ (leaf true m ∷ [])) ≡ par_nodes v.B ++ (m ∷ [])
      nodes = map-append (λ (s : Subtree). s.top.node) X (leaf true m ∷ []) ∙ rw (tops-quiet_leaves (par_nodes v.B))

      level : levels P (suc n) 1 M ≡ (par_nodes v.B ++ (m ∷ [])) ∷ above
      level = levels-more P n 1 M (rw (cut-blocks v.cut) (omega arith)) ∙ rw (Rows.parallel-more P 1 v.cut, nodes) refl

      ends : LastNodes.Ends P n 2 X (marked false log) (leaf true m) (last_above P n 2 (length v.B) (words 16 (output P.rounds m)) v.up)
      ends = rw (length-par_nodes v.B) at
          (LastNodes.end-tree P n 2 X v.up (marked false log) (leaf true m) v.inv refl
          (length-output-node P P.rounds 1 (length v.B) 0 (block_bits - length v.l) (block_of v.l) (length-block_of v.l))
          (rw (length-par_nodes v.B) some)
          (λ k. rw (all_above n (length v.up) v.size k, length-par_nodes v.B) (omega (arith, cut-length v.cut, hM))))

  pub state-done : (limit : ℕ) (M : List Bool) (st : List (List ℕ)) (log : List Node) → length M < 2 ^ 64 → State limit M st log →
      Done limit M log (last_nodes P limit (length M) st)
  state-done zero M st log h v = seq-done M st log v
  state-done (suc n) M st log h v = length-cases v.B (par-one n M st log v) (par_many n M st log h v)
