-- Laws: the levels above level 1 while nodes come to them: what they hold, and what is logged, against the tree's groups.
use Rattle.std.specs.Prelude.{◌≡◌, Bool, true, ◌||◌, eqb, length}
use Rattle.std.proofs.Math.Path.{refl, sym, ap}
use Rattle.std.proofs.Common.{◌∙◌, arith}
use Rattle.std.proofs.Math.Bool.{false}
use mathlib.Core.List.{List, [], ◌∷◌, ◌++◌, map, append_assoc, append-nil, flatten}
use Prim.Native.Nat.{ℕ, zero, suc, ◌+◌, ◌*◌, ◌/◌, ◌%◌, ◌^◌, ◌≤◌, ◌<◌}
use Rattle.std.proofs.Math.Nat.{pow-succ'}
use borrow.Author.Tests.{eqb-true, eqb-false}
use Rattle.std.proofs.Math.ListN.{replicate, length-append}
use Rattle.std.proofs.lemmas.List.{length-map, length-replicate}
use Rattle.lists.specs.Append.{cons_eq}
use Rattle.lists.specs.Flatten.{flatten-append, map-append}
use Rattle.bits.specs.BitsLaws.{length-numbers}
use Rattle.tree.specs.Tree.{Params, Node, Mark, Subtree, output_bits, words, node, output, no_chain, joined_outputs, any_reaches, listing, parent, out_words}
use Rattle.tree.proofs.TreeLaws.{length-output-node, length-seq_block}
use Rattle.calls.specs.Area.{empty_level}
use Rattle.calls.specs.Calls.{Made, chained, join_parallel, join_sequential, receive}
use Rattle.calls.proofs.Block.{block_of, block_of-full, block_of_none, block_of-no_chain, block_of-output, block_of-chain-full, join_parallel_lem, join_sequential_lem}
use Rattle.calls.proofs.Rows.{AllLen, all_len-snoc, length-flatten, snoc-length, tops, over, over_snoc, length_over}
use Rattle.calls.proofs.Rows

-- ---- marks and listings

pub listing-append : (xs ys : List Subtree) → listing (xs ++ ys) ≡ listing xs ++ listing ys
listing-append xs ys =
    rw (map-append (λ (s : Subtree). s.nodes) xs ys) (flatten-append (map (λ (s : Subtree). s.nodes) xs) (map (λ (s : Subtree). s.nodes) ys))

pub listing_snoc : (r : List Subtree) (x : Subtree) → listing (r ++ (x ∷ [])) ≡ listing r ++ x.nodes
unfolding flatten
listing_snoc r x = listing-append r (x ∷ []) ∙ rw (append-nil x.nodes)

or_assoc : (a b c : Bool) → a || b || c ≡ a || (b || c)
or_assoc true b c = refl
or_assoc false b c = refl

any_reaches-append : (xs ys : List Subtree) → any_reaches (xs ++ ys) ≡ any_reaches xs || any_reaches ys
any_reaches-append [] ys = refl
any_reaches-append (x ∷ xs) ys =
    ap (λ (b : Bool). x.top.reaches || b) (any_reaches-append xs ys) ∙ sym (or_assoc x.top.reaches (any_reaches xs) (any_reaches ys))

-- where no child before reaches the last bit, the parent does if its last child does
pub reaches_snoc : (r : List Subtree) (x : Subtree) → any_reaches r ≡ false → any_reaches (r ++ (x ∷ [])) ≡ x.top.reaches
reaches_snoc r x q = any_reaches-append r (x ∷ []) ∙ rw q (go x.top.reaches)
  where
    go : (b : Bool) → b || false ≡ b
    go true = refl
    go false = refl

-- nodes with one mark
abbrev pub marked : Bool → List Node → List Mark
marked b [] = []
marked b (n ∷ ns) = record { node = n; reaches = b } ∷ marked b ns

pub marked_append : (b : Bool) (xs ys : List Node) → marked b (xs ++ ys) ≡ marked b xs ++ marked b ys
marked_append b [] ys = refl
marked_append b (x ∷ xs) ys = cons_eq refl (marked_append b xs ys)

pub out_words_is : (P : Params) (m : Node) → out_words P m ≡ words 16 (output P.rounds m)
unfolding out_words
out_words_is P m = refl

module _ (P : Params) where
  -- ---- outputs of 1,024 bits

  abbrev pub out_of : Subtree → List Bool
  out_of s = output P.rounds s.top.node

  abbrev pub outs : List Subtree → List Bool
  outs ss = joined_outputs P (tops ss)

  abbrev pub Sized : List Subtree → Type 0
  Sized [] = Unit {0}
  Sized (s ∷ ss) = (length (out_of s) ≡ output_bits) × Sized ss

  sized-append : (xs ys : List Subtree) → Sized xs → Sized ys → Sized (xs ++ ys)
  sized-append [] ys a b = b
  sized-append (x ∷ xs) ys a b = (a.0, sized-append xs ys a.1 b)

  pub sized-left : (xs ys : List Subtree) → Sized (xs ++ ys) → Sized xs
  sized-left [] ys a = tt
  sized-left (x ∷ xs) ys a = (a.0, sized-left xs ys a.1)

  pub sized_right : (xs ys : List Subtree) → Sized (xs ++ ys) → Sized ys
  sized_right [] ys a = a
  sized_right (x ∷ xs) ys a = sized_right xs ys a.1

  pub length-outs : (ss : List Subtree) → Sized ss → length (outs ss) ≡ length ss * output_bits
  unfolding flatten
  length-outs [] a = refl
  length-outs (s ∷ ss) a = length-append (out_of s) (outs ss) ∙ rw (a.0, length-outs ss a.1) (omega arith)

  pub outs-append : (xs ys : List Subtree) → outs (xs ++ ys) ≡ outs xs ++ outs ys
  unfolding flatten
  outs-append [] ys = refl
  outs-append (x ∷ xs) ys = rw (outs-append xs ys) (sym (append_assoc (out_of x) (outs xs) (outs ys)))

  pub outs_snoc : (r : List Subtree) (x : Subtree) → outs (r ++ (x ∷ [])) ≡ outs r ++ out_of x
  unfolding flatten
  outs_snoc r x = outs-append r (x ∷ []) ∙ rw (append-nil (out_of x))

  -- ---- what came to a level, in full groups and a rest that does not reach the last bit

  pub record Split (k : ℕ) (X : List Subtree) (G : List (List Subtree)) (r : List Subtree) : Type 0 where
    pub whole : X ≡ flatten G ++ r
    pub full : AllLen k G
    pub few : length r < k
    pub quiet : any_reaches r ≡ false
    pub sized : Sized X

  split_length : {k : ℕ} {X : List Subtree} {G : List (List Subtree)} {r : List Subtree} → Split k X G r → length X ≡ length G * k + length r
  split_length {k} {X} {G} {r} s = ap length s.whole ∙ length-append (flatten G) r ∙ rw (length-flatten k G s.full)

  pub split_rest : {k : ℕ} {X : List Subtree} {G : List (List Subtree)} {r : List Subtree} → Split k X G r → Sized r
  split_rest {k} {X} {G} {r} s = sized_right (flatten G) r (rw s.whole at s.sized)

  split_more : {k : ℕ} {X : List Subtree} {G : List (List Subtree)} {r : List Subtree} (x : Subtree) → Split k X G r →
      x.top.reaches ≡ false → length (out_of x) ≡ output_bits →
      suc (length r) < k → Split k (X ++ (x ∷ [])) G (r ++ (x ∷ []))
  split_more {k} {X} {G} {r} x s q o h = record {
    whole = ap (λ (l : List Subtree). l ++ (x ∷ [])) s.whole ∙ append_assoc (flatten G) r (x ∷ []);
    full = s.full;
    few = rw (snoc-length r x) h;
    quiet = reaches_snoc r x s.quiet ∙ q;
    sized = sized-append X (x ∷ []) s.sized (o, tt);
  }

  split_full : {k : ℕ} {X : List Subtree} {G : List (List Subtree)} {r : List Subtree} (x : Subtree) → Split k X G r →
      length (out_of x) ≡ output_bits →
      suc (length r) ≡ k → Split k (X ++ (x ∷ [])) (G ++ ((r ++ (x ∷ [])) ∷ [])) []
  unfolding flatten
  split_full {k} {X} {G} {r} x s o h = record {
    whole = ap (λ (l : List Subtree). l ++ (x ∷ [])) s.whole ∙ simp (flatten-append, append_assoc, append-nil);
    full = all_len-snoc k G (r ++ (x ∷ [])) s.full (snoc-length r x ∙ h);
    few = omega arith;
    quiet = refl;
    sized = sized-append X (x ∷ []) s.sized (o, tt);
  }

  split_none : (k : ℕ) → 0 < k → Split k [] [] []
  unfolding flatten
  split_none k h = record { whole = refl; full = tt; few = h; quiet = refl; sized = tt }

  -- the nodes over full groups
  abbrev pub par_row : ℕ → List (List Subtree) → List Node
  par_row level G = Rows.row P (Rows.par_node P level) 0 [] (map outs G)

  abbrev pub seq_row : ℕ → List (List Subtree) → List Node
  seq_row level G = Rows.row P (Rows.seq_node P level) 0 no_chain (map outs G)

  abbrev pub chain_over : ℕ → List (List Subtree) → List Bool
  chain_over level G = Rows.chain P level (map outs G)

  -- ---- what the levels hold after X came to the first of them; lg lists all that came

  pub record SeqInv (level : ℕ) (X : List Subtree) (ws : List ℕ) (up : List (List ℕ)) (lg : List Mark) : Type 0 where
    pub G : List (List Subtree)
    pub r : List Subtree
    pub sp : Split 3 X G r
    pub is : ws ≡ block_of (chain_over level G ++ outs r)
    pub empty : up ≡ replicate (length up) empty_level
    pub logged : lg ≡ listing (over G (seq_row level G)) ++ listing r

  pub record ParInv (level : ℕ) (X : List Subtree) (ws : List ℕ) (lg : List Mark) (Up : List Subtree → List Mark → Type 0) : Type 0 where
    pub G : List (List Subtree)
    pub r : List Subtree
    pub lg' : List Mark
    pub sp : Split 4 X G r
    pub is : ws ≡ block_of (outs r)
    pub logged : lg ≡ lg' ++ listing r
    pub up : Up (over G (par_row level G)) lg'

  pub record NoneInv (X : List Subtree) (lg : List Mark) : Type 0 where
    pub none : X ≡ []
    pub logged : lg ≡ []

  abbrev pub Inv : ℕ → ℕ → List Subtree → List (List ℕ) → List Mark → Type 0
  Inv n level X [] lg = NoneInv X lg
  Inv zero level X (ws ∷ up) lg = SeqInv level X ws up lg
  Inv (suc n) level X (ws ∷ up) lg = ParInv level X ws lg (λ Y lg'. Inv n (suc level) Y up lg')

  pub seq-at : {level : ℕ} {X : List Subtree} {ws : List ℕ} {up : List (List ℕ)} {lg : List Mark} (v : SeqInv level X ws up lg) →
      length X / 3 ≡ length v.G
  seq-at v = omega (arith, split_length v.sp, v.sp.few)

  pub seq-rest : {level : ℕ} {X : List Subtree} {ws : List ℕ} {up : List (List ℕ)} {lg : List Mark} (v : SeqInv level X ws up lg) →
      length X % 3 ≡ length v.r
  seq-rest v = omega (arith, split_length v.sp, v.sp.few)

  pub par-at : {level : ℕ} {X : List Subtree} {ws : List ℕ} {lg : List Mark} {Up : List Subtree → List Mark →
      Type 0} (v : ParInv level X ws lg Up) → length X / 4 ≡ length v.G
  par-at v = omega (arith, split_length v.sp, v.sp.few)

  pub par-rest : {level : ℕ} {X : List Subtree} {ws : List ℕ} {lg : List Mark} {Up : List Subtree → List Mark →
      Type 0} (v : ParInv level X ws lg Up) → length X % 4 ≡ length v.r
  par-rest v = omega (arith, split_length v.sp, v.sp.few)

  pub inv_open : (n level k : ℕ) → Inv n level [] (replicate k empty_level) []
  unfolding flatten
  inv_open n level zero = record { none = refl; logged = refl }
  inv_open zero level (suc k) = record {
    G = [];
    r = [];
    sp = split_none 3 (omega arith);
    is = rw (Rows.chain_none P level, append-nil no_chain) (sym block_of-no_chain);
    empty = ap (λ (j : ℕ). replicate j empty_level) (sym (length-replicate k empty_level));
    logged = refl;
  }
  inv_open (suc n) level (suc k) = record { G = []; r = []; lg' = []; sp = split_none 4 (omega arith); is = sym block_of_none; logged = refl; up = inv_open n (suc level) k }

  -- ---- the steps of a level

  pub seq-no : (level i : ℕ) (x ws : List ℕ) (up : List (List ℕ)) → eqb (i % 3) 2 ≡ false →
      receive P 0 level i x (ws ∷ up) ≡ record { levels = join_sequential i x ws ∷ up; nodes = [] }
  unfolding receive
  seq-no level i x ws up e = rw (e, receive) refl

  pub seq-yes : (level i : ℕ) (x ws : List ℕ) (up : List (List ℕ)) → eqb (i % 3) 2 ≡ true →
      receive P 0 level i x (ws ∷ up) ≡
      (let m : Node = node P level (i / 3) 0 0 (join_sequential i x ws) in record { levels = chained P m ∷ up; nodes = m ∷ [] })
  unfolding receive
  seq-yes level i x ws up e = rw (e, receive) refl

  pub par-no : (n level i : ℕ) (x ws : List ℕ) (up : List (List ℕ)) → eqb (i % 4) 3 ≡ false →
      receive P (suc n) level i x (ws ∷ up) ≡ record { levels = join_parallel i x ws ∷ up; nodes = [] }
  unfolding receive
  par-no n level i x ws up e = rw (e, receive) refl

  pub par-yes : (n level i : ℕ) (x ws : List ℕ) (up : List (List ℕ)) → eqb (i % 4) 3 ≡ true →
      receive P (suc n) level i x (ws ∷ up) ≡
      (let m : Node = node P level (i / 4) 0 0 (join_parallel i x ws) in
      let above : Made = receive P n (suc level) (i / 4) (out_words P m) up in record { levels = empty_level ∷ above.levels; nodes = m ∷ above.nodes })
  unfolding receive
  par-yes n level i x ws up e = rw (e, receive) refl

  pub receive_none : (n level i : ℕ) (x : List ℕ) → receive P n level i x [] ≡ record { levels = []; nodes = [] }
  unfolding receive
  receive_none n level i x = refl

  -- ---- one output more

  abbrev pub After : ℕ → ℕ → List Subtree → List Mark → Subtree → Made → Type 0
  After n level X lg x made = Inv n level (X ++ (x ∷ [])) made.levels (lg ++ (x.nodes ++ marked false made.nodes))

  -- the words of the output that comes
  abbrev pub words_of : Subtree → List ℕ
  words_of x = words 16 (out_of x)

  seq_more : (level : ℕ) (X : List Subtree) (ws : List ℕ) (up : List (List ℕ)) (lg : List Mark) (x : Subtree) (v : SeqInv level X ws up lg) →
      x.top.reaches ≡ false →
      length (out_of x) ≡ output_bits → eqb (length X % 3) 2 ≡ false → After 0 level X lg x (receive P 0 level (length X) (words_of x) (ws ∷ up))
  seq_more level X ws up lg x v q o e = rw (seq-no level (length X) (words_of x) ws up e) record {
    G = v.G;
    r = v.r ++ (x ∷ []);
    sp = split_more x v.sp q o (omega (arith, split_length v.sp, v.sp.few, eqb-false (length X % 3) 2 e));
    is = rw (v.is, outs_snoc v.r x)
        (join_sequential_lem (length X) (length v.r) (chain_over level v.G) (outs v.r) (out_of x) (seq-rest v) (Rows.length-chain P level (map outs v.G))
        (length-outs v.r (split_rest v.sp)) o);
    empty = v.empty;
    logged = rw (v.logged, listing_snoc v.r x) (simp (append_assoc, append-nil));
  }

  pub length-groups : (G : List (List Subtree)) → length (map outs G) ≡ length G
  length-groups G = length-map G outs

  pub length-seq_row : (level : ℕ) (G : List (List Subtree)) → length (seq_row level G) ≡ length G
  length-seq_row level G = Rows.length-row P (Rows.seq_node P level) 0 no_chain (map outs G) ∙ length-groups G

  pub length-par_row : (level : ℕ) (G : List (List Subtree)) → length (par_row level G) ≡ length G
  length-par_row level G = Rows.length-row P (Rows.par_node P level) 0 [] (map outs G) ∙ length-groups G

  seq_row_snoc : (level : ℕ) (G : List (List Subtree)) (g : List Subtree) →
      over (G ++ (g ∷ [])) (seq_row level (G ++ (g ∷ []))) ≡ over G (seq_row level G) ++ (parent (Rows.seq_node P level (length G) (chain_over level G) (outs g)) g ∷ [])
  seq_row_snoc level G g =
      rw (map-append outs G (g ∷ []), Rows.seq_snoc P level (map outs G) (outs g), length-groups G)
      (over_snoc G g (seq_row level G) (Rows.seq_node P level (length G) (chain_over level G) (outs g)) (length-seq_row level G))

  par_row_snoc : (level : ℕ) (G : List (List Subtree)) (g : List Subtree) →
      over (G ++ (g ∷ [])) (par_row level (G ++ (g ∷ []))) ≡ over G (par_row level G) ++ (parent (Rows.par_node P level (length G) [] (outs g)) g ∷ [])
  par_row_snoc level G g =
      rw (map-append outs G (g ∷ []), Rows.row0_snoc P (Rows.par_node P level) [] (map outs G) (outs g), length-groups G)
      (over_snoc G g (par_row level G) (Rows.par_node P level (length G) [] (outs g)) (length-par_row level G))

  chain_snoc : (level : ℕ) (G : List (List Subtree)) (g : List Subtree) →
      chain_over level (G ++ (g ∷ [])) ≡ output P.rounds (Rows.seq_node P level (length G) (chain_over level G) (outs g))
  chain_snoc level G g = rw (map-append outs G (g ∷ [])) (Rows.chain_snoc P level (map outs G) (outs g) ∙ rw (length-groups G))

  -- the node of a full group
  abbrev pub par_top : ℕ → List (List Subtree) → List Subtree → Subtree
  par_top level G g = parent (Rows.par_node P level (length G) [] (outs g)) g

  sized_snoc : {k : ℕ} {X : List Subtree} {G : List (List Subtree)} {r : List Subtree} (x : Subtree) → Split k X G r →
      length (out_of x) ≡ output_bits → Sized (r ++ (x ∷ []))
  sized_snoc {k} {X} {G} {r} x s o = sized-append r (x ∷ []) (split_rest s) (o, tt)

  pub length_last : {k : ℕ} {X : List Subtree} {G : List (List Subtree)} {r : List Subtree} (x : Subtree) → Split k X G r →
      length (out_of x) ≡ output_bits →
      length (outs (r ++ (x ∷ []))) ≡ suc (length r) * output_bits
  length_last {k} {X} {G} {r} x s o = length-outs (r ++ (x ∷ [])) (sized_snoc x s o) ∙ rw (snoc-length r x)

  seq_node_lem : (level : ℕ) (X : List Subtree) (ws : List ℕ) (up : List (List ℕ)) (lg : List Mark) (x : Subtree) (v : SeqInv level X ws up lg) →
      length (out_of x) ≡ output_bits → suc (length v.r) ≡ 3 →
      node P level (length X / 3) 0 0 (join_sequential (length X) (words_of x) ws) ≡ Rows.seq_node P level (length v.G) (chain_over level v.G) (outs (v.r ++ (x ∷ [])))
  seq_node_lem level X ws up lg x v o h =
      let c : List Bool = chain_over level v.G in
      let lc : length c ≡ output_bits = Rows.length-chain P level (map outs v.G) in
      let j = join_sequential_lem (length X) (length v.r) c (outs v.r) (out_of x) (seq-rest v) lc (length-outs v.r (split_rest v.sp)) o in
      let f = block_of-chain-full c (outs (v.r ++ (x ∷ []))) lc (length_last x v.sp o ∙ rw h) in
      rw (v.is, j, ← outs_snoc v.r x, f, seq-at v)

  seq-full : (level : ℕ) (X : List Subtree) (ws : List ℕ) (up : List (List ℕ)) (lg : List Mark) (x : Subtree) (v : SeqInv level X ws up lg) →
      x.top.reaches ≡ false →
      length (out_of x) ≡ output_bits → eqb (length X % 3) 2 ≡ true → After 0 level X lg x (receive P 0 level (length X) (words_of x) (ws ∷ up))
  unfolding flatten
  seq-full level X ws up lg x v q o e =
      let g : List Subtree = v.r ++ (x ∷ []) in
      let h : suc (length v.r) ≡ 3 = omega (arith, seq-rest v, eqb-true (length X % 3) 2 e) in
      let m : Node = Rows.seq_node P level (length v.G) (chain_over level v.G) (outs g) in
      rw (seq-yes level (length X) (words_of x) ws up e, seq_node_lem level X ws up lg x v o h) record {
        G = v.G ++ (g ∷ []);
        r = [];
        sp = split_full x v.sp o h;
        is = rw (out_words_is P m, append-nil, chain_snoc level v.G g) (block_of-output (output P.rounds m) (length-output-node P P.rounds level (length v.G) 0 0 (words 16 (chain_over level v.G) ++ words 48 (outs g)) (length-seq_block P (chain_over level v.G) (outs g))));
        empty = v.empty;
        logged = rw (v.logged, seq_row_snoc level v.G g, listing_snoc, listing_snoc v.r x, reaches_snoc v.r x v.sp.quiet, q) (simp (append_assoc, append-nil));
      }

  par-more : (n level : ℕ) (X : List Subtree) (ws : List ℕ) (up : List (List ℕ)) (lg : List Mark) (x : Subtree) (v : Inv (suc n) level X (ws ∷ up) lg) → x.top.reaches ≡ false →
      length (out_of x) ≡ output_bits → eqb (length X % 4) 3 ≡ false → After (suc n) level X lg x (receive P (suc n) level (length X) (words_of x) (ws ∷ up))
  par-more n level X ws up lg x v q o e = rw (par-no n level (length X) (words_of x) ws up e) record {
    G = v.G;
    r = v.r ++ (x ∷ []);
    lg' = v.lg';
    sp = split_more x v.sp q o (omega (arith, split_length v.sp, v.sp.few, eqb-false (length X % 4) 3 e));
    is = rw (v.is, outs_snoc v.r x) (join_parallel_lem (length X) (length v.r) (outs v.r) (out_of x) (par-rest v) (length-outs v.r (split_rest v.sp)) o);
    logged = rw (v.logged, listing_snoc v.r x) (simp (append_assoc, append-nil));
    up = v.up;
  }

  par-node : (n level : ℕ) (X : List Subtree) (ws : List ℕ) (up : List (List ℕ)) (lg : List Mark) (x : Subtree) (v : Inv (suc n) level X (ws ∷ up) lg) → length (out_of x) ≡ output_bits → suc (length v.r) ≡ 4 →
      node P level (length X / 4) 0 0 (join_parallel (length X) (words_of x) ws) ≡ Rows.par_node P level (length v.G) [] (outs (v.r ++ (x ∷ [])))
  par-node n level X ws up lg x v o h =
      let j = join_parallel_lem (length X) (length v.r) (outs v.r) (out_of x) (par-rest v) (length-outs v.r (split_rest v.sp)) o in
      let f = block_of-full (outs (v.r ++ (x ∷ []))) (length_last x v.sp o ∙ rw h) in
      rw (v.is, j, ← outs_snoc v.r x, f, par-at v)

  par-full : (n level : ℕ) (X : List Subtree) (ws : List ℕ) (up : List (List ℕ)) (lg : List Mark) (x : Subtree) (v : Inv (suc n) level X (ws ∷ up) lg) → x.top.reaches ≡ false →
      length (out_of x) ≡ output_bits → eqb (length X % 4) 3 ≡ true →
      (let y : Subtree = par_top level v.G (v.r ++ (x ∷ [])) in
      After n (suc level) (over v.G (par_row level v.G)) v.lg' y (receive P n (suc level) (length v.G) (words_of y) up)) →
      After (suc n) level X lg x (receive P (suc n) level (length X) (words_of x) (ws ∷ up))
  unfolding flatten
  par-full n level X ws up lg x v q o e u =
      let g : List Subtree = v.r ++ (x ∷ []) in
      let y : Subtree = par_top level v.G g in
      let h : suc (length v.r) ≡ 4 = omega (arith, par-rest v, eqb-true (length X % 4) 3 e) in
      let above : Made = receive P n (suc level) (length v.G) (words_of y) up in
      rw (par-yes n level (length X) (words_of x) ws up e, par-node n level X ws up lg x v o h, par-at v, out_words_is P y.top.node) record {
        G = v.G ++ (g ∷ []);
        r = [];
        lg' = v.lg' ++ (y.nodes ++ marked false above.nodes);
        sp = split_full x v.sp o h;
        is = sym block_of_none;
        logged = rw (v.logged, listing_snoc v.r x, reaches_snoc v.r x v.sp.quiet, q) (simp (append_assoc, append-nil));
        up = rw (par_row_snoc level v.G g) u;
      }

  -- a node that comes keeps the levels in order; k levels are enough if the sequential one is among them, or for fewer than 4 to the k
  -- nodes
  pub receive-inv : (n level : ℕ) (X : List Subtree) (st : List (List ℕ)) (lg : List Mark) (x : Subtree) → Inv n level X st lg →
      x.top.reaches ≡ false →
      length (out_of x) ≡ output_bits → (length st ≤ n → length X + 2 ≤ 4 ^ length st) →
      After n level X lg x (receive P n level (length X) (words_of x) st)
  receive-inv n level X [] lg x v q o b = absurd (omega (arith, b (omega arith)))
  receive-inv zero level X (ws ∷ up) lg x v q o b = go (eqb (length X % 3) 2) refl
    where
      go : (t : Bool) → eqb (length X % 3) 2 ≡ t → After 0 level X lg x (receive P 0 level (length X) (words_of x) (ws ∷ up))
      go false e = seq_more level X ws up lg x v q o e
      go true e = seq-full level X ws up lg x v q o e
  receive-inv (suc n) level X (ws ∷ up) lg x v q o b =
      go (eqb (length X % 4) 3) refl
      (receive-inv n (suc level) Y up v.lg' y v.up (reaches_snoc v.r x v.sp.quiet ∙ q) (length-output-node P P.rounds level (length v.G) 0 0 (words 64 (outs (v.r ++ (x ∷ [])))) (length-numbers 64 64 (outs (v.r ++ (x ∷ []))))))
    where
      Y : List Subtree
      Y = over v.G (par_row level v.G)

      y : Subtree
      y = par_top level v.G (v.r ++ (x ∷ []))

      size : length Y ≡ length v.G
      size = length_over v.G (par_row level v.G) (length-par_row level v.G)

      go : (t : Bool) → eqb (length X % 4) 3 ≡ t →
          ((length up ≤ n → length Y + 2 ≤ 4 ^ length up) → After n (suc level) Y v.lg' y (receive P n (suc level) (length Y) (words_of y) up)) →
          After (suc n) level X lg x (receive P (suc n) level (length X) (words_of x) (ws ∷ up))
      go false e u = par-more n level X ws up lg x v q o e
      go true e u = par-full n level X ws up lg x v q o e (rw size at (u (λ h. omega (arith, size, par-at v, eqb-true (length X % 4) 3 e, pow-succ' 4 (length up), b (omega arith)))))
