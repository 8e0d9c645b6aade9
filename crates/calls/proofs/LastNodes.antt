-- Laws: the end of a stream above level 1: the nodes that it makes are those of the tree's levels that reach the last bit.
use Rattle.std.specs.Prelude.{◌≡◌, Bool, true, false, eqb}
use Rattle.std.proofs.Math.Path.{refl, sym, ap}
use Rattle.std.proofs.Common.{◌∙◌, subst, arith, eq-eqb, ne_eqb}
use mathlib.Core.List.{List, [], ◌∷◌, ◌++◌, map, append_assoc, append-nil, flatten}
use Prim.Native.Nat.{ℕ, zero, suc, ◌-◌, ◌*◌, ◌/◌, ◌%◌, ◌^◌, ◌≤◌, ◌<◌}
use Rattle.std.proofs.Math.Nat.{pow-succ'}
use Rattle.std.proofs.Math.ListN.{length}
use Rattle.std.proofs.lemmas.List.{length-map}
use Rattle.lists.specs.Flatten.{map-append}
use Rattle.tree.specs.Tree.{Params, Node, Mark, Subtree, output_bits, node, levels, last_or, no_node, root_of, listing, parent, parents, climb, sequential_bits, block_bits, out_words}
use Rattle.tree.proofs.TreeLaws.{length-output-node, levels-one, levels-more, levels_some, root_of-cons}
use Rattle.calls.specs.Calls.{join_parallel, join_sequential, last_above}
use Rattle.calls.proofs.Block.{block_of, length-block_of, join_parallel_lem, join_sequential_lem}
use Rattle.calls.proofs.Rows.{AllLen, snoc-length, last_or-snoc, Cut, cut-blocks, tops, over, length_over, tops-over, parents-over}
use Rattle.calls.proofs.Rows
use Rattle.calls.proofs.Receive.{listing_snoc, reaches_snoc, marked, out_words_is}
use Rattle.calls.proofs.Receive

pub length-cases {ℓ} : {A : Type ℓ} (xs : List A) {B : Type 0} → (xs ≡ [] → B) → (0 < length xs → B) → B
length-cases [] f g = f refl
length-cases (x ∷ xs) f g = g (omega arith)

module _ (P : Params) where
  -- ---- the steps of the end

  pub above-seq : (level i : ℕ) (x ws : List ℕ) (up : List (List ℕ)) →
      last_above P 0 level i x (ws ∷ up) ≡ node P level (i / 3) 1 (output_bits * (2 - i % 3)) (join_sequential i x ws) ∷ []
  unfolding last_above
  above-seq level i x ws up = refl

  pub above_none : (n level i : ℕ) (x : List ℕ) → last_above P n level i x [] ≡ []
  unfolding last_above
  above_none n level i x = refl

  pub above-one : (n level i : ℕ) (x ws : List ℕ) (up : List (List ℕ)) → eqb (i / 4) 0 ≡ true →
      last_above P (suc n) level i x (ws ∷ up) ≡ node P level 0 1 (output_bits * (3 - i % 4)) (join_parallel i x ws) ∷ []
  unfolding last_above
  above-one n level i x ws up e = rw (e, last_above) refl

  pub above_many : (n level i : ℕ) (x ws : List ℕ) (up : List (List ℕ)) → eqb (i / 4) 0 ≡ false →
      last_above P (suc n) level i x (ws ∷ up) ≡
      (let m : Node = node P level (i / 4) 0 (output_bits * (3 - i % 4)) (join_parallel i x ws) in m ∷ last_above P n (suc level) (i / 4) (out_words P m) up)
  unfolding last_above
  above_many n level i x ws up e = rw (e, last_above) refl

  -- ---- the bits of a level, cut into those of its groups

  outs-groups : (G : List (List Subtree)) (t : List Subtree) → Receive.outs P (flatten G ++ t) ≡ flatten (map (Receive.outs P) G) ++ Receive.outs P t
  unfolding flatten
  outs-groups [] t = refl
  outs-groups (g ∷ G) t =
      rw (append_assoc g (flatten G) t, Receive.outs-append P g (flatten G ++ t), outs-groups G t)
      (sym (append_assoc (Receive.outs P g) (flatten (map (Receive.outs P) G)) (Receive.outs P t)))

  groups-len : (k : ℕ) (G : List (List Subtree)) → Receive.Sized P (flatten G) → AllLen k G → AllLen (k * output_bits) (map (Receive.outs P) G)
  unfolding flatten
  groups-len k [] s a = tt
  groups-len k (g ∷ G) s a =
      (Receive.length-outs P g (Receive.sized-left P g (flatten G) s) ∙ rw a.0 refl, groups-len k G (Receive.sized_right P g (flatten G) s) a.1)

  groups : {k : ℕ} {X : List Subtree} {G : List (List Subtree)} {r : List Subtree} (x : Subtree) → Receive.Split P k X G r →
      X ++ (x ∷ []) ≡ flatten G ++ (r ++ (x ∷ []))
  groups {k} {X} {G} {r} x s = ap (λ (l : List Subtree). l ++ (x ∷ [])) s.whole ∙ append_assoc (flatten G) r (x ∷ [])

  level-cut : (k : ℕ) {X : List Subtree} {G : List (List Subtree)} {r : List Subtree} (x : Subtree) → Receive.Split P k X G r →
      length (Receive.out_of P x) ≡ output_bits →
      Cut (k * output_bits) (Receive.outs P (X ++ (x ∷ []))) (map (Receive.outs P) G) (Receive.outs P (r ++ (x ∷ [])))
  level-cut k {X} {G} {r} x s o =
      let l = Receive.length_last P x s o in
      record {
        size = omega (arith, s.few);
        whole = ap (Receive.outs P) (groups x s) ∙ outs-groups G (r ++ (x ∷ []));
        full = groups-len k G (Receive.sized-left P (flatten G) r (rw s.whole at s.sized)) s.full;
        fits = omega (arith, l, s.few);
        some = λ e. absurd (omega (arith, l));
      }

  -- ---- the top level's subtrees list the log so far, the last node's subtree and the nodes of the end; the root is the last

  pub record Ends (n level : ℕ) (X : List Subtree) (lg : List Mark) (x : Subtree) (log : List Node) : Type 0 where
    pub listed : listing (climb n (X ++ (x ∷ [])) (levels P n level (Receive.outs P (X ++ (x ∷ []))))) ≡ lg ++ (x.nodes ++ marked true log)
    pub root : (d : Node) → root_of (levels P n level (Receive.outs P (X ++ (x ∷ [])))) ≡ last_or d log

  abbrev pub EndTree : ℕ → ℕ → List Subtree → List (List ℕ) → List Mark → Subtree → Type 0
  EndTree n level X st lg x = Ends n level X lg x (last_above P n level (length X) (Receive.words_of P x) st)

  length-groups : (G : List (List Subtree)) → length (map (Receive.outs P) G) ≡ length G
  length-groups G = length-map G (Receive.outs P)

  -- ---- a sequential level

  abbrev seq_last : ℕ → List (List Subtree) → List Subtree → Node
  seq_last level G g = Rows.last_seq P level (length G) (Receive.chain_over P level G) (Receive.outs P g)

  seq-last : {level : ℕ} {X : List Subtree} {ws : List ℕ} {up : List (List ℕ)} {lg : List Mark} (x : Subtree) (v : Receive.SeqInv P level X ws up lg) → length (Receive.out_of P x) ≡ output_bits →
      node P level (length X / 3) 1 (output_bits * (2 - length X % 3)) (join_sequential (length X) (Receive.words_of P x) ws) ≡ seq_last level v.G (v.r ++ (x ∷ []))
  seq-last {level} {X} {ws} {up} {lg} x v o =
      let c : List Bool = Receive.chain_over P level v.G in
      let p : output_bits * (2 - length X % 3) ≡ sequential_bits - length (Receive.outs P (v.r ++ (x ∷ []))) =
      omega (arith, Receive.length_last P x v.sp o, Receive.seq-rest P v, v.sp.few) in
      rw (
        v.is,
        join_sequential_lem (length X) (length v.r) c (Receive.outs P v.r) (Receive.out_of P x) (Receive.seq-rest P v) (Rows.length-chain P level (map (Receive.outs P) v.G))
            (Receive.length-outs P v.r (Receive.split_rest P v.sp)) o,
        ← Receive.outs_snoc P v.r x,
        p,
        Receive.seq-at P v,
      ) refl

  seq-level : (level : ℕ) {X : List Subtree} {G : List (List Subtree)} {r : List Subtree} (x : Subtree) → Receive.Split P 3 X G r →
      length (Receive.out_of P x) ≡ output_bits →
      levels P 0 level (Receive.outs P (X ++ (x ∷ []))) ≡ (Receive.seq_row P level G ++ (seq_last level G (r ++ (x ∷ [])) ∷ [])) ∷ []
  seq-level level {X} {G} {r} x s o = rw (Rows.sequential_is P level (level-cut 3 x s o), length-groups G) refl

  end-seq : (level : ℕ) (X : List Subtree) (ws : List ℕ) (up : List (List ℕ)) (lg : List Mark) (x : Subtree) → Receive.SeqInv P level X ws up lg →
      x.top.reaches ≡ true →
      length (Receive.out_of P x) ≡ output_bits → EndTree 0 level X (ws ∷ up) lg x
  end-seq level X ws up lg x v q o =
      rw (above-seq level (length X) (Receive.words_of P x) ws up, seq-last x v o) record {
        listed =
            ap (λ (T : List (List Node)). listing (climb 0 (X ++ (x ∷ [])) T)) (seq-level level x v.sp o) ∙ ap listing climbed
            ∙ rw (listing_snoc, listing_snoc v.r x, reaches_snoc v.r x v.sp.quiet, q, v.logged) (simp append_assoc);
        root = λ d. ap root_of (seq-level level x v.sp o) ∙ last_or-snoc no_node (Receive.seq_row P level v.G) (seq_last level v.G g);
      }
    where
      g : List Subtree
      g = v.r ++ (x ∷ [])

      climbed : parents 3 (X ++ (x ∷ [])) (Receive.seq_row P level v.G ++ (seq_last level v.G g ∷ []))
          ≡ over v.G (Receive.seq_row P level v.G) ++ (parent (seq_last level v.G g) g ∷ [])
      climbed = rw (groups x v.sp) (parents-over 3 v.G g (Receive.seq_row P level v.G) (seq_last level v.G g) v.sp.full
          (Receive.length-seq_row P level v.G) (rw (snoc-length v.r x) v.sp.few))

  -- ---- a parallel level

  abbrev par_last : ℕ → List (List Subtree) → ℕ → List Subtree → Node
  par_last level G z g = Rows.last_par P level (length G) z (Receive.outs P g)

  par-last : (n level : ℕ) (X : List Subtree) (ws : List ℕ) (up : List (List ℕ)) (lg : List Mark) (x : Subtree) (v : Receive.Inv P (suc n) level X (ws ∷ up) lg) (i z : ℕ) →
      length (Receive.out_of P x) ≡ output_bits → i ≡ length v.G →
      node P level i z (output_bits * (3 - length X % 4)) (join_parallel (length X) (Receive.words_of P x) ws) ≡ par_last level v.G z (v.r ++ (x ∷ []))
  par-last n level X ws up lg x v i z o e =
      let p : output_bits * (3 - length X % 4) ≡ block_bits - length (Receive.outs P (v.r ++ (x ∷ []))) =
      omega (arith, Receive.length_last P x v.sp o, Receive.par-rest P v, v.sp.few) in
      rw (
        v.is,
        join_parallel_lem (length X) (length v.r) (Receive.outs P v.r) (Receive.out_of P x) (Receive.par-rest P v) (Receive.length-outs P v.r (Receive.split_rest P v.sp)) o,
        ← Receive.outs_snoc P v.r x,
        p,
        e,
      ) refl

  -- before the first node no level has logged anything
  none_groups : {k : ℕ} (G : List (List Subtree)) (r : List Subtree) → Receive.Split P (suc k) [] G r → G ≡ []
  unfolding flatten
  none_groups [] r s = refl
  none_groups ([] ∷ G) r s = absurd (omega (arith, s.full.0))
  none_groups ((g ∷ gs) ∷ G) r s = absurd (omega (arith, ap length s.whole))

  none_rest : {k : ℕ} (G : List (List Subtree)) (r : List Subtree) → Receive.Split P (suc k) [] G r → r ≡ []
  unfolding flatten
  none_rest G r s = sym (s.whole ∙ rw (none_groups G r s) refl)

  pub inv-empty : (n level : ℕ) (st : List (List ℕ)) (lg : List Mark) → Receive.Inv P n level [] st lg → lg ≡ []
  unfolding flatten
  inv-empty n level [] lg v = v.logged
  inv-empty zero level (ws ∷ up) lg v = v.logged ∙ rw (none_groups v.G v.r v.sp, none_rest v.G v.r v.sp) refl
  inv-empty (suc n) level (ws ∷ up) lg v =
      v.logged
      ∙ rw (
        none_rest v.G v.r v.sp,
        inv-empty n (suc level) up v.lg'
            (subst (λ (G : List (List Subtree)). Receive.Inv P n (suc level) (over G (Receive.par_row P level G)) up v.lg') (none_groups v.G v.r v.sp) v.up),
      ) refl

  one-level : (n level : ℕ) {X : List Subtree} {r : List Subtree} (x : Subtree) → Receive.Split P 4 X [] r → length (Receive.out_of P x) ≡ output_bits →
      levels P (suc n) level (Receive.outs P (X ++ (x ∷ []))) ≡ (par_last level [] 1 (r ++ (x ∷ [])) ∷ []) ∷ []
  unfolding flatten Rattle.tree.specs.Tree.key_words block_of
  one-level n level {X} {r} x s o =
      let c = level-cut 4 x s o in
      levels-one P n level (Receive.outs P (X ++ (x ∷ []))) (cut-blocks c) ∙ rw (c.whole, Rows.parallel-one P level (Receive.outs P (r ++ (x ∷ []))) c.fits) refl

  end-one : (n level : ℕ) (X : List Subtree) (ws : List ℕ) (up : List (List ℕ)) (lg : List Mark) (x : Subtree) (v : Receive.Inv P (suc n) level X (ws ∷ up) lg) → x.top.reaches ≡ true →
      length (Receive.out_of P x) ≡ output_bits → v.G ≡ [] → EndTree (suc n) level X (ws ∷ up) lg x
  unfolding flatten
  end-one n level X ws up lg x v q o none =
      rw (
        above-one n level (length X) (Receive.words_of P x) ws up (eq-eqb (length X / 4) 0 (Receive.par-at P v ∙ rw none refl)),
        par-last n level X ws up lg x v 0 1 o (rw none refl),
        none,
      ) record {
        listed = rw (one-level n level x s o) (ap listing climbed ∙ rw (listing_snoc v.r x, reaches_snoc v.r x v.sp.quiet, q, v.logged, quiet) (simp (append_assoc, append-nil)));
        root = λ d. rw (one-level n level x s o) refl;
      }
    where
      g : List Subtree
      g = v.r ++ (x ∷ [])

      s : Receive.Split P 4 X [] v.r
      s = subst (λ (G : List (List Subtree)). Receive.Split P 4 X G v.r) none v.sp

      climbed : parents 4 (X ++ (x ∷ [])) (par_last level [] 1 g ∷ []) ≡ parent (par_last level [] 1 g) g ∷ []
      climbed = rw (groups x s) (parents-over 4 [] g [] (par_last level [] 1 g) tt refl (rw (snoc-length v.r x) v.sp.few))

      quiet : v.lg' ≡ []
      quiet = inv-empty n (suc level) up v.lg' (subst (λ (G : List (List Subtree)). Receive.Inv P n (suc level) (over G (Receive.par_row P level G)) up v.lg') none v.up)

  -- the last subtree of a level that is not alone
  abbrev last_top : ℕ → List (List Subtree) → List Subtree → Subtree
  last_top level G g = parent (par_last level G 0 g) g

  many_level : (n level : ℕ) {X : List Subtree} {G : List (List Subtree)} {r : List Subtree} (x : Subtree) → Receive.Split P 4 X G r →
      length (Receive.out_of P x) ≡ output_bits → 0 < length G →
      levels P (suc n) level (Receive.outs P (X ++ (x ∷ [])))
      ≡ (Receive.par_row P level G ++ (par_last level G 0 (r ++ (x ∷ [])) ∷ []))
      ∷ levels P n (suc level) (Receive.outs P (over G (Receive.par_row P level G) ++ (last_top level G (r ++ (x ∷ [])) ∷ [])))
  many_level n level {X} {G} {r} x s o h =
      let g : List Subtree = r ++ (x ∷ []) in
      let c = level-cut 4 x s o in
      let b : 1 < Rattle.tree.specs.Tree.blocks block_bits (length (Receive.outs P (X ++ (x ∷ [])))) = rw (cut-blocks c, length-groups G) (omega arith) in
      let t : tops (over G (Receive.par_row P level G) ++ (last_top level G g ∷ [])) ≡ Receive.par_row P level G ++ (par_last level G 0 g ∷ []) =
      map-append (λ (s : Subtree). s.top.node) (over G (Receive.par_row P level G)) (last_top level G g ∷ [])
      ∙ rw (tops-over G (Receive.par_row P level G) (Receive.length-par_row P level G)) in
      levels-more P n level (Receive.outs P (X ++ (x ∷ []))) b ∙ rw (Rows.parallel-more P level c, length-groups G, t) refl

  end_many : (n level : ℕ) (X : List Subtree) (ws : List ℕ) (up : List (List ℕ)) (lg : List Mark) (x : Subtree) (v : Receive.Inv P (suc n) level X (ws ∷ up) lg) → x.top.reaches ≡ true →
      length (Receive.out_of P x) ≡ output_bits → 0 < length v.G →
      (let y : Subtree = last_top level v.G (v.r ++ (x ∷ [])) in
      Ends n (suc level) (over v.G (Receive.par_row P level v.G)) v.lg' y (last_above P n (suc level) (length v.G) (Receive.words_of P y) up)) →
      EndTree (suc n) level X (ws ∷ up) lg x
  end_many n level X ws up lg x v q o some u =
      rw (
        above_many n level (length X) (Receive.words_of P x) ws up (ne_eqb (length X / 4) 0 (λ e. omega (arith, Receive.par-at P v))),
        par-last n level X ws up lg x v (length X / 4) 0 o (Receive.par-at P v),
        Receive.par-at P v,
        out_words_is P (par_last level v.G 0 g),
      ) record {
        listed =
            ap (λ (T : List (List Node)). listing (climb (suc n) (X ++ (x ∷ [])) T)) (many_level n level x v.sp o some)
            ∙ ap (λ (ss : List Subtree). listing (climb n ss above)) climbed
            ∙ u.listed ∙ rw (listing_snoc v.r x, reaches_snoc v.r x v.sp.quiet, q, v.logged) (simp append_assoc);
        root = λ d. ap root_of (many_level n level x v.sp o some) ∙ root_of-cons _ above (levels_some P n (suc level) _) ∙ u.root _;
      }
    where
      g : List Subtree
      g = v.r ++ (x ∷ [])

      above : List (List Node)
      above = levels P n (suc level) (Receive.outs P (over v.G (Receive.par_row P level v.G) ++ (last_top level v.G g ∷ [])))

      climbed : parents 4 (X ++ (x ∷ [])) (Receive.par_row P level v.G ++ (par_last level v.G 0 g ∷ []))
          ≡ over v.G (Receive.par_row P level v.G) ++ (last_top level v.G g ∷ [])
      climbed = rw (groups x v.sp) (parents-over 4 v.G g (Receive.par_row P level v.G) (par_last level v.G 0 g) v.sp.full
          (Receive.length-par_row P level v.G) (rw (snoc-length v.r x) v.sp.few))

  -- k levels are enough if the sequential one is among them, or for fewer than 4 to the k nodes and a last one
  pub end-tree : (n level : ℕ) (X : List Subtree) (st : List (List ℕ)) (lg : List Mark) (x : Subtree) → Receive.Inv P n level X st lg →
      x.top.reaches ≡ true →
      length (Receive.out_of P x) ≡ output_bits → 0 < length X → (length st ≤ n → length X < 4 ^ length st) → EndTree n level X st lg x
  end-tree n level X [] lg x v q o h b = absurd (omega (arith, b (omega arith)))
  end-tree zero level X (ws ∷ up) lg x v q o h b = end-seq level X ws up lg x v q o
  end-tree (suc n) level X (ws ∷ up) lg x v q o h b =
      length-cases v.G (end-one n level X ws up lg x v q o) (λ some. end_many n level X ws up lg x v q o some
      (rw size at (end-tree n (suc level) Y up v.lg' (last_top level v.G (v.r ++ (x ∷ []))) v.up (reaches_snoc v.r x v.sp.quiet ∙ q)
      (length-output-node P P.rounds level (length v.G) 0 (block_bits - length (Receive.outs P (v.r ++ (x ∷ [])))) (block_of (Receive.outs P (v.r ++ (x ∷ []))))
      (length-block_of (Receive.outs P (v.r ++ (x ∷ [])))))
      (rw size some) (λ k. omega (arith, size, Receive.par-at P v, pow-succ' 4 (length up), b (omega arith))))))
    where
      Y : List Subtree
      Y = over v.G (Receive.par_row P level v.G)

      size : length Y ≡ length v.G
      size = length_over v.G (Receive.par_row P level v.G) (Receive.length-par_row P level v.G)
