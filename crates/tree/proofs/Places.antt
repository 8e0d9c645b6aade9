-- Laws: what stands at a place of a tree: the node at a level and an index has their U and the tree's K, and the root's place holds
-- the root.
use Rattle.std.specs.Prelude.{◌≡◌, refl, Bool, true, false, List, [], ◌∷◌, ◌++◌, ℕ, zero, suc, ◌+◌, ◌-◌, ◌*◌, ◌^◌, ◌≤◌, ◌<◌, eqb, length, drop, get_or}
use Rattle.std.proofs.Common.{sym, ap, ◌∙◌, subst, arith}
use Rattle.std.proofs.Math.Option.{Option, some}
use Rattle.std.proofs.Math.ListN.{get_elem?}
use Rattle.lists.specs.Below.{Below}
use Rattle.lists.specs.BelowLaws.{below-append}
use Rattle.bits.specs.Bits.{digit}
use Rattle.bits.specs.BitsLaws.{digit_le, length-numbers, numbers-below}
use Rattle.tree.specs.Tree.{Params, Valid, Node, words, key_words, node_u, node, output, blocks, padding, padded, par, seq, no_chain, parallel, sequential, joined_outputs, levels, tree, last_or, no_node, root_of, root}
use Rattle.tree.specs.Place.{level_at, node_at, RootAt}
use Rattle.tree.proofs.TreeLaws.{Words, key_words-below, node_u_inj, node_u-below, node_v-below, length-output-node, length-seq_block, last_only, last_only_le, length-par, length-seq, length-parallel, length-sequential, length-joined-parallel, par-at, seq-at, chain_at, above, levels_some}
use Rattle.tree.specs.Vocabulary.{root_level, root_index}

-- ---- a list's element at an index

pub no-node : (a : Node) → ◌≡◌ {A = Option Node} Option.none (some a) → ⊥
no-node a e = let z : ◌≡◌ {A = ℕ} 0 1 = cc in omega arith

pub index_below : (ns : List Node) (j : ℕ) (a : Node) → get_elem? ns j ≡ some a → j < length ns
index_below [] j a e = absurd (no-node a e)
index_below (n ∷ ns) zero a e = omega arith
index_below (n ∷ ns) (suc j) a e = omega (arith, index_below ns j a e)

pub level-below : (T : List (List Node)) (l index : ℕ) (a : Node) → node_at T (suc l) index ≡ some a → l < length T
level-below [] l index a e = absurd (no-node a e)
level-below (ns ∷ T) zero index a e = omega arith
level-below (ns ∷ T) (suc l) index a e = omega (arith, level-below T l index a e)

-- ---- the node at a place

-- what the definitions say of the node at a level and an index
pub record AtPlace (P : Params) (level index : ℕ) (a : Node) : Type 0 where
  pub z : ℕ
  pub p : ℕ
  pub block : List ℕ
  pub is : a ≡ node P level index z p block
  pub flag : z ≤ 1
  pub pads : p ≤ 4096
  pub full : length block ≡ 64
  pub block_words : Below (2 ^ 64) block

same_some : (a b : Node) → some a ≡ some b → b ≡ a
same_some a b e = cc

module _ (P : Params) where
  par-stands : (level z p i n : ℕ) (X : List Bool) (j : ℕ) (a : Node) → z ≤ 1 → p ≤ 4096 → get_elem? (par P level z p i n X) j ≡ some a
      → AtPlace P level (i + j) a
  par-stands level z p i n X j a hz hp e =
      let h : j < n = omega (arith, index_below (par P level z p i n X) j a e, length-par P level z p i n X) in
      record {
        z = z;
        p = last_only n j p;
        block = words 64 (drop (4096 * j) X);
        is = same_some _ a (sym (par-at P level z p i n X j h) ∙ e);
        flag = hz;
        pads = omega (arith, last_only_le n j p);
        full = length-numbers 64 64 (drop (4096 * j) X);
        block_words = numbers-below 64 64 (drop (4096 * j) X);
      }

  seq-stands : (level p i : ℕ) (c : List Bool) (n : ℕ) (X : List Bool) (j : ℕ) (a : Node) → p ≤ 4096 → get_elem? (seq P level p i c n X) j ≡ some a
      → AtPlace P level (i + j) a
  seq-stands level p i c n X j a hp e =
      let h : j < n = omega (arith, index_below (seq P level p i c n X) j a e, length-seq P level p i c n X) in
      record {
        z = last_only n j 1;
        p = last_only n j p;
        block = words 16 (chain_at P level i c X j) ++ words 48 (drop (3072 * j) X);
        is = same_some _ a (sym (seq-at P level p i c n X j h) ∙ e);
        flag = omega (arith, last_only_le n j 1);
        pads = omega (arith, last_only_le n j p);
        full = length-seq_block P (chain_at P level i c X j) (drop (3072 * j) X);
        block_words = below-append (numbers-below 64 16 (chain_at P level i c X j)) (numbers-below 64 48 (drop (3072 * j) X));
      }

  parallel-stands : (level : ℕ) (alone : Bool) (M : List Bool) (j : ℕ) (a : Node) → get_elem? (parallel P level alone M) j ≡ some a → AtPlace P level j a
  parallel-stands level alone M j a e =
      let s : 0 + j ≡ j = omega arith in
      rw s at (par-stands level (digit alone) (padding 4096 (length M)) 0 (blocks 4096 (length M)) (padded 4096 M) j a (digit_le alone) (omega arith) e)

  sequential-stands : (level : ℕ) (M : List Bool) (j : ℕ) (a : Node) → get_elem? (sequential P level M) j ≡ some a → AtPlace P level j a
  sequential-stands level M j a e =
      let s : 0 + j ≡ j = omega arith in
      rw s at (seq-stands level (padding 3072 (length M)) 0 no_chain (blocks 3072 (length M)) (padded 3072 M) j a (omega arith) e)

  -- in the levels from one up, l levels above it
  levels-stands : (n level : ℕ) (M : List Bool) (l i : ℕ) (a : Node) → node_at (levels P n level M) (suc l) i ≡ some a → AtPlace P (level + l) i a
  levels-stands zero level M zero i a e =
      let s : level + 0 ≡ level = omega arith in
      rw s (sequential-stands level M i a e)
  levels-stands zero level M (suc l) i a e = absurd (no-node a e)
  levels-stands (suc n) level M l i a e = go (eqb (blocks 4096 (length M)) 1) l (λ Y k. levels-stands n (suc level) Y k i a) e
    where
      go : (b : Bool) (l : ℕ) → ((Y : List Bool) (k : ℕ) → node_at (levels P n (suc level) Y) (suc k) i ≡ some a → AtPlace P (suc level + k) i a)
          → node_at (above P n level b M) (suc l) i ≡ some a → AtPlace P (level + l) i a
      go true zero f e =
          let s : level + 0 ≡ level = omega arith in
          rw s (parallel-stands level true M i a e)
      go true (suc l) f e = absurd (no-node a e)
      go false zero f e =
          let s : level + 0 ≡ level = omega arith in
          rw s (parallel-stands level false M i a e)
      go false (suc l) f e =
          let s : suc level + l ≡ level + suc l = omega arith in
          rw s at (f (joined_outputs P (parallel P level false M)) l e)

  pub tree-stands : (M : List Bool) (level index : ℕ) (a : Node) → node_at (tree P M) level index ≡ some a → AtPlace P level index a
  tree-stands M zero index a e = absurd (no-node a e)
  tree-stands M (suc l) index a e =
      let s : 1 + l ≡ suc l = omega arith in
      rw s at (levels-stands P.limit 1 M l index a e)

  -- the node at a level and an index has their U
  pub tree-u : (M : List Bool) (level index : ℕ) (a : Node) → node_at (tree P M) level index ≡ some a → a.u ≡ node_u level index
  tree-u M level index a e = ap (λ (n : Node). n.u) (tree-stands M level index a e).is

  -- and the K of the key
  pub tree-k : (M : List Bool) (level index : ℕ) (a : Node) → node_at (tree P M) level index ≡ some a → a.k ≡ key_words P.key
  tree-k M level index a e = ap (λ (n : Node). n.k) (tree-stands M level index a e).is

  -- its output has 1,024 bits, whatever the rounds
  pub tree-output : (M : List Bool) (r level index : ℕ) (a : Node) → node_at (tree P M) level index ≡ some a → length (output r a) ≡ 1024
  tree-output M r level index a e =
      let s = tree-stands M level index a e in
      rw s.is (length-output-node P r level index s.z s.p s.block s.full)

  -- ---- how many levels, and how many nodes in each

  pub levels-height : (n level : ℕ) (M : List Bool) → length (levels P n level M) ≤ suc n
  levels-height zero level M = omega arith
  levels-height (suc n) level M = go (eqb (blocks 4096 (length M)) 1) (λ Y. levels-height n (suc level) Y)
    where
      go : (b : Bool) → ((Y : List Bool) → length (levels P n (suc level) Y) ≤ suc n) → length (above P n level b M) ≤ suc (suc n)
      go true f = omega arith
      go false f = omega (arith, f (joined_outputs P (parallel P level false M)))

  -- no level has more nodes than 3,072 bits a node need
  levels-width : (n level : ℕ) (M : List Bool) (l : ℕ) → length (level_at (levels P n level M) (suc l)) ≤ blocks 3072 (length M)
  levels-width zero level M zero = omega (arith, length-sequential P level M)
  levels-width zero level M (suc l) = omega arith
  levels-width (suc n) level M l = go (eqb (blocks 4096 (length M)) 1) l (λ Y k. levels-width n (suc level) Y k)
    where
      go : (b : Bool) (l : ℕ) → ((Y : List Bool) (k : ℕ) → length (level_at (levels P n (suc level) Y) (suc k)) ≤ blocks 3072 (length Y))
          → length (level_at (above P n level b M) (suc l)) ≤ blocks 3072 (length M)
      go true zero f = omega (arith, length-parallel P level true M)
      go true (suc l) f = omega arith
      go false zero f = omega (arith, length-parallel P level false M)
      go false (suc l) f = omega (arith, f (joined_outputs P (parallel P level false M)) l, length-joined-parallel P level false M)

  -- a place of a tree is no higher than the levels that L allows; its index is below the nodes that 3,072 bits a node need
  tree-level : (M : List Bool) (level index : ℕ) (a : Node) → node_at (tree P M) level index ≡ some a → (1 ≤ level) × (level ≤ suc P.limit)
  tree-level M zero index a e = absurd (no-node a e)
  tree-level M (suc l) index a e = (omega arith, omega (arith, level-below (tree P M) l index a e, levels-height P.limit 1 M))

  tree-index : (M : List Bool) (level index : ℕ) (a : Node) → node_at (tree P M) level index ≡ some a → index < blocks 3072 (length M)
  tree-index M zero index a e = absurd (no-node a e)
  tree-index M (suc l) index a e = omega (arith, index_below (level_at (tree P M) (suc l)) index a e, levels-width P.limit 1 M l)

  -- "U differs between any two nodes of one tree": it determines the place
  pub tree-place : (M : List Bool) (level index level' index' : ℕ) (a b : Node) → length M < 2 ^ 64
      → node_at (tree P M) level index ≡ some a → node_at (tree P M) level' index' ≡ some b → a.u ≡ b.u → (level ≡ level') × (index ≡ index')
  tree-place M level index level' index' a b h e f g =
      node_u_inj level index level' index' (omega (arith, tree-index M level index a e)) (omega (arith, tree-index M level' index' b f))
      (sym (tree-u M level index a e) ∙ g ∙ tree-u M level' index' b f)

  -- all words of a node's input are below 2 ^ 64
  pub tree-words : (M : List Bool) (level index : ℕ) (a : Node) → Valid P → length M < 2 ^ 64 → node_at (tree P M) level index ≡ some a → Words a
  tree-words M level index a vp h e =
      let s = tree-stands M level index a e in
      let l = tree-level M level index a e in
      subst Words (sym s.is)
      (record {
        k = key_words-below P.key;
        u = node_u-below level index (omega (arith, l.1, vp.limit_high)) (omega (arith, tree-index M level index a e));
        v = node_v-below P s.z s.p vp (omega (arith, s.flag)) (omega (arith, s.pads));
        block = s.block_words;
      })

  -- ---- the root's place

  -- no level is empty
  pub levels-filled : (n level : ℕ) (M : List Bool) (l : ℕ) → l < length (levels P n level M) → 0 < length (level_at (levels P n level M) (suc l))
  levels-filled zero level M zero h = omega (arith, length-sequential P level M)
  levels-filled zero level M (suc l) h = absurd (omega arith)
  levels-filled (suc n) level M l h = go (eqb (blocks 4096 (length M)) 1) l (λ Y k. levels-filled n (suc level) Y k) h
    where
      go : (b : Bool) (l : ℕ) → ((Y : List Bool) (k : ℕ) → k < length (levels P n (suc level) Y) → 0 < length (level_at (levels P n (suc level) Y) (suc k)))
          → l < length (above P n level b M) → 0 < length (level_at (above P n level b M) (suc l))
      go true zero f h = omega (arith, length-parallel P level true M)
      go true (suc l) f h = absurd (omega arith)
      go false zero f h = omega (arith, length-parallel P level false M)
      go false (suc l) f h = f (joined_outputs P (parallel P level false M)) l (omega arith)

last-level : (o : List Node) (T : List (List Node)) (l : ℕ) → suc l ≡ length T → get_or T l [] ≡ last_or o T
last-level o [] l h = absurd (omega arith)
last-level o (x ∷ []) zero h = refl
last-level o (x ∷ []) (suc l) h = absurd (omega arith)
last-level o (x ∷ y ∷ T) zero h = absurd (omega arith)
last-level o (x ∷ y ∷ T) (suc l) h = last-level x (y ∷ T) l (omega arith)

last-node : (o : Node) (ns : List Node) (i : ℕ) → suc i ≡ length ns → get_elem? ns i ≡ some (last_or o ns)
last-node o [] i h = absurd (omega arith)
last-node o (x ∷ []) zero h = refl
last-node o (x ∷ []) (suc i) h = absurd (omega arith)
last-node o (x ∷ y ∷ ns) zero h = absurd (omega arith)
last-node o (x ∷ y ∷ ns) (suc i) h = last-node x (y ∷ ns) i (omega arith)

-- the root's place holds the root
pub root-place : (T : List (List Node)) (level index : ℕ) → RootAt T level index → node_at T level index ≡ some (root_of T)
root-place T zero index h = absurd (omega arith)
root-place T (suc l) index h = rw (← (last-level [] T l h.0)) (last-node no_node (get_or T l []) index h.1)

root-at-levels : (P : Params) (n level : ℕ) (M : List Bool) → RootAt (levels P n level M) (root_level (levels P n level M)) (root_index (levels P n level M))
root-at-levels P n level M = (refl, go (levels P n level M) (levels_some P n level M) (λ l h. levels-filled P n level M l h))
  where
    go : (T : List (List Node)) → 0 < length T → ((l : ℕ) → l < length T → 0 < length (level_at T (suc l))) → suc (root_index T) ≡ length (level_at T (root_level T))
    go [] h f = absurd (omega arith)
    go (ns ∷ T) h f = omega (arith, f (length T) (omega arith))

pub root-at : (P : Params) (M : List Bool) → RootAt (tree P M) (root_level (tree P M)) (root_index (tree P M))
root-at P M = root-at-levels P P.limit 1 M

-- the root of the levels from one up stands in the last of them
pub root-stands-levels : (P : Params) (n level : ℕ) (M : List Bool)
    → AtPlace P (level + (root_level (levels P n level M) - 1)) (root_index (levels P n level M)) (root_of (levels P n level M))
root-stands-levels P n level M =
    let T : List (List Node) = levels P n level M in
    let s : root_level T ≡ suc (root_level T - 1) = omega (arith, levels_some P n level M) in
    let e : node_at T (root_level T) (root_index T) ≡ some (root_of T) = root-place T (root_level T) (root_index T) (root-at-levels P n level M) in
    levels-stands P n level M (root_level T - 1) (root_index T) (root_of T) (subst (λ (k : ℕ). node_at T k (root_index T) ≡ some (root_of T)) s e)

pub root_stands : (P : Params) (M : List Bool) → AtPlace P (root_level (tree P M)) (root_index (tree P M)) (root P M)
root_stands P M =
    tree-stands P M (root_level (tree P M)) (root_index (tree P M)) (root P M)
    (root-place (tree P M) (root_level (tree P M)) (root_index (tree P M)) (root-at P M))

-- no other place is the root's
pub root_only : (T : List (List Node)) (level index level' index' : ℕ) → RootAt T level index → RootAt T level' index' → (level ≡ level') × (index ≡ index')
root_only T level index level' index' h g =
    let e : level ≡ level' = h.0 ∙ sym g.0 in
    (e, omega (arith, h.1, g.1, ap (λ (k : ℕ). length (level_at T k)) e))
