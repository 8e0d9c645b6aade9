-- Laws: Document 01, "Tree": "U differs between any two nodes of one tree." Level by level, and in a level by index, U rises; and the
-- order holds the same nodes.
use Rattle.std.specs.Prelude.{◌≡◌, ◌≢◌, Bool, drop, get_or}
use Rattle.std.proofs.Math.Path.{refl}
use Rattle.std.proofs.Common.{sym, ap, ◌∙◌, le_refl, arith}
use Rattle.std.proofs.Math.Logic.{∥∥₁_elim}
use mathlib.Core.HLevel.{¬_prop}
use Rattle.std.proofs.Math.Bool.{true, false}
use mathlib.Core.List.Permᴰ
use mathlib.Core.List.Pairwise
use mathlib.Core.List.{List, [], ◌∷◌, ◌++◌, map, Nodup, Memᴰ, flatten}
use Prim.Native.Nat.{ℕ, zero, suc, ◌+◌, ◌^◌, ◌≤◌, ◌<◌}
use borrow.Author.Tests.{eqb-true, eqb-false}
use Rattle.std.proofs.Math.Dec.{eqb}
use Rattle.std.proofs.Math.ListN.{length}
use Rattle.std.proofs.lemmas.List.{length-map}
use Rattle.lists.specs.Flatten.{map-append}
use Rattle.tree.specs.Tree.{Params, Node, Mark, block_bits, sequential_bits, node_u, node, output, words, blocks, padding, padded, par, seq, no_chain, parallel, joined_outputs, levels, tree, order}
use Rattle.tree.proofs.TreeLaws.{length-joined-parallel, levels-one, levels-more}
use Rattle.tree.proofs.OrderLaws.{order-levels}
use Rattle.tree.specs.Vocabulary.{marked}

-- numbers that rise, from a first one on
data Rising : ℕ → List ℕ → Type 0 where
  none : {lo : ℕ} → Rising lo []
  more : {lo x : ℕ} {xs : List ℕ} → lo ≤ x → Rising (suc x) xs → Rising lo (x ∷ xs)

rising-from : {lo hi : ℕ} {xs : List ℕ} → lo ≤ hi → Rising hi xs → Rising lo xs
rising-from h none = none
rising-from {lo} h (more {x = x} g r) = more {lo = lo} {x = x} (omega arith) r

rising-above : {lo : ℕ} {xs : List ℕ} → Rising lo xs → {x : ℕ} → Memᴰ x xs → lo ≤ x
rising-above (none {lo = lo}) x8 = elim x8 [ ]
rising-above (more h r) (Memᴰ.head e) = omega arith
rising-above (more h r) (Memᴰ.tail m) = omega (arith, rising-above r m)

rising_nodup : {lo : ℕ} {xs : List ℕ} → Rising lo xs → Nodup xs
rising_nodup none = Pairwise.nil
rising_nodup (more {x = x} {xs = xs} h r) = Pairwise.cons (λ y m. ∥∥₁_elim {P = x ≢ y} m ¬_prop (λ (d : Memᴰ y xs) (e : x ≡ y). omega (arith, rising-above r d))) (rising_nodup r)

abbrev us : List Node → List ℕ
us ns = map (λ (n : Node). n.u) ns

-- the nodes of a level, from an index on
next-index : (level i : ℕ) {xs : List ℕ} → Rising (node_u level (suc i)) xs → Rising (node_u level i) (node_u level i ∷ xs)
next-index level i r = more (le_refl (node_u level i)) (rising-from (omega arith) r)

module _ (P : Params) where
  par-rising : (level z p i n : ℕ) (X : List Bool) (rest : List ℕ) → Rising (node_u level (i + n)) rest → Rising (node_u level i) (us (par P level z p i n X) ++ rest)
  par-rising level z p i zero X rest r = rising-from (omega arith) r
  par-rising level z p i (suc zero) X rest r = next-index level i (rising-from (omega arith) r)
  par-rising level z p i (suc (suc n)) X rest r =
      next-index level i (par-rising level z p (suc i) (suc n) (drop block_bits X) rest (rising-from (omega arith) r))

  seq-rising : (level p i : ℕ) (chain : List Bool) (n : ℕ) (X : List Bool) (rest : List ℕ) → Rising (node_u level (i + n)) rest
      → Rising (node_u level i) (us (seq P level p i chain n X) ++ rest)
  seq-rising level p i chain zero X rest r = rising-from (omega arith) r
  seq-rising level p i chain (suc zero) X rest r = next-index level i (rising-from (omega arith) r)
  seq-rising level p i chain (suc (suc n)) X rest r =
      let a : Node = node P level i 0 0 (words 16 chain ++ words 48 X) in
      next-index level i (seq-rising level p (suc i) (output P.rounds a) (suc n) (drop sequential_bits X) rest (rising-from (omega arith) r))

  -- a level has fewer than 2 ^ 56 nodes, so that its U are below those of the level above it
  levels-rising : (n level : ℕ) (M : List Bool) → length M < 2 ^ 64 → Rising (node_u level 0) (flatten (map us (levels P n level M)))
  unfolding flatten
  levels-rising zero level M h = seq-rising level (padding sequential_bits (length M)) 0 no_chain (blocks sequential_bits (length M)) (padded sequential_bits M) [] none
  levels-rising (suc n) level M h = go (eqb (blocks block_bits (length M)) 1) refl (levels-rising n)
    where
      go : (b : Bool) → eqb (blocks block_bits (length M)) 1 ≡ b
          → ((level : ℕ) (N : List Bool) → length N < 2 ^ 64 → Rising (node_u level 0) (flatten (map us (levels P n level N))))
          → Rising (node_u level 0) (flatten (map us (levels P (suc n) level M)))
      go true e up =
          rw (levels-one P n level M (eqb-true (blocks block_bits (length M)) 1 e))
          (par-rising level 1 (padding block_bits (length M)) 0 (blocks block_bits (length M)) (padded block_bits M) [] none)
      go false e up =
          rw (levels-more P n level M (omega (arith, eqb-false (blocks block_bits (length M)) 1 e)))
          (par-rising level 0 (padding block_bits (length M)) 0 (blocks block_bits (length M)) (padded block_bits M) _
          (rising-from (omega arith) (up (suc level) (joined_outputs P (parallel P level false M)) (omega (arith, length-joined-parallel P level false M)))))

abbrev mark_us : List Mark → List ℕ
mark_us ms = map (λ (m : Mark). m.node.u) ms

marked-us : (ns : List Node) → mark_us (marked ns) ≡ us ns
marked-us [] = refl
marked-us (n ∷ []) = refl
marked-us (n ∷ m ∷ ns) = ap (λ (l : List ℕ). n.u ∷ l) (marked-us (m ∷ ns))

levels-us : (T : List (List Node)) → mark_us (flatten (map marked T)) ≡ flatten (map us T)
unfolding flatten
levels-us [] = refl
levels-us (ns ∷ T) = map-append (λ (m : Mark). m.node.u) (marked ns) (flatten (map marked T)) ∙ rw (marked-us ns, levels-us T)

-- "U differs between any two nodes of one tree": in the list of the U of the order no number is found twice
pub order_nodup : (P : Params) (M : List Bool) → length M < 2 ^ 64 → Nodup (map (λ (m : Mark). m.node.u) (order P M))
unfolding Permᴰ.map
order_nodup P M h =
    Permᴰ.pairwise (λ a b. ¬_prop) (λ a b d e. d (sym e)) (Permᴰ.symm (Permᴰ.map (λ (m : Mark). m.node.u) (order-levels P M)))
    (rw (levels-us (tree P M)) (rising_nodup (levels-rising P P.limit 1 M h)))

nodup_at : {xs : List ℕ} → Nodup xs → (i j : ℕ) → i < j → j < length xs → get_or xs i 0 ≢ get_or xs j 0
nodup_at Pairwise.nil i j h g = absurd (omega arith)
nodup_at (Pairwise.cons {a = x} {l = xs} f n) i zero h g = absurd (omega arith)
nodup_at (Pairwise.cons {a = x} {l = xs} f n) zero (suc j) h g = f (get_or xs j 0) ∣ member xs j (omega arith) ∣₁
  where
    member : (xs : List ℕ) (j : ℕ) → j < length xs → Memᴰ (get_or xs j 0) xs
    member [] j h = absurd (omega arith)
    member (y ∷ ys) zero h = Memᴰ.head refl
    member (y ∷ ys) (suc j) h = Memᴰ.tail (member ys j (omega arith))
nodup_at (Pairwise.cons {a = x} {l = xs} f n) (suc i) (suc j) h g = nodup_at n i j (omega arith) (omega arith)

-- the same, by places in the order
pub fresh : (P : Params) (M : List Bool) → length M < 2 ^ 64 → (i j : ℕ) → i < j → j < length (order P M)
    → get_or (map (λ (m : Mark). m.node.u) (order P M)) i 0 ≢ get_or (map (λ (m : Mark). m.node.u) (order P M)) j 0
fresh P M h i j g l = nodup_at (order_nodup P M h) i j g (rw (length-map (order P M) (λ (m : Mark). m.node.u)) l)
