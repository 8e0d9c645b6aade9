-- Laws: how many nodes a tree has: level by level, in its order, and by a formula on the number of bits and the height limit.
use Rattle.std.specs.Prelude.{◌≡◌, refl, Bool, true, false, cond, ℕ, zero, suc, ◌+◌, ◌-◌, ◌*◌, ◌^◌, ◌≤◌, ◌<◌, eqb, length, get_or, replicate}
use Rattle.std.proofs.Common.{sym, ap, ◌∙◌, add-zero, arith, eqb-true}
use mathlib.Core.List.{List, [], ◌∷◌, ◌++◌, map, Permᴰ, flatten}
use Rattle.std.proofs.lemmas.Bool.{eqb-false}
use Rattle.std.proofs.lemmas.List.{length-map, length-replicate}
use Rattle.bits.specs.Bits.{digit}
use Rattle.tree.specs.Tree.{Params, Node, Mark, block_bits, sequential_bits, output_bits, most_levels, blocks, levels, tree, order}
use Rattle.tree.specs.Sizes.{nodes_from, tree_nodes}
use Rattle.tree.specs.Place.{level_at}
use Rattle.tree.proofs.TreeLaws.{counts, levels-counts}
use Rattle.tree.proofs.Height.{Above, no-level, sequential-level, parallel-level, Levels, sequential-tree, parallel-tree, tree-levels, tree-enough}
use Rattle.tree.proofs.OrderLaws.{order-levels}
use Rattle.tree.specs.Vocabulary.{total, height_from, tree_height, marked}

-- ---- numbers: the nodes, and those that reach the last bit

total-append : {A : Type 0} (f : A → ℕ) (xs ys : List A) → total f (xs ++ ys) ≡ total f xs + total f ys
total-append f [] ys = omega arith
total-append f (x ∷ xs) ys = omega (arith, total-append f xs ys)

total_perm : {A : Type 0} (f : A → ℕ) {xs ys : List A} → Permᴰ xs ys → total f xs ≡ total f ys
total_perm f Permᴰ.nil = refl
total_perm f (Permᴰ.cons e p) = omega (arith, ap f e, total_perm f p)
total_perm f (Permᴰ.swap e q) = omega (arith, ap f e, ap f q)
total_perm f (Permᴰ.trans p q) = total_perm f p ∙ total_perm f q

-- whatever is counted of the nodes in their order is counted level by level
order-total : (f : Mark → ℕ) (P : Params) (M : List Bool) → total f (order P M) ≡ total (λ (ns : List Node). total f (marked ns)) (tree P M)
unfolding flatten
order-total f P M = total_perm f (order-levels P M) ∙ by_level (tree P M)
  where
    by_level : (T : List (List Node)) → total f (flatten (map marked T)) ≡ total (λ (ns : List Node). total f (marked ns)) T
    by_level [] = refl
    by_level (ns ∷ T) = total-append f (marked ns) (flatten (map marked T)) ∙ ap (λ (k : ℕ). total f (marked ns) + k) (by_level T)

-- the order is as long as the levels together
order-length : (P : Params) (M : List Bool) → length (order P M) ≡ total length (tree P M)
order-length P M = sym (ones (order P M)) ∙ order-total (λ (m : Mark). 1) P M ∙ all (tree P M)
  where
    ones : (ms : List Mark) → total (λ (m : Mark). 1) ms ≡ length ms
    ones [] = refl
    ones (m ∷ ms) = omega (arith, ones ms)

    each : (ns : List Node) → length (marked ns) ≡ length ns
    each [] = refl
    each (n ∷ []) = refl
    each (n ∷ m ∷ ns) = ap suc (each (m ∷ ns))

    all : (T : List (List Node)) → total (λ (ns : List Node). total (λ (m : Mark). 1) (marked ns)) T ≡ total length T
    all [] = refl
    all (ns ∷ T) = omega (arith, ones (marked ns), each ns, all T)

-- as many nodes reach the last bit as there are levels
pub order-reaching : (P : Params) (M : List Bool) → total (λ (m : Mark). digit m.reaches) (order P M) ≡ length (tree P M)
order-reaching P M = order-total (λ (m : Mark). digit m.reaches) P M ∙ all (tree-levels P M)
  where
    each : (ns : List Node) → 0 < length ns → total (λ (m : Mark). digit m.reaches) (marked ns) ≡ 1
    each [] h = absurd (omega arith)
    each (n ∷ []) h = refl
    each (n ∷ m ∷ ns) h = omega (arith, each (m ∷ ns) (omega arith))

    up : {n c : ℕ} {T : List (List Node)} → Above n c T → 0 < c → total (λ (ns : List Node). total (λ (m : Mark). digit m.reaches) (marked ns)) T ≡ length T
    up no-level h = refl
    up (sequential-level {c} {ns} k) h = omega (arith, each ns (omega arith))
    up (parallel-level {n} {c} {ns} {above} k a) h = omega (arith, each ns (omega arith), up a (omega arith))

    all : {limit m : ℕ} {T : List (List Node)} → Levels limit m T → total (λ (ns : List Node). total (λ (m : Mark). digit m.reaches) (marked ns)) T ≡ length T
    all (sequential-tree {m} {ns} e) = omega (arith, each ns (omega arith))
    all (parallel-tree {n} {m} {ns} {above} e a) = omega (arith, each ns (omega arith), up a (omega arith))

-- ---- the numbers by a formula

-- the outputs of c nodes fill a fourth of c blocks, rounded up, at a parallel level, and a third at the sequential one
pub fourth : (c : ℕ) → 0 < c → blocks block_bits (output_bits * c) ≡ blocks 4 c
fourth c h = omega arith

pub third : (c : ℕ) → 0 < c → blocks sequential_bits (output_bits * c) ≡ blocks 3 c
third c h = omega arith

-- the nodes of a parallel level, for a message of m bits: four outputs fill a block; levels count from 1
unfoldable pub level_nodes : ℕ → ℕ → ℕ
level_nodes m zero = 0
level_nodes m (suc zero) = blocks block_bits m
level_nodes m (suc (suc k)) = blocks 4 (level_nodes m (suc k))

pub level_nodes-one : (m : ℕ) → level_nodes m 1 ≡ blocks block_bits m
unfolding level_nodes
level_nodes-one m = refl

pub level_nodes-suc : (m k : ℕ) → level_nodes m (suc (suc k)) ≡ blocks 4 (level_nodes m (suc k))
unfolding level_nodes
level_nodes-suc m k = refl

pub level_nodes_some : (m k : ℕ) → 0 < level_nodes m (suc k)
level_nodes_some m zero = rw (level_nodes-one m) (omega arith)
level_nodes_some m (suc k) = rw (level_nodes-suc m k) (omega arith)

-- fewer than twice the nodes of the level itself, so that the count of any tree is a word
nodes_from_bound : (n c : ℕ) → 0 < c → nodes_from n c < 2 * c
nodes_from_bound zero c h = go (eqb c 1) (eqb-false c 1)
  where
    go : (b : Bool) → (b ≡ false → c ≡ 1 → ⊥) → cond b c (c + blocks 3 c) < 2 * c
    go true f = omega arith
    go false f = omega (arith, f refl)
nodes_from_bound (suc n) c h = go (eqb c 1) (eqb-false c 1) (nodes_from_bound n (blocks 4 c) (omega arith))
  where
    go : (b : Bool) → (b ≡ false → c ≡ 1 → ⊥) → nodes_from n (blocks 4 c) < 2 * (blocks 4 c) → cond b c (c + nodes_from n (blocks 4 c)) < 2 * c
    go true f u = omega arith
    go false f u = omega (arith, f refl)

pub tree_nodes_bound : (limit m : ℕ) → m < 2 ^ 64 → tree_nodes limit m < 2 ^ 54
tree_nodes_bound zero m h = omega arith
tree_nodes_bound (suc n) m h = omega (arith, nodes_from_bound n (blocks block_bits m) (omega arith))

counts-nodes : (n m : ℕ) → total (λ (c : ℕ). c) (counts n m) ≡ tree_nodes n m
counts-nodes zero m = omega arith
counts-nodes (suc n) m = go n (blocks block_bits m) (omega arith) (counts-nodes n (output_bits * blocks block_bits m))
  where
    if : (b : Bool) (c : ℕ) (above : List ℕ) (k : ℕ) → total (λ (c : ℕ). c) above ≡ k → total (λ (c : ℕ). c) (cond b (c ∷ []) (c ∷ above)) ≡ cond b c (c + k)
    if true c above k e = omega arith
    if false c above k e = omega arith

    go : (n c : ℕ) → 0 < c → total (λ (c : ℕ). c) (counts n (output_bits * c)) ≡ tree_nodes n (output_bits * c)
        → total (λ (c : ℕ). c) (cond (eqb c 1) (c ∷ []) (c ∷ counts n (output_bits * c))) ≡ nodes_from n c
    go zero c h e = if (eqb c 1) c (counts zero (output_bits * c)) (blocks 3 c) (e ∙ third c h)
    go (suc n) c h e = if (eqb c 1) c (counts (suc n) (output_bits * c)) (nodes_from n (blocks 4 c)) (e ∙ ap (nodes_from n) (fourth c h))

-- the number of nodes goes by the limit and the number of bits alone
pub order-nodes : (P : Params) (M : List Bool) → length (order P M) ≡ tree_nodes P.limit (length M)
order-nodes P M =
    order-length P M ∙ sum (tree P M) ∙ ap (total (λ (c : ℕ). c)) (levels-counts P P.limit 1 M) ∙ counts-nodes P.limit (length M)
  where
    sum : (T : List (List Node)) → total length T ≡ total (λ (c : ℕ). c) (map length T)
    sum [] = refl
    sum (ns ∷ T) = ap (λ (k : ℕ). length ns + k) (sum T)

-- ---- each level by a formula

above-level : {n c : ℕ} {T : List (List Node)} → Above n c T → (m k : ℕ) → c ≡ level_nodes m (suc k) → (j : ℕ) → j < length T → j < n
    → length (get_or T j []) ≡ level_nodes m (suc (suc (k + j)))
above-level no-level m k e j h g = absurd (omega arith)
above-level (sequential-level c) m k e j h g = absurd (omega arith)
above-level (parallel-level d a) m k e zero h g = rw (add-zero k, level_nodes-suc m k) (omega (arith, level_nodes_some m k))
above-level (parallel-level d a) m k e (suc j) h g =
    let z : suc k + j ≡ k + suc j = omega arith in
    above-level a m (suc k) (omega (arith, level_nodes_some m k, level_nodes-suc m k)) j (omega arith) (omega arith) ∙ ap (λ (i : ℕ). level_nodes m (suc (suc i))) z

-- a parallel level of a tree
pub level-nodes : (P : Params) (M : List Bool) (level : ℕ) → 0 < level → level ≤ P.limit → level ≤ length (tree P M)
    → length (level_at (tree P M) level) ≡ level_nodes (length M) level
level-nodes P M level h g l = go (tree-levels P M) level h g l
  where
    go : {limit m : ℕ} {T : List (List Node)} → Levels limit m T → (level : ℕ) → 0 < level → level ≤ limit → level ≤ length T
        → length (level_at T level) ≡ level_nodes m level
    go t zero h g l = absurd (omega arith)
    go (sequential-tree e) (suc k) h g l = absurd (omega arith)
    go (parallel-tree {m = m} e a) (suc zero) h g l = e ∙ sym (level_nodes-one m)
    go (parallel-tree {m = m} e a) (suc (suc k)) h g l =
        let z : 0 + k ≡ k = omega arith in
        rw z at (above-level a m 0 (e ∙ sym (level_nodes-one m)) k (omega arith) (omega arith))

-- ---- the number of levels by a formula

levels_tall : (P : Params) (n level : ℕ) (M : List Bool) → length (levels P n level M) ≡ tree_height n (length M)
levels_tall P n level M = sym (length-map (levels P n level M) length) ∙ ap length (levels-counts P n level M) ∙ all n (length M)
  where
    if : (b : Bool) (c : ℕ) (above : List ℕ) (k : ℕ) → length above ≡ k → length (cond b (c ∷ []) (c ∷ above)) ≡ cond b 1 (suc k)
    if true c above k e = refl
    if false c above k e = ap suc e

    go : (n c : ℕ) → 0 < c → length (counts n (output_bits * c)) ≡ tree_height n (output_bits * c)
        → length (cond (eqb c 1) (c ∷ []) (c ∷ counts n (output_bits * c))) ≡ height_from n c
    go zero c h e = if (eqb c 1) c (counts zero (output_bits * c)) 1 refl
    go (suc n) c h e = if (eqb c 1) c (counts (suc n) (output_bits * c)) (height_from n (blocks 4 c)) (e ∙ ap (height_from n) (fourth c h))

    all : (n m : ℕ) → length (counts n m) ≡ tree_height n m
    all zero m = refl
    all (suc n) m = go n (blocks block_bits m) (omega arith) (all n (output_bits * blocks block_bits m))

pub tree-height : (P : Params) (M : List Bool) → length (tree P M) ≡ tree_height P.limit (length M)
tree-height P M = levels_tall P P.limit 1 M

-- 27 levels are reached: by every message of 2^64 - 1 bits, with a sequential level (L = 26) and without one
pub highest : (P : Params) (M : List Bool) → length M ≡ 2 ^ 64 - 1 → 26 ≤ P.limit → length (tree P M) ≡ most_levels
highest P M h g = go (eqb P.limit 26) (eqb-true P.limit 26) (eqb-false P.limit 26)
  where
    go : (b : Bool) → (b ≡ true → P.limit ≡ 26) → (b ≡ false → P.limit ≡ 26 → ⊥) → length (tree P M) ≡ most_levels
    go true e f = tree-height P M ∙ rw (e refl, h)
    go false e f = ap length (tree-enough P M (omega arith) (omega (arith, f refl))) ∙ levels_tall P most_levels 1 M ∙ rw h

-- and there is such a message, for every P with such a limit
longest : List Bool
longest = replicate (2 ^ 64 - 1) false

length-longest : length longest ≡ 2 ^ 64 - 1
unfolding longest
length-longest = length-replicate (2 ^ 64 - 1) false

pub highest_reached : (P : Params) → 26 ≤ P.limit → (M : List Bool) × (length M < 2 ^ 64) × (length (tree P M) ≡ most_levels)
highest_reached P g = (longest, omega (arith, length-longest), highest P longest length-longest g)
