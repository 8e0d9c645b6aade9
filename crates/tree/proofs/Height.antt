-- Laws: how many nodes stand above how many, and how high a tree is. Document 01, "Tree": "No tree has more than 27 levels."
use Rattle.std.specs.Prelude.{◌≡◌, refl, Bool, true, false, List, [], ◌∷◌, ℕ, zero, suc, ◌+◌, ◌*◌, ◌^◌, ◌≤◌, ◌<◌, eqb, length}
use Rattle.std.proofs.Common.{sym, ap, ◌∙◌, arith, eqb-true}
use Rattle.std.proofs.Math.Nat.{pow-succ', one-le-pow}
use Rattle.std.proofs.lemmas.Bool.{eqb-false}
use Rattle.tree.specs.Tree.{Params, Node, block_bits, sequential_bits, output_bits, most_levels, blocks, parallel, sequential, joined_outputs, levels, tree}
use Rattle.tree.proofs.TreeLaws.{length-parallel, length-sequential, length-joined-parallel, levels-one, levels-more}

-- the outputs of at most 4 ^ (k + 1) blocks fill at most 4 ^ k blocks
quarter : (k m c : ℕ) → m ≤ block_bits * 4 ^ suc k → c ≡ output_bits * blocks block_bits m → c ≤ block_bits * 4 ^ k
quarter k m c h e = omega (arith, pow-succ' 4 k, one-le-pow k 4 (omega arith))

-- a level that has not one node has more
some : (M : List Bool) → eqb (blocks block_bits (length M)) 1 ≡ false → 1 < blocks block_bits (length M)
some M e = omega (arith, eqb-false (blocks block_bits (length M)) 1 e)

module _ (P : Params) where
  -- a level over at most 4 ^ k blocks has at most k levels above it
  levels_bound : (n k level : ℕ) (M : List Bool) → length M ≤ block_bits * 4 ^ k → length (levels P n level M) ≤ suc k
  levels_bound zero k level M h = omega arith
  levels_bound (suc n) zero level M h = rw (levels-one P n level M (omega arith)) (omega arith)
  levels_bound (suc n) (suc k) level M h = go (eqb (blocks block_bits (length M)) 1) refl (levels_bound n k)
    where
      go : (b : Bool) → eqb (blocks block_bits (length M)) 1 ≡ b
          → ((level : ℕ) (N : List Bool) → length N ≤ block_bits * 4 ^ k → length (levels P n level N) ≤ suc k)
          → length (levels P (suc n) level M) ≤ suc (suc k)
      go true e up = rw (levels-one P n level M (eqb-true (blocks block_bits (length M)) 1 e)) (omega arith)
      go false e up =
          rw (levels-more P n level M (some M e))
          (omega (arith, up (suc level) (joined_outputs P (parallel P level false M)) (quarter k (length M) _ h (length-joined-parallel P level false M))))

  -- so the number of levels that may be parallel says nothing once it is more than k
  levels-enough : (n k level : ℕ) (M : List Bool) → length M ≤ block_bits * 4 ^ k → k < n → levels P n level M ≡ levels P (suc k) level M
  levels-enough zero k level M h g = absurd (omega arith)
  levels-enough (suc n) zero level M h g = rw (levels-one P n level M (omega arith), levels-one P 0 level M (omega arith))
  levels-enough (suc n) (suc k) level M h g = go (eqb (blocks block_bits (length M)) 1) refl (levels-enough n k)
    where
      go : (b : Bool) → eqb (blocks block_bits (length M)) 1 ≡ b
          → ((level : ℕ) (N : List Bool) → length N ≤ block_bits * 4 ^ k → k < n → levels P n level N ≡ levels P (suc k) level N)
          → levels P (suc n) level M ≡ levels P (suc (suc k)) level M
      go true e up = levels-one P n level M (eqb-true (blocks block_bits (length M)) 1 e) ∙ sym (levels-one P (suc k) level M (eqb-true (blocks block_bits (length M)) 1 e))
      go false e up =
          levels-more P n level M (some M e)
          ∙ ap (λ (above : List (List Node)). parallel P level false M ∷ above)
          (up (suc level) (joined_outputs P (parallel P level false M)) (quarter k (length M) _ h (length-joined-parallel P level false M)) (omega arith))
          ∙ sym (levels-more P (suc k) level M (some M e))

-- "No tree has more than 27 levels": 2 ^ 64 bits are 4 ^ 26 blocks
pub height : (P : Params) (M : List Bool) → length M < 2 ^ 64 → length (tree P M) ≤ most_levels
height P M h = levels_bound P P.limit 26 1 M (omega arith)

-- so any limit of 27 or more gives the levels that 27 parallel levels give
pub tree-enough : (P : Params) (M : List Bool) → length M < 2 ^ 64 → most_levels ≤ P.limit → tree P M ≡ levels P most_levels 1 M
tree-enough P M h g = levels-enough P P.limit 26 1 M (omega arith) (omega arith)

-- ---- how many nodes stand above how many

-- c children of n nodes, k to each but the last, which has at least one
pub record Children (k c n : ℕ) : Type 0 where
  pub held : c ≤ k * n
  pub needed : k * n < c + k

-- the levels above one of c nodes, of which n may be parallel: four children to a node, or three to a sequential one
pub data Above : ℕ → ℕ → List (List Node) → Type 0 where
  no-level : {n c : ℕ} → Above n c []
  sequential-level : {c : ℕ} {ns : List Node} → Children 3 c (length ns) → Above 0 c (ns ∷ [])
  parallel-level : {n c : ℕ} {ns : List Node} {above : List (List Node)} → Children 4 c (length ns) → Above n (length ns) above → Above (suc n) c (ns ∷ above)

-- the levels of a tree for a limit and a message of m bits
pub data Levels : ℕ → ℕ → List (List Node) → Type 0 where
  sequential-tree : {m : ℕ} {ns : List Node} → length ns ≡ blocks sequential_bits m → Levels 0 m (ns ∷ [])
  parallel-tree : {n m : ℕ} {ns : List Node} {above : List (List Node)} → length ns ≡ blocks block_bits m → Above n (length ns) above → Levels (suc n) m (ns ∷ above)

module _ (P : Params) where
  levels-above : (n level c : ℕ) (M : List Bool) → length M ≡ output_bits * c → 1 < c → Above n c (levels P n level M)
  levels-above zero level c M h g = sequential-level {c = c} {ns = sequential P level M} record { held = omega (arith, length-sequential P level M); needed = omega (arith, length-sequential P level M) }
  levels-above (suc n) level c M h g = go (eqb (blocks block_bits (length M)) 1) refl (levels-above n)
    where
      under : (b : Bool) → Children 4 c (length (parallel P level b M))
      under b = record { held = omega (arith, length-parallel P level b M); needed = omega (arith, length-parallel P level b M) }

      go : (b : Bool) → eqb (blocks block_bits (length M)) 1 ≡ b
          → ((level c : ℕ) (N : List Bool) → length N ≡ output_bits * c → 1 < c → Above n c (levels P n level N))
          → Above (suc n) c (levels P (suc n) level M)
      go true e up = rw (levels-one P n level M (eqb-true (blocks block_bits (length M)) 1 e)) (parallel-level (under true) no-level)
      go false e up =
          rw (levels-more P n level M (some M e))
          (parallel-level (under false)
          (up (suc level) (length (parallel P level false M)) (joined_outputs P (parallel P level false M))
          (rw (length-parallel P level false M) (length-joined-parallel P level false M)) (omega (arith, length-parallel P level false M, some M e))))

-- a tree has such levels
pub tree-levels : (P : Params) (M : List Bool) → Levels P.limit (length M) (tree P M)
tree-levels P M = all P.limit
  where
    all : (n : ℕ) → Levels n (length M) (levels P n 1 M)
    all zero = sequential-tree (length-sequential P 1 M)
    all (suc n) = go (eqb (blocks block_bits (length M)) 1) refl
      where
        go : (b : Bool) → eqb (blocks block_bits (length M)) 1 ≡ b → Levels (suc n) (length M) (levels P (suc n) 1 M)
        go true e = rw (levels-one P n 1 M (eqb-true (blocks block_bits (length M)) 1 e)) (parallel-tree (length-parallel P 1 true M) no-level)
        go false e =
            rw (levels-more P n 1 M (some M e))
            (parallel-tree (length-parallel P 1 false M)
            (levels-above P n 2 (length (parallel P 1 false M)) (joined_outputs P (parallel P 1 false M))
            (rw (length-parallel P 1 false M) (length-joined-parallel P 1 false M)) (omega (arith, length-parallel P 1 false M, some M e))))
