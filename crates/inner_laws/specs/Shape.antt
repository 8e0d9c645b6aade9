-- Laws: of how nodes are counted, one for each way that a count can take.
use Rattle.std.specs.Prelude.{◌≡◌, refl, ℕ, zero, suc, ◌+◌, ◌-◌, ◌<◌}
use Rattle.std.proofs.Common.{arith, eq-eqb, ne_eqb}
use Rattle.tree.specs.Tree.{blocks, block_bits, sequential_bits}
use Rattle.tree.specs.Sizes.{nodes_from, tree_nodes}

-- ---- the number of nodes

-- the levels of a tree from its first, of c nodes
pub nodes-start : (limit m : ℕ) → (limit ≡ 0 → ⊥) → 0 + nodes_from (limit - 1) (blocks block_bits m) ≡ tree_nodes limit m
nodes-start zero m h = absurd (h refl)
nodes-start (suc n) m h =
    let e : suc n - 1 ≡ n = omega arith in
    let z : 0 + nodes_from n (blocks block_bits m) ≡ nodes_from n (blocks block_bits m) = omega arith in
    rw (e, z)

pub nodes-sequential : (limit m : ℕ) → limit ≡ 0 → blocks sequential_bits m ≡ tree_nodes limit m
nodes-sequential limit m e = rw e

-- one node only: no level above it
pub nodes-one : (n c : ℕ) → c ≡ 1 → nodes_from n c ≡ c
nodes-one zero c e = rw (eq-eqb c 1 e)
nodes-one (suc n) c e = rw (eq-eqb c 1 e)

pub nodes-last : (n c : ℕ) → 0 < c → n ≡ 0 → (c ≡ 1 → ⊥) → nodes_from n c ≡ c + blocks 3 c
nodes-last n c p e g = rw (e, ne_eqb c 1 g)
