-- Laws: for the code that counts levels and nodes: how many a level has, which indices, a node's padding bits, and the root's level.
use Rattle.std.specs.Prelude.{◌≡◌, refl, ℕ, zero, suc, ◌+◌, ◌-◌, ◌*◌, ◌/◌, ◌^◌, ◌≤◌, ◌<◌, Bool, true, false, cond, eqb}
use Rattle.std.proofs.Common.{sym, ◌∙◌, arith, eq-eqb, ne_eqb, eqb-true}
use Rattle.std.proofs.Math.Nat.{pow-succ', add-div_right, div-eq_of_lt}
use Rattle.std.proofs.lemmas.Bool.{eqb-false}
use Rattle.tree.specs.Tree.{blocks, block_bits, sequential_bits, output_bits, most_levels}
use Rattle.tree.specs.Sizes.{nodes_from}
use Rattle.shape.specs.Shape.{taken, block_padding, sequential_nodes, sequential_padding, top_from, top_level}
use Rattle.tree.proofs.Count.{level_nodes, fourth, level_nodes-one, level_nodes-suc, level_nodes_some}

-- rounding up without a sum that could pass 2 ^ 64
pub blocks_some : (size m : ℕ) → 0 < size → (m ≡ 0 → ⊥) → (m - 1) / size + 1 ≡ blocks size m
blocks_some size m h g =
    let e : m + (size - 1) ≡ (m - 1) + size = omega (arith, g) in
    rw (e, add-div_right (m - 1) h) (omega arith)

pub blocks_none : (size m : ℕ) → 0 < size → m ≡ 0 → 1 ≡ blocks size m
blocks_none size m h e =
    let z : (size - 1) / size ≡ 0 = div-eq_of_lt (omega arith) in
    let a : m + (size - 1) ≡ size - 1 = omega arith in
    rw (a, z)

-- both ways at once: 0 - 1 is 0
pub blocks_less : (size m : ℕ) → 0 < size → (m - 1) / size + 1 ≡ blocks size m
blocks_less size zero h =
    let z : (0 - 1) / size ≡ 0 = div-eq_of_lt h in
    rw z (blocks_none size 0 h refl)
blocks_less size (suc m) h = blocks_some size (suc m) h (λ e. omega (arith, e))

-- the nodes from a level of several up: they, and those from the level above them up
pub nodes-more : (n c : ℕ) → 0 < n → (c ≡ 1 → ⊥) → nodes_from n c ≡ c + nodes_from (n - 1) (blocks 4 c)
nodes-more zero c h g = absurd (omega arith)
nodes-more (suc n) c h g =
    let e : suc n - 1 ≡ n = omega arith in
    rw (ne_eqb c 1 g, e)

pub level_nodes-more : (m level : ℕ) → 0 < level → level_nodes m (level + 1) ≡ blocks 4 (level_nodes m level)
level_nodes-more m zero h = absurd (omega arith)
level_nodes-more m (suc l) h =
    let e : suc l + 1 ≡ suc (suc l) = omega arith in
    rw (e, level_nodes-suc m l)

pub sequential_nodes-zero : (limit m : ℕ) → limit ≡ 0 → blocks sequential_bits m ≡ sequential_nodes limit m
unfolding sequential_nodes
sequential_nodes-zero limit m e = rw e

pub sequential_nodes-more : (limit m : ℕ) → (limit ≡ 0 → ⊥) → blocks 3 (level_nodes m limit) ≡ sequential_nodes limit m
unfolding sequential_nodes
sequential_nodes-more zero m h = absurd (h refl)
sequential_nodes-more (suc l) m h = omega (arith, level_nodes_some m l)

-- the outputs of a level fill the blocks of the one above
pub level_nodes-outputs : (m h : ℕ) → level_nodes m (suc (suc h)) ≡ blocks block_bits (output_bits * level_nodes m (suc h))
level_nodes-outputs m h = level_nodes-suc m h ∙ sym (fourth (level_nodes m (suc h)) (level_nodes_some m h))

-- no level has more than 2 ^ 52
pub level_nodes_le : (m h : ℕ) → m < 2 ^ 64 → level_nodes m (suc h) ≤ 2 ^ 52
level_nodes_le m zero l = rw (level_nodes-one m) (omega arith)
level_nodes_le m (suc h) l = rw (level_nodes-suc m h) (omega (arith, level_nodes_le m h l))

-- a level has a node
pub first-node : (bits level : ℕ) → 0 < level → 0 < level_nodes bits level
first-node bits zero h = absurd (omega arith)
first-node bits (suc l) h = level_nodes_some bits l

-- ---- indices

pub leaf-index : (bits index : ℕ) → index < level_nodes bits 1 → block_bits * index ≤ bits
leaf-index bits index h = let g : index < blocks block_bits bits = rw (level_nodes-one bits) at h in omega arith

pub child_index : (bits level index : ℕ) → 1 < level → index < level_nodes bits level → 4 * index ≤ level_nodes bits (level - 1)
child_index bits zero index h i = absurd (omega arith)
child_index bits (suc zero) index h i = absurd (omega arith)
child_index bits (suc (suc l)) index h i =
    let g : index < blocks 4 (level_nodes bits (suc l)) = rw (level_nodes-suc bits l) at i in
    let e : suc (suc l) - 1 ≡ suc l = omega arith in
    rw e (omega (arith, level_nodes_some bits l))

-- an index of a level is below 2 ^ 56
pub node-index : (bits level index : ℕ) → bits < 2 ^ 64 → 0 < level → index < level_nodes bits level → index < 2 ^ 56
node-index bits zero index b h i = absurd (omega arith)
node-index bits (suc l) index b h i = omega (arith, level_nodes_le bits l b)

pub message-index : (bits index : ℕ) → index < sequential_nodes 0 bits → sequential_bits * index ≤ bits
unfolding sequential_nodes
message-index bits index h = omega arith

pub third-index : (limit bits index : ℕ) → 0 < limit → index < sequential_nodes limit bits → 3 * index ≤ level_nodes bits limit
unfolding sequential_nodes
third-index zero bits index h i = absurd (omega arith)
third-index (suc l) bits index h i = omega (arith, level_nodes_some bits l)

pub sequential-index : (limit bits index : ℕ) → bits < 2 ^ 64 → index < sequential_nodes limit bits → index < 2 ^ 56
unfolding sequential_nodes
sequential-index zero bits index b i = omega arith
sequential-index (suc l) bits index b i = omega (arith, level_nodes_le bits l b)

-- ---- padding bits

pub padding-leaf : (bits level index : ℕ) → level ≡ 1 → block_bits - taken block_bits bits index ≡ block_padding bits level index
unfolding block_padding
padding-leaf bits level index e = rw e

pub padding-above : (bits level index : ℕ) → 1 < level
    → output_bits * (4 - taken 4 (level_nodes bits (level - 1)) index) ≡ block_padding bits level index
unfolding block_padding
padding-above bits zero index h = absurd (omega arith)
padding-above bits (suc zero) index h = absurd (omega arith)
padding-above bits (suc (suc l)) index h = let e : suc (suc l) - 1 ≡ suc l = omega arith in rw e

pub padding-message : (limit bits index : ℕ) → limit ≡ 0 → sequential_bits - taken sequential_bits bits index ≡ sequential_padding limit bits index
unfolding sequential_padding
padding-message limit bits index e = rw e

pub padding_children : (limit bits index : ℕ) → (limit ≡ 0 → ⊥) → output_bits * (3 - taken 3 (level_nodes bits limit) index) ≡ sequential_padding limit bits index
unfolding sequential_padding
padding_children zero bits index h = absurd (h refl)
padding_children (suc l) bits index h = refl

-- ---- the root's level

-- it counts from 1
pub top_some : (m n level : ℕ) → level ≤ top_from m n level
unfolding top_from
top_some m zero level = omega arith
top_some m (suc n) level = go (eqb (level_nodes m level) 1) (top_some m n (suc level))
  where
    go : (b : Bool) → suc level ≤ top_from m n (suc level) → level ≤ cond b level (top_from m n (suc level))
    go true h = omega arith
    go false h = omega arith

pub top_start : (limit m : ℕ) → top_from m (limit + 1 - 1) 1 ≡ top_level limit m
top_start limit m =
    let e : limit + 1 - 1 ≡ limit = omega arith in
    rw e

pub top-more : (limit m level : ℕ) → level ≤ limit → (level_nodes m level ≡ 1 → ⊥)
    → top_from m (limit + 1 - level) level ≡ top_from m (limit + 1 - (level + 1)) (level + 1)
unfolding top_from
top-more limit m level g n =
    let e : limit + 1 - level ≡ suc (limit + 1 - (level + 1)) = omega arith in
    let s : level + 1 ≡ suc level = omega arith in
    rw (e, ne_eqb (level_nodes m level) 1 n, s)

pub top-past : (limit m level : ℕ) → limit < level → top_from m (limit + 1 - level) level ≡ level
unfolding top_from
top-past limit m level h =
    let e : limit + 1 - level ≡ 0 = omega arith in
    rw e

pub top_one : (limit m level : ℕ) → level ≤ limit → level_nodes m level ≡ 1 → top_from m (limit + 1 - level) level ≡ level
unfolding top_from
top_one limit m level g e =
    let k : limit + 1 - level ≡ suc (limit + 1 - (level + 1)) = omega arith in
    rw (k, eq-eqb (level_nodes m level) 1 e)

-- ---- at most 27 levels

four_pos : (k : ℕ) → 1 ≤ 4 ^ k
four_pos zero = omega arith
four_pos (suc k) = omega (arith, pow-succ' 4 k, four_pos k)

level_nodes_power : (m h k : ℕ) → m < 2 ^ 64 → h + k ≡ 26 → level_nodes m (suc h) ≤ 4 ^ k
level_nodes_power m zero k l e =
    let s : k ≡ 26 = omega arith in
    rw (level_nodes-one m, s) (omega arith)
level_nodes_power m (suc h) k l e =
    rw (level_nodes-suc m h) (omega (arith, level_nodes_power m h (suc k) l (omega arith), pow-succ' 4 k, four_pos k))

-- level 27 has one node only
not_top : (m level : ℕ) → m < 2 ^ 64 → level ≤ most_levels → (level_nodes m level ≡ 1 → ⊥) → level < most_levels
not_top m level l h n = go (eqb level most_levels) refl
  where
    go : (b : Bool) → eqb level most_levels ≡ b → level < most_levels
    go true e =
        let s : level ≡ 27 = eqb-true level 27 e in
        absurd (n (rw s (omega (arith, level_nodes_power m 26 0 l (omega arith), level_nodes_some m 26))))
    go false e = omega (arith, eqb-false level 27 e)

pub top-most : (m n level : ℕ) → m < 2 ^ 64 → 0 < level → level ≤ most_levels → top_from m n level ≤ most_levels
unfolding top_from
top-most m zero level l h g = g
top-most m (suc n) level l h g = go (eqb (level_nodes m level) 1) refl (top-most m n (suc level) l (omega arith))
  where
    go : (b : Bool) → eqb (level_nodes m level) 1 ≡ b → (suc level ≤ most_levels → top_from m n (suc level) ≤ most_levels)
        → cond b level (top_from m n (suc level)) ≤ most_levels
    go true e up = g
    go false e up = up (not_top m level l g (eqb-false (level_nodes m level) 1 e))
