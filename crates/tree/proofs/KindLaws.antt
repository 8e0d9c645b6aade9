-- Laws: the levels up to L are parallel and level L + 1 is sequential; a limit of 27 or more leaves no sequential level; the nodes
-- of a sequential level are chained.
use Rattle.std.specs.Prelude.{◌≡◌, refl, Bool, true, false, List, ◌∷◌, ℕ, zero, suc, ◌+◌, ◌-◌, ◌*◌, ◌^◌, ◌≤◌, ◌<◌, eqb, length, take, replicate}
use Rattle.std.proofs.Common.{sym, ap, ◌∙◌, arith, eq-eqb, take_at}
use Rattle.std.proofs.Math.Option.{some}
use Rattle.std.proofs.Math.ListN.{get_elem?}
use Rattle.bits.specs.Bits.{digit, numbers}
use Rattle.bits.specs.BitsLaws.{digit_le, length-numbers}
use Rattle.tree.specs.Tree.{Params, Node, block_bits, sequential_bits, most_levels, words, node_v, output, blocks, padding, padded, no_chain, parallel, sequential, joined_outputs, levels, tree}
use Rattle.tree.specs.Place.{level_at, node_at}
use Rattle.tree.specs.Kind.{level_bits, IsParallel, IsSequential, NoSequential}
use Rattle.tree.proofs.TreeLaws.{blocks-hold, last_only, chain_at, chain_at-zero, length-parallel, length-sequential, seq-chain, sequential-at, parallel-at, above}
use Rattle.tree.proofs.Places.{index_below, level-below, levels-height}
use Rattle.tree.proofs.Height.{height}

some_inj : {a b : Node} → some a ≡ some b → a ≡ b
some_inj e = cc

last_only-last : (n j x : ℕ) → suc j ≡ n → last_only n j x ≡ x
last_only-last n j x e = rw (eq-eqb (suc j) n e)

pub first-chain : words 16 no_chain ≡ replicate 16 0
unfolding no_chain numbers
first-chain = refl

-- z is 1 at both, or 0 and 1; p is less where 3,072 bits are padded to
v_differs : (P : Params) (z p p' : ℕ) → z ≤ 1 → p' < p → p ≤ 4096 → node_v P z p ≡ node_v P 1 p' → ⊥
v_differs P zero p p' h g l e = omega arith
v_differs P (suc z) p p' h g l e = omega arith

-- ---- each level is parallel or sequential by its number

module _ (P : Params) where
  -- the bits that level l + 1 of the levels T over the bits M works on
  abbrev under : List (List Node) → List Bool → ℕ → List Bool
  under T M zero = M
  under T M (suc l) = joined_outputs P (level_at T (suc l))

  under-cons : (ns : List Node) (T : List (List Node)) (M : List Bool) (l : ℕ) → under T (joined_outputs P ns) l ≡ under (ns ∷ T) M (suc l)
  under-cons ns T M zero = refl
  under-cons ns T M (suc l) = refl

  -- a level over the bits X, which is the root if it has one node only
  abbrev whole : ℕ → List Bool → List Node
  whole level X = parallel P level (eqb (blocks block_bits (length X)) 1) X

  levels-parallel : (n level : ℕ) (M : List Bool) (l : ℕ) → l < n → l < length (levels P n level M)
      → level_at (levels P n level M) (suc l) ≡ whole (level + l) (under (levels P n level M) M l)
  levels-parallel zero level M l g h = absurd (omega arith)
  levels-parallel (suc n) level M l g h = go (eqb (blocks block_bits (length M)) 1) refl l g h (λ Y k. levels-parallel n (suc level) Y k)
    where
      go : (b : Bool) → eqb (blocks block_bits (length M)) 1 ≡ b → (l : ℕ) → l < suc n → l < length (above P n level b M)
          → ((Y : List Bool) (k : ℕ) → k < n → k < length (levels P n (suc level) Y)
          → level_at (levels P n (suc level) Y) (suc k) ≡ whole (suc level + k) (under (levels P n (suc level) Y) Y k))
          → level_at (above P n level b M) (suc l) ≡ whole (level + l) (under (above P n level b M) M l)
      go true e zero g h f = let s : level + 0 ≡ level = omega arith in rw (s, e)
      go true e (suc l) g h f = absurd (omega arith)
      go false e zero g h f = let s : level + 0 ≡ level = omega arith in rw (s, e)
      go false e (suc l) g h f =
          let ns : List Node = parallel P level false M in
          let T : List (List Node) = levels P n (suc level) (joined_outputs P ns) in
          let s : suc level + l ≡ level + suc l = omega arith in
          f (joined_outputs P ns) l (omega arith) (omega arith) ∙ ap (λ (k : ℕ). whole k (under T (joined_outputs P ns) l)) s ∙ ap (whole (level + suc l)) (under-cons ns T M l)

  levels-sequential : (n level : ℕ) (M : List Bool) → length (levels P n level M) ≡ suc n
      → level_at (levels P n level M) (suc n) ≡ sequential P (level + n) (under (levels P n level M) M n)
  levels-sequential zero level M h = let s : level + 0 ≡ level = omega arith in rw s
  levels-sequential (suc n) level M h = go (eqb (blocks block_bits (length M)) 1) h (λ Y. levels-sequential n (suc level) Y)
    where
      go : (b : Bool) → length (above P n level b M) ≡ suc (suc n)
          → ((Y : List Bool) → length (levels P n (suc level) Y) ≡ suc n
          → level_at (levels P n (suc level) Y) (suc n) ≡ sequential P (suc level + n) (under (levels P n (suc level) Y) Y n))
          → level_at (above P n level b M) (suc (suc n)) ≡ sequential P (level + suc n) (under (above P n level b M) M (suc n))
      go true h f = absurd (omega arith)
      go false h f =
          let ns : List Node = parallel P level false M in
          let T : List (List Node) = levels P n (suc level) (joined_outputs P ns) in
          let s : suc level + n ≡ level + suc n = omega arith in
          f (joined_outputs P ns) (omega arith) ∙ ap (λ (k : ℕ). sequential P k (under T (joined_outputs P ns) n)) s ∙ ap (sequential P (level + suc n)) (under-cons ns T M n)

  under-tree : (M : List Bool) (l : ℕ) → under (tree P M) M l ≡ level_bits P M (suc l)
  under-tree M zero = refl
  under-tree M (suc l) = refl

  -- "At a level up to L": it is parallel
  pub tree-parallel : (M : List Bool) (level : ℕ) → 1 ≤ level → level ≤ P.limit → level ≤ length (tree P M) → IsParallel P M level
  tree-parallel M zero o g h = absurd (omega arith)
  tree-parallel M (suc l) o g h =
      let s : 1 + l ≡ suc l = omega arith in
      levels-parallel P.limit 1 M l (omega arith) (omega arith) ∙ ap (λ (k : ℕ). whole k (under (tree P M) M l)) s ∙ ap (whole (suc l)) (under-tree M l)

  -- "At level L + 1": it is sequential
  pub tree-sequential : (M : List Bool) → length (tree P M) ≡ suc P.limit → IsSequential P M (suc P.limit)
  tree-sequential M h =
      let L : ℕ = P.limit in
      let s : 1 + L ≡ suc L = omega arith in
      levels-sequential L 1 M h ∙ ap (λ (k : ℕ). sequential P k (under (tree P M) M L)) s ∙ ap (sequential P (suc L)) (under-tree M L)

  -- and no level is both: the last node's z and p differ
  pub not-both : (M : List Bool) (level : ℕ) → IsParallel P M level → IsSequential P M level → ⊥
  not-both M level e f = differ (eqb (blocks block_bits (length X)) 1) (sym e ∙ f)
    where
      X : List Bool
      X = level_bits P M level

      differ : (b : Bool) → parallel P level b X ≡ sequential P level X → ⊥
      differ b e =
          let n : ℕ = blocks sequential_bits (length X) in
          let j : ℕ = n - 1 in
          let c : blocks block_bits (length X) ≡ n = sym (length-parallel P level b X) ∙ ap length e ∙ length-sequential P level X in
          let l : suc j ≡ n = omega arith in
          let s : get_elem? (parallel P level b X) j ≡ get_elem? (sequential P level X) j = ap (λ (ns : List Node). get_elem? ns j) e in
          let t = some_inj (sym (parallel-at P level b X j (omega arith)) ∙ s ∙ sequential-at P level X j (omega arith)) in
          let v : node_v P (digit b) (block_bits * suc j - length X) ≡ node_v P 1 (sequential_bits * suc j - length X) =
          ap (λ (m : Node). m.v) t ∙ ap (λ (z : ℕ). node_v P z (sequential_bits * suc j - length X)) (last_only-last n j 1 l) in
          v_differs P (digit b) (block_bits * suc j - length X) (sequential_bits * suc j - length X) (digit_le b)
          (omega (arith, blocks-hold sequential_bits (length X) (omega arith))) (omega arith) v

-- ---- a limit of 27 or more

-- such a limit leaves no sequential level
pub no-sequential : (P : Params) (M : List Bool) → length M < 2 ^ 64 → most_levels ≤ P.limit → NoSequential P M
no-sequential P M h g =
    let low : length (tree P M) ≤ P.limit = omega (arith, height P M h) in
    record {
      height = low;
      parallel = λ level o k. tree-parallel P M level o (omega arith) k;
      none = λ level o k. not-both P M level (tree-parallel P M level o (omega arith) k);
    }

-- ---- the nodes of a sequential level

module _ (P : Params) (M : List Bool) where
  -- the level's number, and the bits that its nodes take after the chained words
  abbrev top : ℕ
  top = suc P.limit

  abbrev input : List Bool
  input = padded sequential_bits (level_bits P M top)

  -- where there is a node of level L + 1, that level is sequential
  node_of : (j : ℕ) (a : Node) → node_at (tree P M) top j ≡ some a → get_elem? (sequential P top (level_bits P M top)) j ≡ some a
  node_of j a e =
      let h : length (tree P M) ≡ top = omega (arith, level-below (tree P M) P.limit j a e, levels-height P P.limit 1 M) in
      sym (ap (λ (ns : List Node). get_elem? ns j) (tree-sequential P M h)) ∙ e

  node-below : (j : ℕ) (a : Node) → node_at (tree P M) top j ≡ some a → j < blocks sequential_bits (length (level_bits P M top))
  node-below j a e =
      omega (arith, index_below (sequential P top (level_bits P M top)) j a (node_of j a e), length-sequential P top (level_bits P M top))

  -- the first 16 words of a block are the chain's
  chained : (j : ℕ) (a : Node) → node_at (tree P M) top j ≡ some a → take 16 a.block ≡ words 16 (chain_at P top 0 no_chain input j)
  chained j a e =
      let c : List ℕ = words 16 (chain_at P top 0 no_chain input j) in
      let t = some_inj (sym (sequential-at P top (level_bits P M top) j (node-below j a e)) ∙ node_of j a e) in
      sym (ap (λ (m : Node). take 16 m.block) t) ∙ take_at c _ 16 (length-numbers 64 16 (chain_at P top 0 no_chain input j))

  -- "node i takes the output of node i - 1": the first 16 words of its block are the words of that output
  pub sequential-chain : (j : ℕ) (a b : Node) → node_at (tree P M) (suc P.limit) j ≡ some a → node_at (tree P M) (suc P.limit) (suc j) ≡ some b
      → take 16 b.block ≡ words 16 (output P.rounds a)
  sequential-chain j a b e f =
      let X : List Bool = level_bits P M top in
      chained (suc j) b f
      ∙ ap (words 16) (seq-chain P top (padding sequential_bits (length X)) 0 no_chain (blocks sequential_bits (length X)) input j a (node-below (suc j) b f) (node_of j a e))

  -- "(16 zero words for the first)"
  pub sequential-first : (a : Node) → node_at (tree P M) (suc P.limit) 0 ≡ some a → take 16 a.block ≡ replicate 16 0
  sequential-first a e = chained 0 a e ∙ ap (words 16) (chain_at-zero P top 0 no_chain input) ∙ first-chain
