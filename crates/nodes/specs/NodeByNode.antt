-- Laws: the value worked out node by node is the output of the node at that place of the levels.
use Rattle.std.specs.Prelude.{◌≡◌, true, cond, eqb, ltb, take, drop, replicate}
use Rattle.std.proofs.Math.Path.{refl, sym, ap}
use Rattle.std.proofs.Common.{◌∙◌, length-append, length-drop}
use Rattle.std.proofs.Math.Bool.{Bool, false}
use Rattle.std.proofs.Math.Option.{Option, some}
use mathlib.Core.List.{List, [], ◌∷◌, ◌++◌, map, flatten}
use Prim.Native.Nat.{ℕ, zero, suc, ◌+◌, ◌-◌, ◌*◌, ◌^◌, ◌≤◌, ◌<◌}
use native.Mathlib.Omega.{arith}
use borrow.Author.Tests.{eqb-true, eqb-false, lt-ltb, le-ltb, ne_eqb}
use Rattle.std.proofs.Math.ListN.{length, get_elem?}
use Rattle.std.proofs.lemmas.List.{length-replicate}
use Rattle.lists.specs.Below.{Below}
use Rattle.lists.specs.BelowLaws.{below-append, below-zeros}
use Rattle.bits.specs.Bits.{digit, bits_of, numbers}
use Rattle.bits.specs.BitsLaws.{length-bits_of, bits_of-append, bits_of-zeros, bits_of-take, bits_of-drop, numbers-take, numbers-exact, length-numbers}
use Rattle.tree.specs.Tree.{Params, Node, words, node, output, blocks, padding, padded, no_chain, parallel, sequential, joined_outputs, levels, tree, root_of, root, block_bits, sequential_bits, output_bits}
use Rattle.tree.specs.Place.{node_at}
use Rattle.tree.proofs.TreeLaws.{above, last_only, chain_at, chain_at-zero, chain_at-suc, length-parallel, length-sequential, length-joined-parallel, parallel-at, sequential-at, levels-one, levels-more, levels_some, root_of-cons, length-seq_block}
use Rattle.tree.proofs.Places.{no-node, index_below, root-place}
use Rattle.tree.proofs.Count.{level_nodes, level_nodes-one, level_nodes_some}
use Rattle.node.specs.Words.{node_words}
use Rattle.shape.specs.Shape.{taken, sequential_nodes, sequential_padding, top_from}
use Rattle.nodes.specs.Value.{message_part, joined_values, child_words, value, level_values, sequential_words, chain, last_chained, value_at, root_value}
use Rattle.shape.specs.ShapeLaws.{level_nodes-outputs}
use Rattle.nodes.specs.ValueLaws.{pad_part, joined-zero, joined-cons, length-joined_values, below-joined_values, joined-part, value-one, value-suc, length-value, below-value, chain-zero, chain-suc, length-chain, below_chain}
use Rattle.node.specs.WordLaws.{output-words}

-- ---- the words of a block

-- a block of n words cut out of padded bits
pub part-words : (n size p : ℕ) (X : List Bool) (j : ℕ) → n * 64 ≡ size → size * j ≤ length X → size * j + size ≤ length X + p
    → words n (drop (size * j) (X ++ replicate p false)) ≡ words n (message_part size X j)
part-words n size p X j e h g =
    let B : List Bool = drop (size * j) (X ++ replicate p false) in
    let l : n * 64 ≤ length B = simp (length-drop, length-append, length-replicate) (omega arith) in
    numbers-take 64 n B l ∙ ap (λ (k : ℕ). numbers 64 n (take k B)) e ∙ ap (numbers 64 n) (pad_part size (size * j) p X false h g)

-- a block of q values of nodes below
child_part : (f : ℕ → List ℕ) (q c i : ℕ) → ((j : ℕ) → length (f j) ≡ 16) → ((j : ℕ) → Below (2 ^ 64) (f j)) → q * i ≤ c
    → words (16 * q) (message_part (1024 * q) (bits_of 64 (joined_values f 0 c)) i) ≡ child_words f q (q * i) (taken q c i)
child_part f q c i len low h =
    let W : List ℕ = joined_values f 0 c in
    let n : ℕ = taken q c i in
    let lW : length W ≡ 16 * c = length-joined_values f 0 c len in
    let lB : length (bits_of 64 W) ≡ 1024 * c = length-bits_of 64 W ∙ omega arith in
    let a : 1024 * q * i ≡ 16 * (q * i) * 64 = omega arith in
    let b : 1024 * q ≡ 16 * q * 64 = omega arith in
    let p : 1024 * q - taken (1024 * q) (length (bits_of 64 W)) i ≡ 16 * (q - n) * 64 = rw lB (omega arith) in
    let d : drop (1024 * q * i) (bits_of 64 W) ≡ bits_of 64 (drop (16 * (q * i)) W) =
    ap (λ (k : ℕ). drop k (bits_of 64 W)) a ∙ bits_of-drop 64 (16 * (q * i)) W in
    let t : take (1024 * q) (drop (1024 * q * i) (bits_of 64 W)) ≡ bits_of 64 (joined_values f (q * i) n) =
    ap (take (1024 * q)) d
    ∙ ap (λ (k : ℕ). take k (bits_of 64 (drop (16 * (q * i)) W))) b
    ∙ bits_of-take 64 (16 * q) (drop (16 * (q * i)) W)
    ∙ ap (bits_of 64) (joined-part f q c i len h) in
    let B : List ℕ = child_words f q (q * i) n in
    let s : message_part (1024 * q) (bits_of 64 W) i ≡ bits_of 64 B =
    rw (t, p, ← bits_of-zeros 64 (16 * (q - n))) (sym (bits_of-append 64 (joined_values f (q * i) n) (replicate (16 * (q - n)) 0))) in
    let lJ : length (joined_values f (q * i) n) ≡ 16 * n = length-joined_values f (q * i) n len in
    let l : length B ≡ 16 * q = simp (length-append, length-replicate) (omega arith) in
    let w : Below (2 ^ 64) B =
    below-append (below-joined_values f (q * i) n low) (below-zeros (2 ^ 64) (16 * (q - n)) (omega arith)) in
    let r : numbers 64 (16 * q) (bits_of 64 B) ≡ B = numbers-exact 64 (16 * q) w l in
    ap (numbers 64 (16 * q)) s ∙ r

-- ---- the bits that a level works on

-- the bits of level h + 1, below which every level has more than one node
unfoldable pub inputs : Params → List Bool → ℕ → List Bool
inputs P M zero = M
inputs P M (suc h) = joined_outputs P (parallel P (suc h) false (inputs P M h))

inputs-suc : (P : Params) (M : List Bool) (h : ℕ) → inputs P M (suc h) ≡ joined_outputs P (parallel P (suc h) false (inputs P M h))
unfolding inputs
inputs-suc P M h = refl

inputs-zero : (P : Params) (M : List Bool) → inputs P M 0 ≡ M
unfolding inputs
inputs-zero P M = refl

-- the outputs of a list of nodes, joined, from the values of each
joined-outputs : (g : Node → List Bool) (f : ℕ → List ℕ) (ns : List Node) (a : ℕ)
    → ((j : ℕ) (n : Node) → get_elem? ns j ≡ some n → g n ≡ bits_of 64 (f (a + j)))
    → flatten (map g ns) ≡ bits_of 64 (joined_values f a (length ns))
unfolding flatten
joined-outputs g f [] a h = rw (joined-zero f a)
joined-outputs g f (n ∷ ns) a h =
    let z : a + 0 ≡ a = omega arith in
    let e : g n ≡ bits_of 64 (f a) = rw z at (h 0 n refl) in
    let r = joined-outputs g f ns (suc a) (λ j k q. h (suc j) k q ∙ ap (λ (x : ℕ). bits_of 64 (f x)) (omega arith)) in
    rw (e, r, joined-cons f a (length ns)) (sym (bits_of-append 64 (f a) (joined_values f (suc a) (length ns))))

output-same : (P : Params) (level index z p q : ℕ) (block words : List ℕ) → length block ≡ 64 → p ≡ q → block ≡ words
    → output P.rounds (node P level index z p block) ≡ bits_of 64 (node_words P level index z q words)
output-same P level index z p q block words h e w = output-words P level index z p block h ∙ rw (e, w)

same-node : (a b : Node) → ◌≡◌ {A = Option Node} (some a) (some b) → a ≡ b
same-node a b e = cc

module _ (P : Params) (M : List Bool) where
  blocks-inputs : (h : ℕ) → blocks block_bits (length (inputs P M h)) ≡ level_nodes (length M) (suc h)
  unfolding inputs
  blocks-inputs zero = sym (level_nodes-one (length M))
  blocks-inputs (suc h) =
      rw (length-joined-parallel P (suc h) false (inputs P M h), blocks-inputs h) (sym (level_nodes-outputs (length M) h))

  length-inputs : (h : ℕ) → length (inputs P M (suc h)) ≡ output_bits * level_nodes (length M) (suc h)
  unfolding inputs
  length-inputs h = length-joined-parallel P (suc h) false (inputs P M h) ∙ ap (λ (n : ℕ). output_bits * n) (blocks-inputs h)

  -- node j over the bits of level h + 1, with any z
  abbrev level_node : ℕ → ℕ → ℕ → Node
  level_node h j z =
      node P (suc h) j z (block_bits * suc j - length (inputs P M h)) (words 64 (drop (block_bits * j) (padded block_bits (inputs P M h))))

  abbrev NodeValues : ℕ → Type 0
  NodeValues h = (j z : ℕ) → j < level_nodes (length M) (suc h) → output P.rounds (level_node h j z) ≡ bits_of 64 (value P M (suc h) j z)

  -- the bits of the level above
  inputs-above : (h : ℕ) → NodeValues h
      → inputs P M (suc h) ≡ bits_of 64 (joined_values (level_values P M (suc h)) 0 (level_nodes (length M) (suc h)))
  unfolding inputs
  inputs-above h f =
      let X : List Bool = inputs P M h in
      let ns : List Node = parallel P (suc h) false X in
      let l : length ns ≡ level_nodes (length M) (suc h) = length-parallel P (suc h) false X ∙ blocks-inputs h in
      joined-outputs (output P.rounds) (level_values P M (suc h)) ns 0
      (λ j n e.
      let b : j < length ns = index_below ns j n e in
      let at = parallel-at P (suc h) false X j (omega (arith, length-parallel P (suc h) false X)) in
      let s : level_node h j 0 ≡ n = same-node (level_node h j 0) n (sym at ∙ e) in
      let z : 0 + j ≡ j = omega arith in
      ap (output P.rounds) (sym s) ∙ f j 0 (omega arith) ∙ ap (λ (x : ℕ). bits_of 64 (value P M (suc h) x 0)) (sym z))
      ∙ ap (λ (n : ℕ). bits_of 64 (joined_values (level_values P M (suc h)) 0 n)) l

  -- the words that node j of the next level cuts out of those bits, where a node takes q children
  children_words : (h q j : ℕ) → NodeValues h
      → (let c : ℕ = level_nodes (length M) (suc h) in
      let size : ℕ = output_bits * q in
      let p : ℕ = padding size (output_bits * c) in
      size * j ≤ output_bits * c → size * j + size ≤ output_bits * c + p → q * j ≤ c
      → words (16 * q) (drop (size * j) (padded size (inputs P M (suc h)))) ≡ child_words (level_values P M (suc h)) q (q * j) (taken q c j))
  children_words h q j values inside enough below =
      let X : List Bool = inputs P M (suc h) in
      let l : length X ≡ output_bits * level_nodes (length M) (suc h) = length-inputs h in
      part-words (16 * q) (output_bits * q) (padding (output_bits * q) (length X)) X j (omega arith) (rw l inside) (rw l enough)
      ∙ ap (λ (Y : List Bool). words (16 * q) (message_part (output_bits * q) Y j)) (inputs-above h values)
      ∙ child_part (level_values P M (suc h)) q _ j (λ k. length-value P M h k 0) (λ k. below-value P M h k 0) below

  -- node j at level h + 1 has the value that is worked out for it
  node-values : (h : ℕ) → NodeValues h
  unfolding inputs
  node-values zero j z i =
      let b : j < blocks block_bits (length M) = rw (level_nodes-one (length M)) at i in
      let e : block_bits * suc j - length M ≡ block_bits - taken block_bits (length M) j = omega arith in
      let w = part-words 64 block_bits (padding block_bits (length M)) M j refl (omega arith) (omega arith) in
      output-same P 1 j z _ _ _ _ (length-numbers 64 64 _) e w ∙ ap (bits_of 64) (sym (value-one P M j z))
  node-values (suc h) j z i =
      let c : ℕ = level_nodes (length M) (suc h) in
      let b : j < blocks block_bits (output_bits * c) = rw (level_nodes-outputs (length M) h) at i in
      let some-c : 1 ≤ c = level_nodes_some (length M) h in
      let e : block_bits * suc j - length (inputs P M (suc h)) ≡ output_bits * (4 - taken 4 c j) = rw (length-inputs h) (omega arith) in
      let w = children_words h 4 j (node-values h) (omega arith) (omega arith) (omega arith) in
      output-same P (suc (suc h)) j z _ _ _ _ (length-numbers 64 64 _) e w ∙ ap (bits_of 64) (sym (value-suc P M h j z))

  -- ---- the sequential level

  sequential-nodes : (l : ℕ) → sequential_nodes l (length M) ≡ blocks sequential_bits (length (inputs P M l))
  unfolding sequential_nodes inputs
  sequential-nodes zero = refl
  sequential-nodes (suc h) = ap (blocks sequential_bits) (sym (length-inputs h))

  -- its bits, cut and padded, are the words that each node takes beside the chain
  sequential-part : (l j : ℕ) → j < sequential_nodes l (length M)
      → (sequential_bits * suc j - length (inputs P M l) ≡ sequential_padding l (length M) j)
      × (words 48 (drop (sequential_bits * j) (padded sequential_bits (inputs P M l))) ≡ sequential_words P l M j)
      × (suc j < sequential_nodes l (length M) → sequential_padding l (length M) j ≡ 0)
  unfolding inputs sequential_nodes sequential_padding sequential_words
  sequential-part zero j i =
      (omega arith, part-words 48 sequential_bits (padding sequential_bits (length M)) M j refl (omega arith) (omega arith), λ q. omega arith)
  sequential-part (suc h) j i =
      let c : ℕ = level_nodes (length M) (suc h) in
      let some-c : 1 ≤ c = level_nodes_some (length M) h in
      let e : sequential_bits * suc j - length (inputs P M (suc h)) ≡ output_bits * (3 - taken 3 c j) = rw (length-inputs h) (omega arith) in
      (e, children_words h 3 j (node-values h) (omega arith) (omega arith) (omega arith), λ q. omega arith)

  module _ (l : ℕ) where
    abbrev sequential_input : List Bool
    sequential_input = padded sequential_bits (inputs P M l)

    last-flag : (n j : ℕ) → last_only n j 1 ≡ digit (eqb (suc j) n)
    last-flag n j = go (eqb (suc j) n)
      where
        go : (b : Bool) → cond b 1 0 ≡ digit b
        go true = refl
        go false = refl

    chain-value : (j : ℕ) → words 16 (bits_of 64 (chain P l M j)) ≡ chain P l M j
    chain-value j = numbers-exact 64 16 (below_chain P M l j) (length-chain P M l j)

    -- the chain before node j
    chain-values : (j : ℕ) → j < sequential_nodes l (length M) → chain_at P (suc l) 0 no_chain sequential_input j ≡ bits_of 64 (chain P l M j)
    unfolding no_chain
    chain-values zero i = chain_at-zero P (suc l) 0 no_chain sequential_input ∙ rw (chain-zero P M l) (sym (bits_of-zeros 64 16))
    chain-values (suc j) i =
        let s = sequential-part l j (omega arith) in
        let z : 0 + j ≡ j = omega arith in
        let o : digit (eqb (suc j) (sequential_nodes l (length M))) ≡ 0 =
        rw (ne_eqb (suc j) (sequential_nodes l (length M)) (λ e. omega arith)) refl in
        let c : words 16 (chain_at P (suc l) 0 no_chain sequential_input j) ≡ chain P l M j =
        ap (words 16) (chain-values j (omega arith)) ∙ chain-value j in
        let B : List ℕ = words 16 (chain_at P (suc l) 0 no_chain sequential_input j) ++ words 48 (drop (sequential_bits * j) sequential_input) in
        let g : B ≡ chain P l M j ++ sequential_words P l M j = rw (c, s.1) in
        let v : chain P l M (suc j) ≡ node_words P (suc l) j 0 0 (chain P l M j ++ sequential_words P l M j) =
        chain-suc P M l j ∙ rw (o, s.2 i) in
        chain_at-suc P (suc l) 0 no_chain sequential_input j
        ∙ rw z (output-same P (suc l) j 0 0 0 B _ (length-seq_block P _ _) refl g)
        ∙ ap (bits_of 64) (sym v)

    sequential-values : (j : ℕ) (a : Node) → get_elem? (sequential P (suc l) (inputs P M l)) j ≡ some a
        → output P.rounds a ≡ bits_of 64 (chain P l M (suc j))
    sequential-values j a e =
        let X : List Bool = inputs P M l in
        let b : j < blocks sequential_bits (length X) =
        omega (arith, index_below (sequential P (suc l) X) j a e, length-sequential P (suc l) X) in
        let n : sequential_nodes l (length M) ≡ blocks sequential_bits (length X) = sequential-nodes l in
        let s = sequential-part l j (omega arith) in
        let at = sequential-at P (suc l) X j b in
        let f : last_only (blocks sequential_bits (length X)) j 1 ≡ digit (eqb (suc j) (sequential_nodes l (length M))) =
        last-flag (blocks sequential_bits (length X)) j ∙ ap (λ (k : ℕ). digit (eqb (suc j) k)) (sym n) in
        let c : words 16 (chain_at P (suc l) 0 no_chain sequential_input j) ≡ chain P l M j =
        ap (words 16) (chain-values j (omega arith)) ∙ chain-value j in
        let g : words 16 (chain_at P (suc l) 0 no_chain sequential_input j) ++ words 48 (drop (sequential_bits * j) sequential_input)
        ≡ chain P l M j ++ sequential_words P l M j =
        rw (c, s.1) in
        ap (output P.rounds) (sym (same-node _ a (sym at ∙ e)))
        ∙ rw f (output-same P (suc l) j (digit (eqb (suc j) (sequential_nodes l (length M)))) _ _ _ _ (length-seq_block P _ _) s.0 g)
        ∙ ap (bits_of 64) (sym (chain-suc P M l j))

  -- ---- the levels

  -- a place of a parallel level, whether or not it is the last
  parallel-values : (h : ℕ) (alone : Bool) (i : ℕ) (a : Node) → get_elem? (parallel P (suc h) alone (inputs P M h)) i ≡ some a
      → output P.rounds a ≡ bits_of 64 (value P M (suc h) i (digit alone))
  parallel-values h alone i a e =
      let X : List Bool = inputs P M h in
      let b : i < blocks block_bits (length X) =
      omega (arith, index_below (parallel P (suc h) alone X) i a e, length-parallel P (suc h) alone X) in
      let s : level_node h i (digit alone) ≡ a = same-node _ a (sym (parallel-at P (suc h) alone X i b) ∙ e) in
      ap (output P.rounds) (sym s) ∙ node-values h i (digit alone) (omega (arith, blocks-inputs h))

  value-parallel : (level index : ℕ) (alone : Bool) → level ≤ P.limit → eqb (level_nodes (length M) level) 1 ≡ alone
      → value_at P P.limit M level index ≡ value P M level index (digit alone)
  unfolding value_at
  value-parallel level index alone h e = rw (le-ltb P.limit level h, e)

  value-sequential : (index : ℕ) → value_at P P.limit M (suc P.limit) index ≡ chain P P.limit M (suc index)
  unfolding value_at
  value-sequential index = rw (lt-ltb P.limit (suc P.limit) (omega arith))

  -- whether a level has one node
  flag : (h : ℕ) (b : Bool) → eqb (blocks block_bits (length (inputs P M h))) 1 ≡ b → eqb (level_nodes (length M) (suc h)) 1 ≡ b
  flag h b q = rw (← (blocks-inputs h)) q

  -- the levels from h + 1 up, of which n may be parallel
  levels-values : (n h : ℕ) → h + n ≡ P.limit → (k i : ℕ) (a : Node) → node_at (levels P n (suc h) (inputs P M h)) (suc k) i ≡ some a
      → output P.rounds a ≡ bits_of 64 (value_at P P.limit M (suc h + k) i)
  levels-values zero h t zero i a e =
      let s : h ≡ P.limit = omega arith in
      let z : suc P.limit + 0 ≡ suc P.limit = omega arith in
      let w : get_elem? (sequential P (suc P.limit) (inputs P M P.limit)) i ≡ some a = rw s at e in
      sequential-values P.limit i a w ∙ rw (s, z, value-sequential i)
  levels-values zero h t (suc k) i a e = absurd (no-node a e)
  levels-values (suc n) h t k i a e = go (eqb (blocks block_bits (length (inputs P M h))) 1) refl k e (levels-values n (suc h) (omega arith))
    where
      X : List Bool
      X = inputs P M h

      first : (b : Bool) → eqb (blocks block_bits (length (inputs P M h))) 1 ≡ b → get_elem? (parallel P (suc h) b (inputs P M h)) i ≡ some a
          → output P.rounds a ≡ bits_of 64 (value_at P P.limit M (suc h + 0) i)
      first b q w =
          let z : suc h + 0 ≡ suc h = omega arith in
          parallel-values h b i a w ∙ rw (z, value-parallel (suc h) i b (omega arith) (flag h b q))

      go : (b : Bool) → eqb (blocks block_bits (length (inputs P M h))) 1 ≡ b
          → (k : ℕ) → node_at (above P n (suc h) b (inputs P M h)) (suc k) i ≡ some a
          → ((k i : ℕ) (a : Node) → node_at (levels P n (suc (suc h)) (inputs P M (suc h))) (suc k) i ≡ some a
          → output P.rounds a ≡ bits_of 64 (value_at P P.limit M (suc (suc h) + k) i))
          → output P.rounds a ≡ bits_of 64 (value_at P P.limit M (suc h + k) i)
      go true q zero w up = first true q w
      go true q (suc k) w up = absurd (no-node a w)
      go false q zero w up = first false q w
      go false q (suc k) w up =
          let z : suc h + suc k ≡ suc (suc h) + k = omega arith in
          rw z (up k i a (rw (inputs-suc P M h) w))

  -- the root, with its level
  abbrev root_from : ℕ → List ℕ
  root_from top =
      cond (ltb P.limit top) (last_chained P P.limit M) (value P M top 0 1)

  abbrev RootValue : ℕ → ℕ → Type 0
  RootValue n h =
      output P.rounds (root_of (levels P n (suc h) (inputs P M h))) ≡ bits_of 64 (root_from (top_from (length M) n (suc h)))

  levels-root : (n h : ℕ) → h + n ≡ P.limit → RootValue n h
  unfolding top_from
  levels-root zero h t =
      let s : h ≡ P.limit = omega arith in
      rw (s, lt-ltb P.limit (suc P.limit) (omega arith))
      (last_of (sequential_nodes P.limit (length M)) (sequential-nodes P.limit))
    where
      S : List Node
      S = sequential P (suc P.limit) (inputs P M P.limit)

      last_of : (n : ℕ) → n ≡ blocks sequential_bits (length (inputs P M P.limit))
          → output P.rounds (root_of (sequential P (suc P.limit) (inputs P M P.limit) ∷ [])) ≡ bits_of 64 (chain P P.limit M n)
      last_of zero e = absurd (omega arith)
      last_of (suc j) e =
          sequential-values P.limit j (root_of (S ∷ []))
          (root-place (S ∷ []) 1 j (refl, e ∙ sym (length-sequential P (suc P.limit) (inputs P M P.limit))))
  levels-root (suc n) h t = go (eqb (blocks block_bits (length (inputs P M h))) 1) refl (levels-root n (suc h) (omega arith))
    where
      go : (b : Bool) → eqb (blocks block_bits (length (inputs P M h))) 1 ≡ b → RootValue n (suc h) → RootValue (suc n) h
      go true q up =
          let N : List Node = parallel P (suc h) true (inputs P M h) in
          let one : blocks block_bits (length (inputs P M h)) ≡ 1 = eqb-true _ 1 q in
          let l : length N ≡ 1 = length-parallel P (suc h) true (inputs P M h) ∙ one in
          rw (levels-one P n (suc h) (inputs P M h) one, flag h true q, le-ltb P.limit (suc h) (omega arith))
          (parallel-values h true 0 (root_of (N ∷ [])) (root-place (N ∷ []) 1 0 (refl, sym l)))
      go false q up =
          let more : 1 < blocks block_bits (length (inputs P M h)) =
          omega (arith, eqb-false (blocks block_bits (length (inputs P M h))) 1 q) in
          let Y : List Bool = joined_outputs P (parallel P (suc h) false (inputs P M h)) in
          let T : List (List Node) = levels P n (suc (suc h)) Y in
          let root : root_of (parallel P (suc h) false (inputs P M h) ∷ T) ≡ root_of T =
          root_of-cons (parallel P (suc h) false (inputs P M h)) T (levels_some P n (suc (suc h)) Y) in
          rw (levels-more P n (suc h) (inputs P M h) more, flag h false q, root)
          (rw (inputs-suc P M h) at up)

  -- the theorem: the node at a place of the levels has as output the bits of the value worked out for that place
  node-by-node : (level index : ℕ) (a : Node) → node_at (tree P M) level index ≡ some a
      → output P.rounds a ≡ bits_of 64 (value_at P P.limit M level index)
  node-by-node zero index a e = absurd (no-node a e)
  node-by-node (suc k) index a e =
      let z : 1 + k ≡ suc k = omega arith in
      rw z at (levels-values P.limit 0 (omega arith) k index a (rw (inputs-zero P M) e))

  -- and the root's output is the root's value
  pub root-by-node : output P.rounds (root P M) ≡ bits_of 64 (root_value P P.limit M)
  unfolding root_value
  root-by-node = rw (inputs-zero P M) at (levels-root P.limit 0 (omega arith))

  -- a value is read back from its bits
  value-exact : (h index : ℕ) → words 16 (bits_of 64 (value_at P P.limit M (suc h) index)) ≡ value_at P P.limit M (suc h) index
  unfolding value_at
  value-exact h index = go (ltb P.limit (suc h))
    where
      z : ℕ
      z = digit (eqb (level_nodes (length M) (suc h)) 1)

      go : (b : Bool)
          → (let v : List ℕ = cond b (chain P P.limit M (suc index)) (value P M (suc h) index z) in words 16 (bits_of 64 v) ≡ v)
      go true = chain-value P.limit (suc index)
      go false = numbers-exact 64 16 (below-value P M h index z) (length-value P M h index z)

  -- so the words that the next level reads from that output are the value itself
  pub node-words : (level index : ℕ) (a : Node) → node_at (tree P M) level index ≡ some a
      → words 16 (output P.rounds a) ≡ value_at P P.limit M level index
  node-words zero index a e = absurd (no-node a e)
  node-words (suc h) index a e = ap (words 16) (node-by-node (suc h) index a e) ∙ value-exact h index
