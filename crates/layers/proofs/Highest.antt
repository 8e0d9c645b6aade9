-- Laws: what the lent words hold when the call ends. Document 02, M-100: "The words used end with, 16 for each index, the output of the
-- highest node of that index; those past them stay as they were."
use Rattle.std.specs.Prelude.{◌≡◌, refl, ◌⊎◌, ◌≢◌, Bool, true, false, eqb, leb, get_or, take, drop}
use Rattle.std.proofs.Common.{sym, ap, ◌∙◌, inl, inr, eqb-true, leb-true, leb-false, length-append, length-drop, take_at}
use Rattle.std.proofs.Math.Option.{Option, none, some}
use mathlib.Core.List.{List, [], ◌∷◌, ◌++◌, append_assoc}
use Prim.Native.Nat.{ℕ, zero, suc, ◌+◌, ◌*◌, ◌≤◌, ◌<◌}
use native.Mathlib.Omega.{arith}
use Rattle.std.proofs.lemmas.Bool.{eqb-false}
use Rattle.std.proofs.Math.ListN.{length, get_elem?, get_or-eq_default}
use Rattle.std.proofs.Math.Seq.{drop_at, drop-append-add}
use Rattle.tree.specs.Tree.{Params, Node, block_bits, blocks, parallel, joined_outputs, levels, tree, last_or, no_node, root, out_words}
use Rattle.tree.specs.Place.{level_at, node_at}
use Rattle.tree.proofs.TreeLaws.{length-parallel, levels_some, levels-one, levels-more}
use Rattle.tree.proofs.Places.{no-node, index_below, levels-height, root-place, root-at, tree-u}
use Rattle.tree.specs.Vocabulary.{root_level, root_index}
use Rattle.tree.proofs.OutputLaws.{length-out_words}
use Rattle.layers.specs.Layers.{words_used, nodes_at_index, highest_node, highest_outputs, words_after}
use Rattle.layers.proofs.Laid.{levels-narrow}

-- ---- the highest node of an index

no-nodes : (T : List (List Node)) (i : ℕ) → ((k : ℕ) → get_elem? (get_or T k []) i ≡ none) → nodes_at_index T i ≡ []
no-nodes [] i h = refl
no-nodes (ns ∷ T) i h = rw (past ns i (h 0)) (no-nodes T i (λ k. h (suc k)))
  where
    past : (ns : List Node) (i : ℕ) → get_elem? ns i ≡ none → take 1 (drop i ns) ≡ []
    past [] zero e = refl
    past [] (suc i) e = refl
    past (n ∷ ns) zero e = absurd (no-node n (sym e))
    past (n ∷ ns) (suc i) e = past ns i e

highest-last : (T : List (List Node)) (l i : ℕ) (n x : Node) → get_elem? (get_or T l []) i ≡ some n
    → ((k : ℕ) → l < k → get_elem? (get_or T k []) i ≡ none) → last_or x (nodes_at_index T i) ≡ n
highest-last [] l i n x e h = absurd (no-node n e)
highest-last (ns ∷ T) zero i n x e h = rw (here ns i e, no-nodes T i (λ k. h (suc k) (omega arith)))
  where
    here : (ns : List Node) (i : ℕ) → get_elem? ns i ≡ some n → take 1 (drop i ns) ≡ n ∷ []
    here [] i e = absurd (no-node n e)
    here (m ∷ ns) zero e = let s : m ≡ n = cc in rw s
    here (m ∷ ns) (suc i) e = here ns i e
highest-last (ns ∷ T) (suc l) i n x e h = over (drop i ns) (λ y. highest-last T l i n y e (λ k g. h (suc k) (omega arith)))
  where
    over : (rest : List Node) → ((y : Node) → last_or y (nodes_at_index T i) ≡ n) → last_or x (take 1 rest ++ nodes_at_index T i) ≡ n
    over [] up = up x
    over (m ∷ rest) up = up m

-- ---- every index has one

at-index : (ns : List Node) (i : ℕ) → i < length ns → (n : Node) × (get_elem? ns i ≡ some n)
at-index [] i h = absurd (omega arith)
at-index (n ∷ ns) zero h = (n, refl)
at-index (n ∷ ns) (suc i) h = at-index ns i (omega arith)

-- the highest of the levels T that has an index, counted from 0
abbrev Top : List (List Node) → ℕ → Type 0
Top T i = (l : ℕ) × (n : Node) × (get_elem? (get_or T l []) i ≡ some n) × ((k : ℕ) → l < k → get_elem? (get_or T k []) i ≡ none)

top-or_none : (T : List (List Node)) (i : ℕ) → ((k : ℕ) → get_elem? (get_or T k []) i ≡ none) ⊎ Top T i
top-or_none [] i = inl (λ k. refl)
top-or_none (ns ∷ T) i = go (get_elem? ns i) refl (top-or_none T i)
  where
    all : get_elem? ns i ≡ none → ((k : ℕ) → get_elem? (get_or T k []) i ≡ none) → (k : ℕ) → get_elem? (get_or (ns ∷ T) k []) i ≡ none
    all e h zero = e
    all e h (suc k) = h k

    past : (l : ℕ) → ((k : ℕ) → l ≤ k → get_elem? (get_or T k []) i ≡ none) → (k : ℕ) → l < k → get_elem? (get_or (ns ∷ T) k []) i ≡ none
    past l h zero g = absurd (omega arith)
    past l h (suc k) g = h k (omega arith)

    go : (o : Option Node) → get_elem? ns i ≡ o → ((k : ℕ) → get_elem? (get_or T k []) i ≡ none) ⊎ Top T i
        → ((k : ℕ) → get_elem? (get_or (ns ∷ T) k []) i ≡ none) ⊎ Top (ns ∷ T) i
    go o e (inr (l, n, f, h)) = inr (suc l, n, f, past (suc l) (λ k g. h k (omega arith)))
    go none e (inl h) = inl (all e h)
    go (some n) e (inl h) = inr (0, n, e, past 0 (λ k g. h k))

-- so `highest-words`, below, says what all used words hold
pub every-index : (P : Params) (M : List Bool) (index : ℕ) → index < length (level_at (tree P M) 1)
    → (level : ℕ) × (n : Node) × (node_at (tree P M) level index ≡ some n) × ((k : ℕ) → level < k → node_at (tree P M) k index ≡ none)
every-index P M index b = go (tree P M) b (top-or_none ([] ∷ tree P M) index)
  where
    go : (T : List (List Node)) → index < length (level_at T 1) → ((k : ℕ) → node_at T k index ≡ none) ⊎ Top ([] ∷ T) index
        → Top ([] ∷ T) index
    go T b (inl h) = let a = at-index (level_at T 1) index b in absurd (no-node a.0 (sym (h 1) ∙ a.1))
    go T b (inr t) = t

-- ---- the root's level

-- a level that is not the sequential one and has none above it has one node only
alone : (P : Params) (n level : ℕ) (M : List Bool) → length (levels P n level M) ≤ n
    → length (level_at (levels P n level M) (length (levels P n level M))) ≡ 1
alone P zero level M h = absurd (omega arith)
alone P (suc n) level M h = go (eqb (blocks block_bits (length M)) 1) refl (λ X few. alone P n (suc level) X few)
  where
    last : (ns : List Node) (T : List (List Node)) → 0 < length T → level_at (ns ∷ T) (length (ns ∷ T)) ≡ level_at T (length T)
    last ns [] g = absurd (omega arith)
    last ns (ms ∷ T) g = refl

    go : (b : Bool) → eqb (blocks block_bits (length M)) 1 ≡ b
        → ((X : List Bool) → length (levels P n (suc level) X) ≤ n
        → length (level_at (levels P n (suc level) X) (length (levels P n (suc level) X))) ≡ 1)
        → length (level_at (levels P (suc n) level M) (length (levels P (suc n) level M))) ≡ 1
    go true e up =
        let one = eqb-true (blocks block_bits (length M)) 1 e in
        rw (levels-one P n level M one) (length-parallel P level true M ∙ one)
    go false e up =
        let ns : List Node = parallel P level false M in
        let T : List (List Node) = levels P n (suc level) (joined_outputs P ns) in
        let more = levels-more P n level M (omega (arith, eqb-false (blocks block_bits (length M)) 1 e)) in
        let few : length T ≤ n = omega (arith, ap length more) in
        rw more (ap length (last ns T (levels_some P n (suc level) (joined_outputs P ns))) ∙ up (joined_outputs P ns) few)

-- a root in a parallel level has index 0
pub root-parallel : (P : Params) (M : List Bool) → root_level (tree P M) ≤ P.limit → root_index (tree P M) ≡ 0
root-parallel P M h = omega (arith, alone P P.limit 1 M h)

-- so a root of an index above 0 stands in the sequential level, L + 1
pub root-sequential : (P : Params) (M : List Bool) → 0 < root_index (tree P M) → root_level (tree P M) ≡ suc P.limit
root-sequential P M h = go (leb (root_level (tree P M)) P.limit) refl
  where
    go : (b : Bool) → leb (root_level (tree P M)) P.limit ≡ b → root_level (tree P M) ≡ suc P.limit
    go true e = absurd (omega (arith, root-parallel P M (leb-true (root_level (tree P M)) P.limit e)))
    go false e = omega (arith, leb-false (root_level (tree P M)) P.limit e, levels-height P P.limit 1 M)

-- ---- the words

module _ (P : Params) where
  length-highest : (T : List (List Node)) (i n : ℕ) → length (highest_outputs P T i n) ≡ 16 * n
  length-highest T i zero = refl
  length-highest T i (suc n) =
      length-append (out_words P (highest_node T i)) (highest_outputs P T (suc i) n)
      ∙ omega (arith, length-out_words P (highest_node T i), length-highest T (suc i) n)

  -- the output of an index
  highest-at : (T : List (List Node)) (from n i : ℕ) (rest : List ℕ) → i < n
      → take 16 (drop (16 * i) (highest_outputs P T from n ++ rest)) ≡ out_words P (highest_node T (from + i))
  highest-at T from zero i rest h = absurd (omega arith)
  highest-at T from (suc n) zero rest h =
      let s : from + 0 ≡ from = omega arith in
      rw (append_assoc (out_words P (highest_node T from)) (highest_outputs P T (suc from) n) rest, s)
      (take_at (out_words P (highest_node T from)) (highest_outputs P T (suc from) n ++ rest) 16 (length-out_words P (highest_node T from)))
  highest-at T from (suc n) (suc i) rest h =
      let one : List ℕ = out_words P (highest_node T from) in
      let others : List ℕ = highest_outputs P T (suc from) n ++ rest in
      let s : 16 * suc i ≡ length one + 16 * i = omega (arith, length-out_words P (highest_node T from)) in
      let t : suc from + i ≡ from + suc i = omega arith in
      rw (append_assoc one (highest_outputs P T (suc from) n) rest, s, drop-append-add one others (16 * i), ← t)
      (highest-at T (suc from) n i rest (omega arith))

  module _ (M : List Bool) (words : List ℕ) where
    -- "16 for each index, the output of the highest node of that index": a node above which no level has that index
    pub highest-words : (level index : ℕ) (n : Node) → node_at (tree P M) level index ≡ some n
        → ((k : ℕ) → level < k → node_at (tree P M) k index ≡ none)
        → take 16 (drop (16 * index) (words_after P (tree P M) words)) ≡ out_words P n
    unfolding words_after
    highest-words zero index n e h = absurd (no-node n e)
    highest-words (suc l) index n e h =
        let s : 0 + index ≡ index = omega arith in
        let b : index < length (level_at (tree P M) 1) =
        omega (arith, index_below (level_at (tree P M) (suc l)) index n e, levels-narrow P M l) in
        highest-at (tree P M) 0 (length (level_at (tree P M) 1)) index (drop (words_used (tree P M)) words) b
        ∙ rw (s, highest-last (tree P M) l index n no_node e (λ k g. h (suc k) (omega arith)))

    -- no level stands above the last: all its outputs stand in the words
    pub last-level : (index : ℕ) (n : Node) → node_at (tree P M) (root_level (tree P M)) index ≡ some n
        → take 16 (drop (16 * index) (words_after P (tree P M) words)) ≡ out_words P n
    last-level index n e = highest-words (root_level (tree P M)) index n e (λ k. above (tree P M) k)
      where
        above : (U : List (List Node)) (k : ℕ) → length U < k → node_at U k index ≡ none
        above U k h = rw (get_or-eq_default ([] ∷ U) [] {n = k} (omega arith))

    root-there : node_at (tree P M) (root_level (tree P M)) (root_index (tree P M)) ≡ some (root P M)
    root-there = root-place (tree P M) (root_level (tree P M)) (root_index (tree P M)) (root-at P M)

    -- so the root's output stands at the root's index
    pub root-words : take 16 (drop (16 * root_index (tree P M)) (words_after P (tree P M) words)) ≡ out_words P (root P M)
    root-words = last-level (root_index (tree P M)) (root P M) root-there

    -- if the tree has no level L + 1, that is index 0
    pub root-first : root_level (tree P M) ≤ P.limit
        → (root_index (tree P M) ≡ 0) × (take 16 (words_after P (tree P M) words) ≡ out_words P (root P M))
    root-first h = let z = root-parallel P M h in (z, rw z at root-words)

    -- in a sequential level the root is the last, and index 0 ends with the output of the first: where the root has an index above 0,
    -- its level is the sequential one (`root-sequential`), whose first node is not the root
    pub sequential-words : 0 < root_index (tree P M)
        → (n : Node) × (node_at (tree P M) (root_level (tree P M)) 0 ≡ some n) × (n.u ≢ (root P M).u)
        × (take 16 (words_after P (tree P M) words) ≡ out_words P n)
    sequential-words h =
        let f = at-index (level_at (tree P M) (root_level (tree P M))) 0 (omega arith) in
        (f.0, f.1, other f.0 f.1, last-level 0 f.0 f.1)
      where
        other : (n : Node) → node_at (tree P M) (root_level (tree P M)) 0 ≡ some n → n.u ≢ (root P M).u
        other n e d =
            let T : List (List Node) = tree P M in
            omega (arith, tree-u P M (root_level T) 0 n e, tree-u P M (root_level T) (root_index T) (root P M) root-there)

    -- "those past them stay as they were"
    pub past_words : drop (words_used (tree P M)) (words_after P (tree P M) words) ≡ drop (words_used (tree P M)) words
    unfolding words_after
    past_words =
        let T : List (List Node) = tree P M in
        let n : ℕ = length (level_at T 1) in
        drop_at (highest_outputs P T 0 n) (drop (words_used T) words) (words_used T) (length-highest T 0 n)

    -- and they stay as many
    pub length-words_after : words_used (tree P M) ≤ length words → length (words_after P (tree P M) words) ≡ length words
    unfolding words_after
    length-words_after h = simp (length-append, length-highest (tree P M) 0 (length (level_at (tree P M) 1)), length-drop) (omega arith)
