-- Laws: the words as the code leaves them: each level's outputs over those of the level below. They end with the outputs of the
-- highest nodes.
use Rattle.std.specs.Prelude.{◌≡◌, Bool, get_or, drop}
use Rattle.std.proofs.Math.Path.{refl}
use Rattle.std.proofs.Common.{ap, ◌∙◌, arith, length-append, length-drop, drop-drop}
use mathlib.Core.List.{List, [], ◌∷◌, ◌++◌, flatten, append_assoc}
use Prim.Native.Nat.{ℕ, zero, suc, ◌+◌, ◌*◌, ◌≤◌}
use Rattle.std.proofs.Math.ListN.{length}
use Rattle.std.proofs.Math.Seq.{drop-append-add}
use Rattle.lists.specs.Append.{cons_eq}
use Rattle.tree.specs.Tree.{Params, Node, tree, last_or, out_words}
use Rattle.tree.specs.Place.{level_at}
use Rattle.tree.proofs.Height.{Above, no-level, sequential-level, parallel-level, Levels, sequential-tree, parallel-tree, tree-levels}
use Rattle.tree.proofs.OutputLaws.{length-out_words}
use Rattle.layer.specs.Outputs.{level_outputs, outputs-append}
use Rattle.layer.specs.OverLaws.{over}
use Rattle.layers.specs.Layers.{nodes_at_index, highest_outputs, words_after}

abbrev pub laid : Params → List (List Node) → List ℕ → List ℕ
laid P [] ws = ws
laid P (ns ∷ above) ws = laid P above (over P ns ws)

-- ---- no level has more nodes than level 1

above-narrow : {n c : ℕ} {T : List (List Node)} → Above n c T → (k : ℕ) → length (get_or T k []) ≤ c
above-narrow no-level k = omega arith
above-narrow (sequential-level h) zero = omega (arith, h.needed)
above-narrow (sequential-level h) (suc k) = omega arith
above-narrow (parallel-level h a) zero = omega (arith, h.needed)
above-narrow (parallel-level h a) (suc k) = omega (arith, h.needed, above-narrow a k)

pub levels-narrow : (P : Params) (M : List Bool) (k : ℕ) → length (get_or (tree P M) k []) ≤ length (level_at (tree P M) 1)
levels-narrow P M = go (tree-levels P M)
  where
    go : {limit m : ℕ} {T : List (List Node)} → Levels limit m T → (k : ℕ) → length (get_or T k []) ≤ length (level_at T 1)
    go (sequential-tree h) zero = omega arith
    go (sequential-tree h) (suc k) = omega arith
    go (parallel-tree h a) zero = omega arith
    go (parallel-tree h a) (suc k) = above-narrow a k

module _ (P : Params) where
  -- ---- the outputs of a level

  outputs-drop : (k : ℕ) (ns : List Node) (rest : List ℕ) → k ≤ length ns
      → drop (16 * k) (level_outputs P ns ++ rest) ≡ level_outputs P (drop k ns) ++ rest
  unfolding flatten
  outputs-drop zero ns rest h = refl
  outputs-drop (suc k) [] rest h = absurd (omega arith)
  outputs-drop (suc k) (n ∷ ns) rest h =
      let e : 16 * suc k ≡ length (out_words P n) + 16 * k = omega (arith, length-out_words P n) in
      rw (e, append_assoc (out_words P n) (level_outputs P ns) rest)
      (drop-append-add (out_words P n) (level_outputs P ns ++ rest) (16 * k) ∙ outputs-drop k ns rest (omega arith))

  -- ---- level by level

  pub laid_snoc : (G : List (List Node)) (ns : List Node) (ws : List ℕ) → laid P (G ++ (ns ∷ [])) ws ≡ over P ns (laid P G ws)
  laid_snoc [] ns ws = refl
  laid_snoc (ms ∷ G) ns ws = laid_snoc G ns (over P ms ws)

  -- ---- the highest node of each index

  -- of the nodes of some indices, from one on, and those above them
  abbrev tops : List (List Node) → ℕ → List Node → List Node
  tops T i [] = []
  tops T i (n ∷ ns) = last_or n (nodes_at_index T i) ∷ tops T (suc i) ns

  tops_none : (i : ℕ) (ns : List Node) → tops [] i ns ≡ ns
  tops_none i [] = refl
  tops_none i (n ∷ ns) = ap (λ (l : List Node). n ∷ l) (tops_none (suc i) ns)

  -- the rest of a level from the next index on
  next : (i : ℕ) (ns rest : List Node) → drop i ns ≡ rest → drop (suc i) ns ≡ drop 1 rest
  next i ns rest e = let s : suc i ≡ i + 1 = omega arith in rw (s, ← drop-drop 1 i ns, e)

  -- a level laid over nodes
  tops-over : (ns : List Node) (T : List (List Node)) (i : ℕ) (rest ms : List Node) → drop i ns ≡ rest → length rest ≤ length ms
      → tops T i (rest ++ drop (length rest) ms) ≡ tops (ns ∷ T) i ms
  tops-over ns T i [] [] e h = refl
  tops-over ns T i (r ∷ rest) [] e h = absurd (omega arith)
  tops-over ns T i [] (m ∷ ms) e h = rw e (cons_eq refl (tops-over ns T (suc i) [] ms (next i ns [] e) (omega arith)))
  tops-over ns T i (r ∷ rest) (m ∷ ms) e h = rw e (cons_eq refl (tops-over ns T (suc i) rest ms (next i ns (r ∷ rest) e) (omega arith)))

  laid-tops : (T : List (List Node)) (ns : List Node) (rest : List ℕ) → ((k : ℕ) → length (get_or T k []) ≤ length ns)
      → laid P T (level_outputs P ns ++ rest) ≡ level_outputs P (tops T 0 ns) ++ rest
  laid-tops [] ns rest h = rw (tops_none 0 ns)
  laid-tops (ms ∷ T) ns rest h =
      let shown : List Node = ms ++ drop (length ms) ns in
      let size : length shown ≡ length ns = simp (length-append, length-drop) (omega (arith, h 0)) in
      let past : List Node = drop (length ms) ns in
      rw (outputs-drop (length ms) ns rest (h 0), ← append_assoc (level_outputs P ms) (level_outputs P past) rest, ← outputs-append P ms past)
      (laid-tops T shown rest (λ k. rw size (h (suc k))) ∙ rw (tops-over ms T 0 ms ns refl (h 0)))

  highest-tops : (ns : List Node) (T : List (List Node)) (i : ℕ) (rest : List Node) → drop i ns ≡ rest
      → highest_outputs P (ns ∷ T) i (length rest) ≡ level_outputs P (tops T i rest)
  unfolding flatten
  highest-tops ns T i [] e = refl
  highest-tops ns T i (r ∷ rest) e = rw (e, highest-tops ns T (suc i) rest (next i ns (r ∷ rest) e))

-- the words after the last level are those that the call is to leave
pub laid-highest : (P : Params) (M : List Bool) (words : List ℕ) → laid P (tree P M) words ≡ words_after P (tree P M) words
unfolding words_after
laid-highest P M words = go (tree P M) (levels-narrow P M)
  where
    go : (T : List (List Node)) → ((k : ℕ) → length (get_or T k []) ≤ length (level_at T 1)) → laid P T words ≡ words_after P T words
    go [] h = refl
    go (ns ∷ T) h = laid-tops P T ns (drop (16 * length ns) words) (λ k. h (suc k)) ∙ rw (highest-tops P ns T 0 ns refl)
