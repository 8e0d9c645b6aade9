-- Laws: facts that let a reader trust the words of the collision theorem: places determine inputs, and "other than the root" and "the
-- same level and index" mean what they say. That the node at a level and an index has their U (`tree-u`), and that the root is
-- the last node of the last level (`root-place`, `root-at`), stands in Places of the crate `tree`.
use Rattle.std.specs.Prelude.{◌≡◌, refl, Bool, ◌≢◌, ◌⊎◌, List, [], ◌∷◌, ℕ, suc, ◌^◌, ◌<◌, length}
use Rattle.std.proofs.Common.{sym, ap, ◌∙◌, subst, subst₂, inl, inr, arith}
use Rattle.std.proofs.Math.Option.{some}
use Rattle.std.proofs.Math.ListN.{get_elem?}
use Rattle.lists.specs.Append.{cons_eq}
use Rattle.tree.specs.Tree.{Params, Valid, Node, tree, root, root_of}
use Rattle.tree.specs.Place.{level_at, node_at, RootAt}
use Rattle.tree.proofs.Places.{no-node, tree-place, levels-filled, root-at, root-place}
use Rattle.tree.specs.Vocabulary.{root_level, root_index}
use Rattle.collision.specs.Clash.{Clash}
use Rattle.collision.proofs.Descent.{descend}
use Rattle.collision.proofs.Collision.{same_params}

-- ---- equal inputs at every place mean equal trees

same-level : (ns ms : List Node) → ((i : ℕ) → get_elem? ns i ≡ get_elem? ms i) → ns ≡ ms
same-level [] [] f = refl
same-level [] (m ∷ ms) f = absurd (no-node m (f 0))
same-level (n ∷ ns) [] f = absurd (no-node n (sym (f 0)))
same-level (n ∷ ns) (m ∷ ms) f =
    let h : some n ≡ some m = f 0 in
    let e : n ≡ m = cc in
    cons_eq e (same-level ns ms (λ i. f (suc i)))

-- no level of the list is empty
abbrev Filled : List (List Node) → Type 0
Filled T = (l : ℕ) → l < length T → 0 < length (level_at T (suc l))

same-tree : (S T : List (List Node)) → Filled S → Filled T → ((l i : ℕ) → node_at S (suc l) i ≡ node_at T (suc l) i) → S ≡ T
same-tree [] [] p q f = refl
same-tree [] (ns ∷ T) p q f = absurd (omega (arith, q 0 (omega arith), ap length (same-level [] ns (λ i. f 0 i))))
same-tree (ns ∷ S) [] p q f = absurd (omega (arith, p 0 (omega arith), ap length (same-level ns [] (λ i. f 0 i))))
same-tree (ns ∷ S) (ms ∷ T) p q f =
    cons_eq (same-level ns ms (λ i. f 0 i)) (same-tree S T (λ l h. p (suc l) (omega arith)) (λ l h. q (suc l) (omega arith)) (λ l i. f (suc l) i))

filled : (P : Params) (M : List Bool) → Filled (tree P M)
filled P M l h = levels-filled P P.limit 1 M l h

-- the inputs at all places determine the parameters and the message
pub places_determine : (P Q : Params) (M N : List Bool) → Valid P → Valid Q
    → ((level index : ℕ) → node_at (tree P M) level index ≡ node_at (tree Q N) level index) → (P ≡ Q) × (M ≡ N)
places_determine P Q M N vP vQ f = (s, go (descend P P.limit 1 M N (e ∙ sym (ap (λ (X : Params). root X N) s))))
  where
    e : root P M ≡ root Q N
    e = ap root_of (same-tree (tree P M) (tree Q N) (filled P M) (filled Q N) (λ l i. f (suc l) i))

    s : P ≡ Q
    s = same_params P Q M N vP vQ e

    go : (M ≡ N) ⊎ Clash P.rounds P.rounds (tree P M) (tree P N) → M ≡ N
    go (inl m) = m
    go (inr c) =
        let h : node_at (tree Q N) c.level c.index ≡ some c.b = subst (λ (X : Params). node_at (tree X N) c.level c.index ≡ some c.b) s c.at_b in
        let g : some c.a ≡ some c.b = sym c.at_a ∙ f c.level c.index ∙ h in
        let same : c.a ≡ c.b = cc in
        absurd (c.differ same)

-- ---- the root

-- a node at any other place than the root's is not the root
pub other_than_root : (P : Params) (M : List Bool) (level index : ℕ) (a : Node) → length M < 2 ^ 64 → node_at (tree P M) level index ≡ some a
    → ¬ RootAt (tree P M) level index → a ≢ root P M
other_than_root P M level index a h e other f =
    let T : List (List Node) = tree P M in
    let r : RootAt T (root_level T) (root_index T) = root-at P M in
    let s = tree-place P M level index (root_level T) (root_index T) a (root P M) h e (root-place T (root_level T) (root_index T) r) (ap (λ (n : Node). n.u) f) in
    other (subst₂ (RootAt T) (sym s.0) (sym s.1) r)
