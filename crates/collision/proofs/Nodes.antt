-- Laws: nodes and lists of nodes compared: two lists whose joined outputs are equal are equal, or differ at some index in nodes with
-- the same output.
use Rattle.std.specs.Prelude.{◌≡◌, refl, ◌≢◌, ◌⊎◌, ℕ, suc, length}
use Rattle.std.proofs.Common.{ap, inl, inr, arith, length-append}
use Rattle.std.proofs.Math.Option.{some}
use mathlib.Core.List.{List, [], ◌∷◌, map, head-eq_of_cons-eq, tail-eq_of_cons-eq, flatten}
use Rattle.std.proofs.Math.Decide.{ℕ_discrete}
use Rattle.std.proofs.Math.ListN.{get_elem?}
use Rattle.lists.specs.Append.{cons_eq, append_split}
use Rattle.tree.specs.Tree.{Node, output}
use Rattle.tree.proofs.TreeLaws.{Sized, nil, cons}

-- whether two lists of words are equal, and whether two nodes have the same input, can be told; both compute
unfoldable pub words_discrete : Discrete (List ℕ)
words_discrete [] [] = yes refl
words_discrete [] (y ∷ ys) = no (λ e. let z : ◌≡◌ {A = ℕ} 0 1 = cc in omega arith)
words_discrete (x ∷ xs) [] = no (λ e. let z : ◌≡◌ {A = ℕ} 0 1 = cc in omega arith)
words_discrete (x ∷ xs) (y ∷ ys) = go (ℕ_discrete x y) (words_discrete xs ys)
  where
    go : Dec (x ≡ y) → Dec (xs ≡ ys) → Dec (x ∷ xs ≡ y ∷ ys)
    go (yes e) (yes f) = yes (cons_eq e f)
    go (yes e) (no f) = no (λ p. f (tail-eq_of_cons-eq p))
    go (no e) f = no (λ p. e (head-eq_of_cons-eq p))

unfoldable pub Node_discrete : Discrete Node
Node_discrete a b =
    go
    (words_discrete a.k b.k)
    (ℕ_discrete a.u b.u)
    (ℕ_discrete a.v b.v)
    (words_discrete a.block b.block)
  where
    go : Dec (a.k ≡ b.k) → Dec (a.u ≡ b.u) → Dec (a.v ≡ b.v) → Dec (a.block ≡ b.block) → Dec (a ≡ b)
    go (yes e) (yes f) (yes g) (yes h) = yes (λ i. record { k = e i; u = f i; v = g i; block = h i })
    go (yes e) (yes f) (yes g) (no h) = no (λ p. h (ap (λ (n : Node). n.block) p))
    go (yes e) (yes f) (no g) h = no (λ p. g (ap (λ (n : Node). n.v) p))
    go (yes e) (no f) g h = no (λ p. f (ap (λ (n : Node). n.u) p))
    go (no e) f g h = no (λ p. e (ap (λ (n : Node). n.k) p))

-- two lists of nodes differ at an index, in nodes with the same output of r rounds
pub record Apart (r : ℕ) (xs ys : List Node) : Type 0 where
  pub index : ℕ
  pub a : Node
  pub b : Node
  pub in_x : get_elem? xs index ≡ some a
  pub in_y : get_elem? ys index ≡ some b
  pub differ : a ≢ b
  pub same : output r a ≡ output r b

-- they do so with a node more before each
abbrev pub later : {r : ℕ} {xs ys : List Node} (a b : Node) → Apart r xs ys → Apart r (a ∷ xs) (b ∷ ys)
later a b w = record { index = suc w.index; a = w.a; b = w.b; in_x = w.in_x; in_y = w.in_y; differ = w.differ; same = w.same }

unfoldable pub same-outputs : {r : ℕ} {xs ys : List Node} → Sized r xs → Sized r ys → flatten (map (output r) xs) ≡ flatten (map (output r) ys)
    → (xs ≡ ys) ⊎ Apart r xs ys
unfolding flatten
same-outputs nil nil e = inl refl
same-outputs {r} nil (cons {a = b} {ns = ys} hb q) e = absurd (omega (arith, simp length-append at (ap length e)))
same-outputs {r} (cons {a = a} {ns = xs} ha p) nil e = absurd (omega (arith, simp length-append at (ap length e)))
same-outputs {r} (cons {a = a} {ns = xs} ha p) (cons {a = b} {ns = ys} hb q) e =
    let s = append_split (output r a) (output r b) _ _ (cc) e in
    go (Node_discrete a b) s.0 (same-outputs p q s.1)
  where
    go : Dec (a ≡ b) → output r a ≡ output r b → (xs ≡ ys) ⊎ Apart r xs ys → (a ∷ xs ≡ b ∷ ys) ⊎ Apart r (a ∷ xs) (b ∷ ys)
    go (yes f) o (inl g) = inl (cons_eq f g)
    go (yes f) o (inr w) = inr (later a b w)
    go (no f) o w = inr (record { index = 0; a = a; b = b; in_x = refl; in_y = refl; differ = f; same = o })
