-- Laws: from equal roots down: the levels of two messages, made with the same parameters, either come from the same bits or have a
-- clash below the root.
use Rattle.std.specs.Prelude.{◌≡◌, refl, Bool, true, false, ◌⊎◌, List, [], ◌∷◌, ℕ, zero, suc, eqb, length}
use Rattle.std.proofs.Common.{sym, ap, ◌∙◌, inl, inr, arith, eqb-true}
use Rattle.std.proofs.Math.Option.{some}
use Rattle.tree.specs.Tree.{Params, Node, words, node, blocks, padding, padded, par, parallel, sequential, joined_outputs, levels, root_of}
use Rattle.tree.specs.Place.{node_at, RootAt}
use Rattle.tree.proofs.TreeLaws.{above, levels_some, root_of-cons, parallel-sized}
use Rattle.tree.proofs.Places.{root-stands-levels}
use Rattle.collision.specs.Clash.{Clash}
use Rattle.collision.proofs.Nodes.{Apart, same-outputs}
use Rattle.collision.proofs.OneLevel.{parallel_inj, Earlier, sequential_walk}

-- what is not the root's place of the levels above is not that of the whole
pub below_root : (ns : List Node) (S : List (List Node)) (l i : ℕ) → ¬ RootAt S (suc l) i → ¬ RootAt (ns ∷ S) (suc (suc l)) i
below_root ns S l i p h = p (omega arith, h.1)

module _ (P : Params) where
  abbrev pub Found : List (List Node) → List (List Node) → Type 0
  Found S T = Clash P.rounds P.rounds S T

  -- a clash of the levels above is one level higher in the whole
  unfoldable pub higher : (ns ms : List Node) (S T : List (List Node)) → Found S T → Found (ns ∷ S) (ms ∷ T)
  higher ns ms S T w = go w.level w.at_a w.at_b w.other_a w.other_b
    where
      go : (l : ℕ) → node_at S l w.index ≡ some w.a → node_at T l w.index ≡ some w.b → ¬ RootAt S l w.index → ¬ RootAt T l w.index
          → Found (ns ∷ S) (ms ∷ T)
      go zero f g p q = absurd (let z : ◌≡◌ {A = ℕ} 0 1 = cc in omega arith)
      go (suc l) f g p q = record {
        level = suc (suc l);
        index = w.index;
        a = w.a;
        b = w.b;
        at_a = f;
        at_b = g;
        other_a = below_root ns S l w.index p;
        other_b = below_root ms T l w.index q;
        differ = w.differ;
        same = w.same;
      }

  -- the node of a level that has one node only
  pub alone-level : (level : ℕ) (M : List Bool) → eqb (blocks 4096 (length M)) 1 ≡ true
      → parallel P level true M ≡ node P level 0 1 (padding 4096 (length M)) (words 64 (padded 4096 M)) ∷ []
  alone-level level M e =
      ap (λ (n : ℕ). par P level 1 (padding 4096 (length M)) 0 n (padded 4096 M)) (eqb-true (blocks 4096 (length M)) 1 e)

  pub alone-root : (level : ℕ) (M : List Bool) → eqb (blocks 4096 (length M)) 1 ≡ true
      → root_of (parallel P level true M ∷ []) ≡ node P level 0 1 (padding 4096 (length M)) (words 64 (padded 4096 M))
  alone-root level M e = ap (λ (ns : List Node). root_of (ns ∷ [])) (alone-level level M e)

  -- roots of different levels have different U
  pub not-both : (n level : ℕ) (M N : List Bool) → eqb (blocks 4096 (length M)) 1 ≡ true
      → root_of (above P n level true M) ≡ root_of (above P n level false N) → ⊥
  not-both n level M N ex e =
      let Z : List Bool = joined_outputs P (parallel P level false N) in
      let t = root-stands-levels P n (suc level) Z in
      let s = root_of-cons (parallel P level false N) (levels P n (suc level) Z) (levels_some P n (suc level) Z) in
      let u = ap (λ (a : Node). a.u) (sym (alone-root level M ex) ∙ e ∙ s ∙ t.is) in
      omega arith

  unfoldable pub step : (n level : ℕ) (M N : List Bool)
      → ((Y Z : List Bool) → root_of (levels P n (suc level) Y) ≡ root_of (levels P n (suc level) Z)
      → (Y ≡ Z) ⊎ Found (levels P n (suc level) Y) (levels P n (suc level) Z))
      → (x y : Bool) → eqb (blocks 4096 (length M)) 1 ≡ x → eqb (blocks 4096 (length N)) 1 ≡ y
      → root_of (above P n level x M) ≡ root_of (above P n level y N) → (M ≡ N) ⊎ Found (above P n level x M) (above P n level y N)
  step n level M N rec true true ex ey e =
      let same = sym (alone-root level M ex) ∙ e ∙ alone-root level N ey in
      inl (parallel_inj P level true M N (alone-level level M ex ∙ ap (λ (a : Node). a ∷ []) same ∙ sym (alone-level level N ey)))
  step n level M N rec true false ex ey e = absurd (not-both n level M N ex e)
  step n level M N rec false true ex ey e = absurd (not-both n level N M ey (sym e))
  step n level M N rec false false ex ey e =
      go (rec Y Z (sym (root_of-cons ns S (levels_some P n (suc level) Y)) ∙ e ∙ root_of-cons ms T (levels_some P n (suc level) Z)))
    where
      ns : List Node
      ns = parallel P level false M

      ms : List Node
      ms = parallel P level false N

      Y : List Bool
      Y = joined_outputs P ns

      Z : List Bool
      Z = joined_outputs P ms

      S : List (List Node)
      S = levels P n (suc level) Y

      T : List (List Node)
      T = levels P n (suc level) Z

      here : (ns ≡ ms) ⊎ Apart P.rounds ns ms → (M ≡ N) ⊎ Found (ns ∷ S) (ms ∷ T)
      here (inl f) = inl (parallel_inj P level false M N f)
      here (inr w) = inr (record {
        level = 1;
        index = w.index;
        a = w.a;
        b = w.b;
        at_a = w.in_x;
        at_b = w.in_y;
        other_a = omega (arith, levels_some P n (suc level) Y);
        other_b = omega (arith, levels_some P n (suc level) Z);
        differ = w.differ;
        same = w.same;
      })

      go : (Y ≡ Z) ⊎ Found S T → (M ≡ N) ⊎ Found (ns ∷ S) (ms ∷ T)
      go (inl f) = here (same-outputs (parallel-sized P level false M) (parallel-sized P level false N) f)
      go (inr w) = inr (higher ns ms S T w)

  unfoldable pub descend : (n level : ℕ) (M N : List Bool) → root_of (levels P n level M) ≡ root_of (levels P n level N)
      → (M ≡ N) ⊎ Clash P.rounds P.rounds (levels P n level M) (levels P n level N)
  descend zero level M N e = go (sequential_walk P level M N e)
    where
      go : (M ≡ N) ⊎ Earlier P (sequential P level M) (sequential P level N)
          → (M ≡ N) ⊎ Clash P.rounds P.rounds (sequential P level M ∷ []) (sequential P level N ∷ [])
      go (inl f) = inl f
      go (inr w) = inr (record {
        level = 1;
        index = w.place.index;
        a = w.place.a;
        b = w.place.b;
        at_a = w.place.in_x;
        at_b = w.place.in_y;
        other_a = omega (arith, w.low_x);
        other_b = omega (arith, w.low_y);
        differ = w.place.differ;
        same = w.place.same;
      })
  descend (suc n) level M N e = step n level M N (λ Y Z. descend n (suc level) Y Z) _ _ refl refl e
