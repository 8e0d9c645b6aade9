-- Laws: a level determines the bits that it was made of: a parallel level by its nodes; the sequential level by its last node alone,
-- or an earlier node of it has different inputs and the same output.
use Rattle.std.specs.Prelude.{◌≡◌, refl, Bool, false, ◌⊎◌, ℕ, zero, suc, ◌+◌, ◌*◌, ◌≤◌, ◌<◌, length, take, drop, replicate}
use Rattle.std.proofs.Common.{ap, inl, inr, arith, length-drop, take-append-drop, take_all}
use mathlib.Core.List.{List, ◌∷◌, ◌++◌, append_cancel_right, head-eq_of_cons-eq, tail-eq_of_cons-eq}
use Rattle.lists.specs.Append.{append_split}
use Rattle.bits.specs.Bits.{digit}
use Rattle.bits.specs.BitsLaws.{length-numbers, numbers_inj}
use Rattle.tree.specs.Tree.{Params, Node, words, node_u, node, output, blocks, padding, padded, par, seq, no_chain, parallel, sequential, last_or, no_node}
use Rattle.tree.proofs.TreeLaws.{length-padded, length-no_chain, length-par, length-seq, length-output-node, length-seq_block}
use Rattle.collision.proofs.Nodes.{Node_discrete, Apart, later}

-- bits are what they were before padding, if they got as many padding bits
pub unpad : (size : ℕ) (M N : List Bool) → padding size (length M) ≡ padding size (length N) → padded size M ≡ padded size N → M ≡ N
unpad size M N e f = append_cancel_right M N (replicate (padding size (length N)) false) (rw e at f)

module _ (P : Params) where
  par_inj : (level z p p' i n n' : ℕ) (X X' : List Bool) → n ≡ n' → 0 < n → length X ≡ 4096 * n → length X' ≡ 4096 * n'
      → par P level z p i n X ≡ par P level z p' i n' X' → (p ≡ p') × (X ≡ X')
  par_inj level z p p' i zero n' X X' en h l l' e = absurd (omega arith)
  par_inj level z p p' i (suc n) zero X X' en h l l' e = absurd (omega arith)
  par_inj level z p p' i (suc zero) (suc (suc n')) X X' en h l l' e = absurd (omega arith)
  par_inj level z p p' i (suc (suc n)) (suc zero) X X' en h l l' e = absurd (omega arith)
  par_inj level z p p' i (suc zero) (suc zero) X X' en h l l' e =
      let v = ap (λ (a : Node). a.v) (head-eq_of_cons-eq e) in
      let t = numbers_inj 64 64 X X' (omega arith) (omega arith) (ap (λ (a : Node). a.block) (head-eq_of_cons-eq e)) in
      (omega arith, cc (take_all 4096 X (omega arith), take_all 4096 X' (omega arith)))
  par_inj level z p p' i (suc (suc n)) (suc (suc n')) X X' en h l l' e =
      let t = numbers_inj 64 64 X X' (omega arith) (omega arith) (ap (λ (a : Node). a.block) (head-eq_of_cons-eq e)) in
      let s =
      par_inj level z p p' (suc i) (suc n) (suc n') (drop 4096 X) (drop 4096 X') (omega arith) (omega arith)
      (simp length-drop (omega arith)) (simp length-drop (omega arith)) (tail-eq_of_cons-eq e)
      in
      (s.0, cc (take-append-drop 4096 X, take-append-drop 4096 X'))

  pub parallel_inj : (level : ℕ) (alone : Bool) (M N : List Bool) → parallel P level alone M ≡ parallel P level alone N → M ≡ N
  parallel_inj level alone M N e =
      let s =
      par_inj level (digit alone) (padding 4096 (length M)) (padding 4096 (length N)) 0
      (blocks 4096 (length M)) (blocks 4096 (length N)) (padded 4096 M) (padded 4096 N)
      (simp length-par at (ap length e)) (omega arith) (length-padded 4096 M (omega arith)) (length-padded 4096 N (omega arith)) e
      in
      unpad 4096 M N s.0 s.1

  -- ---- the sequential level

  abbrev pub seq_block : List Bool → List Bool → List ℕ
  seq_block c X = words 16 c ++ words 48 X

  pub seq_block_inj : (c c' X X' : List Bool) → length c ≡ 1024 → length c' ≡ 1024 → 3072 ≤ length X → 3072 ≤ length X' → seq_block c X ≡ seq_block c' X'
      → (c ≡ c') × (take 3072 X ≡ take 3072 X')
  seq_block_inj c c' X X' h h' l l' e =
      let s = append_split (words 16 c) (words 16 c') (words 48 X) (words 48 X') (simp length-numbers) e in
      let t = numbers_inj 64 16 c c' (omega arith) (omega arith) s.0 in
      (cc (take_all 1024 c (omega arith), take_all 1024 c' (omega arith)), numbers_inj 64 48 X X' l l' s.1)

  -- the U of the last of n nodes
  pub last-u : (level p i : ℕ) (c : List Bool) (n : ℕ) (X : List Bool) (o : Node) → (last_or o (seq P level p i c (suc n) X)).u ≡ node_u level (i + n)
  last-u level p i c zero X o = omega arith
  last-u level p i c (suc n) X o =
      let a : Node = node P level i 0 0 (seq_block c X) in
      omega (arith, last-u level p (suc i) (output P.rounds a) n (drop 3072 X) a)

  -- two lists of nodes differ in nodes with the same output, before the last of each
  pub record Earlier (xs ys : List Node) : Type 0 where
    pub place : Apart P.rounds xs ys
    pub low_x : suc place.index < length xs
    pub low_y : suc place.index < length ys

  unfoldable pub seq_walk : (level p p' i : ℕ) (c c' : List Bool) (n n' : ℕ) (X X' : List Bool) (o o' : Node) → 0 < n → 0 < n'
      → length c ≡ 1024 → length c' ≡ 1024 → length X ≡ 3072 * n → length X' ≡ 3072 * n'
      → last_or o (seq P level p i c n X) ≡ last_or o' (seq P level p' i c' n' X')
      → ((p ≡ p') × (c ≡ c') × (X ≡ X')) ⊎ Earlier (seq P level p i c n X) (seq P level p' i c' n' X')
  seq_walk level p p' i c c' zero n' X X' o o' h h' hc hc' l l' e = absurd (omega arith)
  seq_walk level p p' i c c' (suc n) zero X X' o o' h h' hc hc' l l' e = absurd (omega arith)
  seq_walk level p p' i c c' (suc zero) (suc zero) X X' o o' h h' hc hc' l l' e =
      let v = ap (λ (a : Node). a.v) e in
      let s = seq_block_inj c c' X X' hc hc' (omega arith) (omega arith) (ap (λ (a : Node). a.block) e) in
      inl (omega arith, s.0, cc (s.1, take_all 3072 X (omega arith), take_all 3072 X' (omega arith)))
  seq_walk level p p' i c c' (suc zero) (suc (suc n')) X X' o o' h h' hc hc' l l' e =
      absurd (omega (arith, ap (λ (a : Node). a.u) e, last-u level p' i c' (suc n') X' o'))
  seq_walk level p p' i c c' (suc (suc n)) (suc zero) X X' o o' h h' hc hc' l l' e =
      absurd (omega (arith, ap (λ (a : Node). a.u) e, last-u level p i c (suc n) X o))
  seq_walk level p p' i c c' (suc (suc n)) (suc (suc n')) X X' o o' h h' hc hc' l l' e =
      go (seq_walk level p p' (suc i) (output P.rounds a) (output P.rounds a') (suc n) (suc n') (drop 3072 X) (drop 3072 X') a a'
      (omega arith) (omega arith)
      (length-output-node P P.rounds level i 0 0 (seq_block c X) (length-seq_block P c X))
      (length-output-node P P.rounds level i 0 0 (seq_block c' X') (length-seq_block P c' X'))
      (simp length-drop (omega arith)) (simp length-drop (omega arith)) e)
      (Node_discrete a a')
    where
      a : Node
      a = node P level i 0 0 (seq_block c X)

      a' : Node
      a' = node P level i 0 0 (seq_block c' X')

      ns : List Node
      ns = seq P level p (suc i) (output P.rounds a) (suc n) (drop 3072 X)

      ns' : List Node
      ns' = seq P level p' (suc i) (output P.rounds a') (suc n') (drop 3072 X')

      go : ((p ≡ p') × (output P.rounds a ≡ output P.rounds a') × (drop 3072 X ≡ drop 3072 X')) ⊎ Earlier ns ns' → Dec (a ≡ a')
          → ((p ≡ p') × (c ≡ c') × (X ≡ X')) ⊎ Earlier (a ∷ ns) (a' ∷ ns')
      go (inr w) f = inr (record { place = later a a' w.place; low_x = omega arith; low_y = omega arith })
      go (inl t) (yes f) =
          let s = seq_block_inj c c' X X' hc hc' (omega arith) (omega arith) (ap (λ (a : Node). a.block) f) in
          inl (t.0, s.0, cc (s.1, t.2, take-append-drop 3072 X, take-append-drop 3072 X'))
      go (inl t) (no f) = inr (record {
        place = record { index = 0; a = a; b = a'; in_x = refl; in_y = refl; differ = f; same = t.1 };
        low_x = omega (arith, length-seq P level p (suc i) (output P.rounds a) (suc n) (drop 3072 X));
        low_y = omega (arith, length-seq P level p' (suc i) (output P.rounds a') (suc n') (drop 3072 X'));
      })

  -- the last node of the sequential level determines the bits M, or an earlier node has different inputs and the same output
  unfoldable pub sequential_walk : (level : ℕ) (M N : List Bool) → last_or no_node (sequential P level M) ≡ last_or no_node (sequential P level N)
      → (M ≡ N) ⊎ Earlier (sequential P level M) (sequential P level N)
  sequential_walk level M N e =
      go (seq_walk level (padding 3072 (length M)) (padding 3072 (length N)) 0 no_chain no_chain
      (blocks 3072 (length M)) (blocks 3072 (length N)) (padded 3072 M) (padded 3072 N) no_node no_node
      (omega arith) (omega arith) length-no_chain length-no_chain (length-padded 3072 M (omega arith)) (length-padded 3072 N (omega arith)) e)
    where
      go : ((padding 3072 (length M) ≡ padding 3072 (length N)) × (no_chain ≡ no_chain) × (padded 3072 M ≡ padded 3072 N))
          ⊎ Earlier (sequential P level M) (sequential P level N)
          → (M ≡ N) ⊎ Earlier (sequential P level M) (sequential P level N)
      go (inl t) = inl (unpad 3072 M N t.0 t.2)
      go (inr w) = inr w
