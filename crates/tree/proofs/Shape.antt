-- Laws: U, V and the marks of the order go by the numbers alone: the message's length, the key's length, d, L and r. The bits of the
-- message and of the key have no part in them.
use Rattle.std.specs.Prelude.{◌≡◌, refl, Bool, true, false, ◌||◌, ℕ, zero, suc, ◌<◌, eqb, length, take, drop}
use Rattle.std.proofs.Common.{sym, ap, ◌∙◌, arith, eqb-true}
use mathlib.Core.List.{List, [], ◌∷◌, ◌++◌, map}
use Rattle.std.proofs.lemmas.Bool.{eqb-false}
use Rattle.lists.specs.Append.{cons_eq}
use Rattle.lists.specs.Flatten.{map-append}
use Rattle.bits.specs.Bits.{digit}
use Rattle.tree.specs.Tree.{Params, Node, Mark, Subtree, block_bits, sequential_bits, node_u, node_v, node, output, words, blocks, padding, padded, par, seq, no_chain, parallel, sequential, joined_outputs, levels, tree, leaves, any_reaches, listing, parent, parents, climb, last_index, subtrees, order}
use Rattle.tree.proofs.TreeLaws.{length-joined-parallel, levels-one, levels-more}
use Rattle.tree.specs.Vocabulary.{shape_of}

-- a node without what comes from the bits of the message and of the key
abbrev bare : Node → Node
bare n = record { k = []; u = n.u; v = n.v; block = [] }

abbrev bare_mark : Mark → Mark
bare_mark m = record { node = bare m.node; reaches = m.reaches }

abbrev bare_tree : Subtree → Subtree
bare_tree s = record { top = bare_mark s.top; nodes = map bare_mark s.nodes }

-- ---- the order of bare nodes is the order, made bare

take-map : {A B : Type 0} (f : A → B) (k : ℕ) (xs : List A) → take k (map f xs) ≡ map f (take k xs)
take-map f zero xs = refl
take-map f (suc k) [] = refl
take-map f (suc k) (x ∷ xs) = cons_eq refl (take-map f k xs)

drop-map : {A B : Type 0} (f : A → B) (k : ℕ) (xs : List A) → drop k (map f xs) ≡ map f (drop k xs)
drop-map f zero xs = refl
drop-map f (suc k) [] = refl
drop-map f (suc k) (x ∷ xs) = drop-map f k xs

any_bare : (ss : List Subtree) → any_reaches (map bare_tree ss) ≡ any_reaches ss
any_bare [] = refl
any_bare (s ∷ ss) = ap (λ (b : Bool). s.top.reaches || b) (any_bare ss)

listing-bare : (ss : List Subtree) → listing (map bare_tree ss) ≡ map bare_mark (listing ss)
unfolding mathlib.Core.List.flatten
listing-bare [] = refl
listing-bare (s ∷ ss) = ap (λ (l : List Mark). map bare_mark s.nodes ++ l) (listing-bare ss) ∙ sym (map-append bare_mark s.nodes (listing ss))

parent-bare : (n : Node) (ss : List Subtree) → parent (bare n) (map bare_tree ss) ≡ bare_tree (parent n ss)
parent-bare n ss =
    let m : Mark = record { node = n; reaches = any_reaches ss } in
    rw (any_bare ss, listing-bare ss) (rw (map-append bare_mark (listing ss) (m ∷ [])))

parents-bare : (k : ℕ) (below : List Subtree) (ns : List Node) → parents k (map bare_tree below) (map bare ns) ≡ map bare_tree (parents k below ns)
parents-bare k below [] = refl
parents-bare k below (n ∷ ns) =
    rw (take-map bare_tree k below, drop-map bare_tree k below) (cons_eq (parent-bare n (take k below)) (parents-bare k (drop k below) ns))

leaves-bare : (last index : ℕ) (ns : List Node) → leaves last index (map bare ns) ≡ map bare_tree (leaves last index ns)
leaves-bare last index [] = refl
leaves-bare last index (n ∷ ns) = cons_eq refl (leaves-bare last (suc index) ns)

climb-bare : (n : ℕ) (below : List Subtree) (T : List (List Node)) → climb n (map bare_tree below) (map (map bare) T) ≡ map bare_tree (climb n below T)
climb-bare n below [] = refl
climb-bare zero below (ns ∷ T) = parents-bare 3 below ns
climb-bare (suc n) below (ns ∷ T) =
    ap (λ (ss : List Subtree). climb n ss (map (map bare) T)) (parents-bare 4 below ns) ∙ climb-bare n (parents 4 below ns) T

subtrees-bare : (limit m : ℕ) (T : List (List Node)) → subtrees limit m (map (map bare) T) ≡ map bare_tree (subtrees limit m T)
subtrees-bare limit m [] = refl
subtrees-bare zero m (ns ∷ T) = leaves-bare (last_index sequential_bits m) 0 ns
subtrees-bare (suc n) m (ns ∷ T) =
    ap (λ (ss : List Subtree). climb n ss (map (map bare) T)) (leaves-bare (last_index block_bits m) 0 ns)
    ∙ climb-bare n (leaves (last_index block_bits m) 0 ns) T

-- ---- the levels of bare nodes go by the length and by V

module _ (P Q : Params) (same : (z p : ℕ) → node_v P z p ≡ node_v Q z p) where
  node-bare : (level i z p : ℕ) (b c : List ℕ) → bare (node P level i z p b) ≡ bare (node Q level i z p c)
  node-bare level i z p b c = ap (λ (v : ℕ). let n : Node = record { k = []; u = node_u level i; v = v; block = [] } in n) (same z p)

  par-bare : (level z p i n : ℕ) (X Y : List Bool) → map bare (par P level z p i n X) ≡ map bare (par Q level z p i n Y)
  par-bare level z p i zero X Y = refl
  par-bare level z p i (suc zero) X Y = cons_eq (node-bare level i z p (words 64 X) (words 64 Y)) refl
  par-bare level z p i (suc (suc n)) X Y =
      cons_eq (node-bare level i z 0 (words 64 X) (words 64 Y)) (par-bare level z p (suc i) (suc n) (drop block_bits X) (drop block_bits Y))

  seq-bare : (level p i : ℕ) (c d : List Bool) (n : ℕ) (X Y : List Bool) → map bare (seq P level p i c n X) ≡ map bare (seq Q level p i d n Y)
  seq-bare level p i c d zero X Y = refl
  seq-bare level p i c d (suc zero) X Y = cons_eq (node-bare level i 1 p (words 16 c ++ words 48 X) (words 16 d ++ words 48 Y)) refl
  seq-bare level p i c d (suc (suc n)) X Y =
      cons_eq (node-bare level i 0 0 (words 16 c ++ words 48 X) (words 16 d ++ words 48 Y))
      (seq-bare level p (suc i) (output P.rounds (node P level i 0 0 (words 16 c ++ words 48 X)))
      (output Q.rounds (node Q level i 0 0 (words 16 d ++ words 48 Y))) (suc n) (drop sequential_bits X) (drop sequential_bits Y))

  parallel-bare : (level : ℕ) (alone : Bool) (M N : List Bool) → length M ≡ length N → map bare (parallel P level alone M) ≡ map bare (parallel Q level alone N)
  parallel-bare level alone M N e =
      par-bare level (digit alone) (padding block_bits (length M)) 0 (blocks block_bits (length M)) (padded block_bits M) (padded block_bits N)
      ∙ ap (λ (m : ℕ). map bare (par Q level (digit alone) (padding block_bits m) 0 (blocks block_bits m) (padded block_bits N))) e

  sequential-bare : (level : ℕ) (M N : List Bool) → length M ≡ length N → map bare (sequential P level M) ≡ map bare (sequential Q level N)
  sequential-bare level M N e =
      seq-bare level (padding sequential_bits (length M)) 0 no_chain no_chain (blocks sequential_bits (length M)) (padded sequential_bits M) (padded sequential_bits N)
      ∙ ap (λ (m : ℕ). map bare (seq Q level (padding sequential_bits m) 0 no_chain (blocks sequential_bits m) (padded sequential_bits N))) e

  levels-bare : (n level : ℕ) (M N : List Bool) → length M ≡ length N → map (map bare) (levels P n level M) ≡ map (map bare) (levels Q n level N)
  levels-bare zero level M N e = cons_eq (sequential-bare level M N e) refl
  levels-bare (suc n) level M N e = go (eqb (blocks block_bits (length M)) 1) refl (levels-bare n)
    where
      go : (b : Bool) → eqb (blocks block_bits (length M)) 1 ≡ b
          → ((level : ℕ) (M N : List Bool) → length M ≡ length N → map (map bare) (levels P n level M) ≡ map (map bare) (levels Q n level N))
          → map (map bare) (levels P (suc n) level M) ≡ map (map bare) (levels Q (suc n) level N)
      go true q up =
          let h : blocks block_bits (length M) ≡ 1 = eqb-true (blocks block_bits (length M)) 1 q in
          rw (levels-one P n level M h, levels-one Q n level N (omega arith)) (cons_eq (parallel-bare level true M N e) refl)
      go false q up =
          let h : 1 < blocks block_bits (length M) = omega (arith, eqb-false (blocks block_bits (length M)) 1 q) in
          rw (levels-more P n level M h, levels-more Q n level N (omega arith))
          (cons_eq (parallel-bare level false M N e)
          (up (suc level) (joined_outputs P (parallel P level false M)) (joined_outputs Q (parallel Q level false N))
          (omega (arith, length-joined-parallel P level false M, length-joined-parallel Q level false N))))

-- ---- the order

shape-bare : (ms : List Mark) → map shape_of ms ≡ map shape_of (map bare_mark ms)
shape-bare [] = refl
shape-bare (m ∷ ms) = cons_eq refl (shape-bare ms)

-- the order, by the levels made bare
order-bare : (P : Params) (M : List Bool) → map shape_of (order P M) ≡ map shape_of (listing (subtrees P.limit (length M) (map (map bare) (tree P M))))
order-bare P M =
    shape-bare (order P M)
    ∙ ap (map shape_of) (sym (listing-bare (subtrees P.limit (length M) (tree P M))) ∙ ap listing (sym (subtrees-bare P.limit (length M) (tree P M))))

-- two messages of one length under keys of one length, with the same d, L and r, have the same U, V and marks in their order
pub shape : (P Q : Params) (M N : List Bool) → length M ≡ length N → length P.key ≡ length Q.key → P.d ≡ Q.d → P.limit ≡ Q.limit
    → P.rounds ≡ Q.rounds → map shape_of (order P M) ≡ map shape_of (order Q N)
shape P Q M N hm hk hd hl hr =
    order-bare P M
    ∙ ap (λ (T : List (List Node)). map shape_of (listing (subtrees P.limit (length M) T))) (levels-bare P Q same P.limit 1 M N hm)
    ∙ ap (λ (m : ℕ). map shape_of (listing (subtrees P.limit m (map (map bare) (levels Q P.limit 1 N))))) hm
    ∙ ap (λ (l : ℕ). map shape_of (listing (subtrees l (length N) (map (map bare) (levels Q l 1 N))))) hl
    ∙ sym (order-bare Q N)
  where
    same : (z p : ℕ) → node_v P z p ≡ node_v Q z p
    same z p = omega arith
