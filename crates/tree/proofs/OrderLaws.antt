-- Laws: the order of nodes holds exactly the nodes of the levels; its last is the root; and of each level the last node alone reaches
-- the message's last bit. Document 01, "Tree", "Order of nodes: each right after its last child, children from the left; a
-- sequential node also after the node before it", and "Runs", "A node reaches the last bit if ..".
use Rattle.std.specs.Prelude.{◌≡◌, refl, Bool, true, false, ◌⊎◌, ℕ, zero, suc, ◌+◌, ◌*◌, ◌≤◌, ◌<◌, eqb, length, take, drop}
use Rattle.std.proofs.Common.{sym, ap, ◌∙◌, subst, inl, inr, mul-suc, arith, eq-eqb, ne_eqb, length-drop, take_all}
use Rattle.std.proofs.Math.Option
use Rattle.std.proofs.Math.Option.{Option, none, some, none-ne-some}
use mathlib.Core.List.{List, [], ◌∷◌, ◌++◌, map, append-nil, append_assoc, Permᴰ, flatten}
use Rattle.std.proofs.Math.Dec.{eqb-suc-suc}
use Rattle.std.proofs.Math.ListN.{get_elem?}
use Rattle.std.proofs.lemmas.List.{length-map}
use Rattle.lists.specs.Append.{cons_eq}
use Rattle.tree.specs.Tree.{Params, Node, Mark, Subtree, block_bits, sequential_bits, leaves, any_reaches, listing, parent, parents, climb, last_index, subtrees, tree, order, last_or, no_node, root}
use Rattle.tree.specs.Place.{level_at, node_at}
use Rattle.tree.proofs.Height.{Children, Above, no-level, sequential-level, parallel-level, Levels, sequential-tree, parallel-tree, tree-levels}
use Rattle.tree.specs.Vocabulary.{mark, marked, In, Placed}

abbrev tops : List Subtree → List Mark
tops ss = map (λ (s : Subtree). s.top) ss

abbrev top_nodes : List Subtree → List Node
top_nodes ss = map (λ (s : Subtree). s.top.node) ss

-- ---- of the subtrees of a level the last reaches the last bit, and no other

data Last : List Subtree → Type 0 where
  one : {s : Subtree} → s.top.reaches ≡ true → Last (s ∷ [])
  more : {s : Subtree} {ss : List Subtree} → s.top.reaches ≡ false → Last ss → Last (s ∷ ss)

any_all : {ss : List Subtree} → Last ss → any_reaches ss ≡ true
any_all (one e) = rw e
any_all (more e l) = rw e (any_all l)

any_front : (k : ℕ) {ss : List Subtree} → Last ss → k < length ss → any_reaches (take k ss) ≡ false
any_front zero l h = refl
any_front (suc k) (one e) h = absurd (omega arith)
any_front (suc k) (more e l) h = rw e (any_front k l (omega arith))

last_rest : (k : ℕ) {ss : List Subtree} → Last ss → k < length ss → Last (drop k ss)
last_rest zero l h = l
last_rest (suc k) (one e) h = absurd (omega arith)
last_rest (suc k) (more e l) h = last_rest k l (omega arith)

tops-marked : {ss : List Subtree} → Last ss → tops ss ≡ marked (top_nodes ss)
tops-marked (one {s = s} e) = ap (λ (b : Bool). mark s.top.node b ∷ []) e
tops-marked (more {ss = []} e l) = elim l [ ]
tops-marked (more {s = s} {ss = t ∷ ss} e l) = cons_eq (ap (λ (b : Bool). mark s.top.node b) e) (tops-marked l)

parents-last : (k n : ℕ) (below : List Subtree) (ns : List Node) → length ns ≡ suc n → Last below → k * n < length below → length below ≤ k * suc n
    → Last (parents k below ns)
parents-last k n below [] e l h g = absurd (omega arith)
parents-last k zero below (a ∷ []) e l h g = one {s = parent a (take k below)} (rw (take_all k below (omega (arith, mul-suc k 0))) (any_all l))
parents-last k zero below (a ∷ b ∷ ns) e l h g = absurd (omega arith)
parents-last k (suc n) below (a ∷ []) e l h g = absurd (omega arith)
parents-last k (suc n) below (a ∷ b ∷ ns) e l h g =
    more (any_front k l (omega (arith, mul-suc k n)))
    (parents-last k n (drop k below) (b ∷ ns) (omega arith) (last_rest k l (omega (arith, mul-suc k n)))
    (rw length-drop (omega (arith, mul-suc k n))) (rw length-drop (omega (arith, mul-suc k (suc n)))))

leaves_last : (last index : ℕ) (ns : List Node) → suc last ≡ index + length ns → 0 < length ns → Last (leaves last index ns)
leaves_last last index [] e h = absurd (omega arith)
leaves_last last index (a ∷ []) e h = one (eq-eqb index last (omega arith))
leaves_last last index (a ∷ b ∷ ns) e h =
    more (ne_eqb index last (λ q. omega arith)) (leaves_last last (suc index) (b ∷ ns) (omega arith) (omega arith))

parents-nodes : (k : ℕ) (below : List Subtree) (ns : List Node) → top_nodes (parents k below ns) ≡ ns
parents-nodes k below [] = refl
parents-nodes k below (a ∷ ns) = cons_eq refl (parents-nodes k (drop k below) ns)

leaves-nodes : (last index : ℕ) (ns : List Node) → top_nodes (leaves last index ns) ≡ ns
leaves-nodes last index [] = refl
leaves-nodes last index (a ∷ ns) = cons_eq refl (leaves-nodes last (suc index) ns)

-- ---- the listing holds the nodes below, and the tops

leaves-listing : (last index : ℕ) (ns : List Node) → listing (leaves last index ns) ≡ tops (leaves last index ns)
unfolding flatten
leaves-listing last index [] = refl
leaves-listing last index (a ∷ ns) = cons_eq refl (leaves-listing last (suc index) ns)

listing_split : (k : ℕ) (ss : List Subtree) → listing (take k ss) ++ listing (drop k ss) ≡ listing ss
unfolding flatten
listing_split zero ss = refl
listing_split (suc k) [] = refl
listing_split (suc k) (s ∷ ss) = append_assoc s.nodes (listing (take k ss)) (listing (drop k ss)) ∙ ap (λ (l : List Mark). s.nodes ++ l) (listing_split k ss)

parents-listing : (k : ℕ) (below : List Subtree) (ns : List Node) → length below ≤ k * length ns
    → Permᴰ (listing (parents k below ns)) (listing below ++ tops (parents k below ns))
unfolding flatten
parents-listing k [] [] h = mathlib.Core.List.Permᴰ.nil
parents-listing k (s ∷ below) [] h = absurd (omega arith)
parents-listing k below (a ∷ ns) h =
    let m : Mark = mark a (any_reaches (take k below)) in
    let x = listing (take k below) in
    let y = listing (drop k below) in
    let z = tops (parents k (drop k below) ns) in
    let r = listing (parents k (drop k below) ns) in
    let p : Permᴰ r (y ++ z) = parents-listing k (drop k below) ns (rw length-drop (omega (arith, mul-suc k (length ns)))) in
    let q : Permᴰ (m ∷ r) (y ++ (m ∷ z)) = mathlib.Core.List.Permᴰ.trans (mathlib.Core.List.Permᴰ.cons refl p) (mathlib.Core.List.Permᴰ.symm (mathlib.Core.List.Permᴰ.middle m y z)) in
    rw (append_assoc x (m ∷ []) r, ← listing_split k below, append_assoc x y (m ∷ z)) (mathlib.Core.List.Permᴰ.append_left x q)

-- ---- up through the levels

-- subtrees ss that the levels T make of those below
record Climbed (below : List Subtree) (T : List (List Node)) (ss : List Subtree) : Type 0 where
  last : Last ss
  nodes : top_nodes ss ≡ last_or (top_nodes below) T
  listed : Permᴰ (listing ss) (listing below ++ flatten (map marked T))
  ends : ((x : Mark) → last_or x (listing below) ≡ last_or x (tops below)) → (x : Mark) → last_or x (listing ss) ≡ last_or x (tops ss)

last_or-append {ℓ} : {A : Type ℓ} (x : A) (xs ys : List A) → last_or x (xs ++ ys) ≡ last_or (last_or x xs) ys
last_or-append x [] ys = refl
last_or-append x (y ∷ xs) ys = last_or-append y xs ys

parents-ends : (k : ℕ) (below : List Subtree) (ns : List Node) (x : Mark) → last_or x (listing (parents k below ns)) ≡ last_or x (tops (parents k below ns))
unfolding flatten
parents-ends k below [] x = refl
parents-ends k below (a ∷ ns) x =
    let m : Mark = mark a (any_reaches (take k below)) in
    last_or-append x (listing (take k below) ++ (m ∷ [])) (listing (parents k (drop k below) ns))
    ∙ ap (λ (y : Mark). last_or y (listing (parents k (drop k below) ns))) (last_or-append x (listing (take k below)) (m ∷ []))
    ∙ parents-ends k (drop k below) ns m

-- one level up
climb-one : (k : ℕ) (below : List Subtree) (ns : List Node) → Last below → Children k (length below) (length ns) → Climbed below (ns ∷ []) (parents k below ns)
unfolding flatten
climb-one k [] [] l c = elim l [ ]
climb-one k (s ∷ below) [] l c = absurd (omega arith)
climb-one k below (a ∷ ns) l c = record {
  last = l';
  nodes = parents-nodes k below (a ∷ ns);
  listed = subst (λ (l : List Mark). Permᴰ (listing (parents k below (a ∷ ns))) (listing below ++ l)) e (parents-listing k below (a ∷ ns) c.held);
  ends = λ _. parents-ends k below (a ∷ ns);
}
  where
    l' : Last (parents k below (a ∷ ns))
    l' = parents-last k (length ns) below (a ∷ ns) refl l (omega (arith, mul-suc k (length ns))) c.held

    e : tops (parents k below (a ∷ ns)) ≡ marked (a ∷ ns) ++ []
    e = tops-marked l' ∙ ap marked (parents-nodes k below (a ∷ ns)) ∙ sym (append-nil (marked (a ∷ ns)))

-- there are as many subtrees as nodes in the last level
length-tops : {below ss : List Subtree} {T : List (List Node)} → Climbed below T ss → length ss ≡ length (last_or (top_nodes below) T)
length-tops {ss = ss} v = sym (length-map ss (λ (s : Subtree). s.top.node)) ∙ ap length v.nodes

-- one level and then others
climb_on : {below mid ss : List Subtree} {ns : List Node} {T : List (List Node)} → Climbed below (ns ∷ []) mid → Climbed mid T ss → Climbed below (ns ∷ T) ss
unfolding flatten
climb_on {below} {mid} {ss} {ns} {T} v w =
    let p : Permᴰ (listing mid) (listing below ++ marked ns) = rw append-nil at v.listed in
    record {
      last = w.last;
      nodes = w.nodes ∙ ap (λ (x : List Node). last_or x T) v.nodes;
      listed = mathlib.Core.List.Permᴰ.trans w.listed (rw append_assoc at (mathlib.Core.List.Permᴰ.append_right (flatten (map marked T)) p));
      ends = λ f. w.ends (v.ends f);
    }

climbed : {n c : ℕ} {T : List (List Node)} → Above n c T → (below : List Subtree) → Last below → length below ≡ c → Climbed below T (climb n below T)
unfolding flatten
climbed no-level below l e = record { last = l; nodes = refl; listed = mathlib.Core.List.Permᴰ.symm (mathlib.Core.List.Permᴰ.append-nil (listing below)); ends = λ f. f }
climbed (sequential-level {c} {ns} h) below l e = climb-one 3 below ns l (rw e h)
climbed (parallel-level {n} {c} {ns} {above} h a) below l e =
    let v : Climbed below (ns ∷ []) (parents 4 below ns) = climb-one 4 below ns l (rw e h) in
    climb_on v (climbed a (parents 4 below ns) v.last (length-tops v))

-- ---- the whole tree

-- level 1 stands above no subtree
climb-leaves : (last : ℕ) (ns : List Node) → suc last ≡ length ns → Climbed [] (ns ∷ []) (leaves last 0 ns)
unfolding flatten
climb-leaves last ns e = record {
  last = l;
  nodes = leaves-nodes last 0 ns;
  listed = rw q (mathlib.Core.List.Permᴰ.refl (marked ns ++ []));
  ends = λ f x. ap (last_or x) (leaves-listing last 0 ns);
}
  where
    l : Last (leaves last 0 ns)
    l = leaves_last last 0 ns (omega arith) (omega arith)

    q : listing (leaves last 0 ns) ≡ marked ns ++ []
    q = leaves-listing last 0 ns ∙ tops-marked l ∙ ap marked (leaves-nodes last 0 ns) ∙ sym (append-nil (marked ns))

tree-climbed : {limit m : ℕ} {T : List (List Node)} → Levels limit m T → Climbed [] T (subtrees limit m T)
tree-climbed (sequential-tree {m} {ns} h) = climb-leaves (last_index sequential_bits m) ns (omega arith)
tree-climbed (parallel-tree {n} {m} {ns} {above} h a) =
    let v : Climbed [] (ns ∷ []) (leaves (last_index block_bits m) 0 ns) = climb-leaves (last_index block_bits m) ns (omega arith) in
    climb_on v (climbed a (leaves (last_index block_bits m) 0 ns) v.last (length-tops v))

-- The order holds the nodes of the levels and no others, each as often as they do; and of each level the last node, and no
-- other, reaches the message's last bit. (A permutation: a chain of swaps of neighbours.)
pub order-levels : (P : Params) (M : List Bool) → Permᴰ (order P M) (flatten (map marked (tree P M)))
unfolding flatten
order-levels P M = (tree-climbed (tree-levels P M)).listed

-- the last node of the order is the root, whether its level is parallel or sequential, and it reaches the last bit
pub order-last : (P : Params) (M : List Bool) (x : Mark) → last_or x (order P M) ≡ mark (root P M) true
unfolding flatten
order-last P M x = v.ends (λ y. refl) x ∙ last-top v.last x ∙ ap (λ (ns : List Node). mark (last_or no_node ns) true) v.nodes
  where
    v : Climbed [] (tree P M) (subtrees P.limit (length M) (tree P M))
    v = tree-climbed (tree-levels P M)

    last-top : {ss : List Subtree} → Last ss → (x : Mark) → last_or x (tops ss) ≡ mark (last_or no_node (top_nodes ss)) true
    last-top (one {s = s} e) x = ap (λ (b : Bool). mark s.top.node b) e
    last-top (more {ss = []} e l) x = elim l [ ]
    last-top (more {s = s} {ss = t ∷ ss} e l) x = last-top l s.top

-- ---- the order and the places

in_left : {A : Type 0} (a : A) (xs ys : List A) (i : ℕ) → get_elem? xs i ≡ some a → In a (xs ++ ys)
in_left a [] ys i e = absurd (none-ne-some a e)
in_left a (x ∷ xs) ys zero e = (0, e)
in_left a (x ∷ xs) ys (suc i) e = let r = in_left a xs ys i e in (suc r.0, r.1)

in_right : {A : Type 0} (a : A) (xs ys : List A) → In a ys → In a (xs ++ ys)
in_right a [] ys r = r
in_right a (x ∷ xs) ys r = let q = in_right a xs ys r in (suc q.0, q.1)

in_append : {A : Type 0} (a : A) (xs ys : List A) → In a (xs ++ ys) → In a xs ⊎ In a ys
in_append a [] ys r = inr r
in_append a (x ∷ xs) ys (zero, e) = inl (0, e)
in_append a (x ∷ xs) ys (suc i, e) = next (in_append a xs ys (i, e))
  where
    next : In a xs ⊎ In a ys → In a (x ∷ xs) ⊎ In a ys
    next (inl r) = inl (suc r.0, r.1)
    next (inr r) = inr r

in_perm : {A : Type 0} (a : A) {xs ys : List A} → Permᴰ xs ys → (i : ℕ) → get_elem? xs i ≡ some a → In a ys
in_perm a mathlib.Core.List.Permᴰ.nil i e = (i, e)
in_perm a (mathlib.Core.List.Permᴰ.cons p r) zero e = (0, cc)
in_perm a (mathlib.Core.List.Permᴰ.cons p r) (suc i) e = let q = in_perm a r i e in (suc q.0, q.1)
in_perm a (mathlib.Core.List.Permᴰ.swap p q) zero e = (1, cc)
in_perm a (mathlib.Core.List.Permᴰ.swap p q) (suc zero) e = (0, cc)
in_perm a (mathlib.Core.List.Permᴰ.swap p q) (suc (suc i)) e = (suc (suc i), e)
in_perm a (mathlib.Core.List.Permᴰ.trans p q) i e = let r = in_perm a p i e in in_perm a q r.0 r.1

marked-at : (ns : List Node) (i : ℕ) → get_elem? (marked ns) i ≡ Option.map (λ (n : Node). mark n (eqb (suc i) (length ns))) (get_elem? ns i)
marked-at [] i = refl
marked-at (n ∷ []) zero = refl
marked-at (n ∷ []) (suc i) = refl
marked-at (n ∷ m ∷ ns) zero = rw (ne_eqb 1 (length (n ∷ m ∷ ns)) (λ e. omega arith))
marked-at (n ∷ m ∷ ns) (suc i) = marked-at (m ∷ ns) i ∙ rw (eqb-suc-suc (suc i) (length (m ∷ ns)))

placed-here : (ns : List Node) (T : List (List Node)) (m : Mark) (i : ℕ) → get_elem? (marked ns) i ≡ some m → Placed (ns ∷ T) m
placed-here ns T m i e = go (get_elem? ns i) refl (sym (marked-at ns i) ∙ e)
  where
    go : (o : Option Node) → get_elem? ns i ≡ o → Option.map (λ (n : Node). mark n (eqb (suc i) (length ns))) o ≡ some m → Placed (ns ∷ T) m
    go none p q = absurd (none-ne-some m q)
    go (some n) p q =
        let r : mark n (eqb (suc i) (length ns)) ≡ m = cc in
        record { level = 1; index = i; at = p ∙ ap (λ (x : Mark). some x.node) r; reaches = sym (ap (λ (x : Mark). x.reaches) r) }

placed : (T : List (List Node)) (m : Mark) → In m (flatten (map marked T)) → Placed T m
unfolding flatten
placed [] m (i, e) = absurd (none-ne-some m e)
placed (ns ∷ T) m r = go (in_append m (marked ns) (flatten (map marked T)) r) (placed T m)
  where
    up : (level index : ℕ) → node_at T level index ≡ some m.node → m.reaches ≡ eqb (suc index) (length (level_at T level)) → Placed (ns ∷ T) m
    up zero index e q = absurd (none-ne-some m.node e)
    up (suc level) index e q = record { level = suc (suc level); index = index; at = e; reaches = q }

    go : In m (marked ns) ⊎ In m (flatten (map marked T)) → (In m (flatten (map marked T)) → Placed T m) → Placed (ns ∷ T) m
    go (inl (i, e)) f = placed-here ns T m i e
    go (inr q) f = up (f q).level (f q).index (f q).at (f q).reaches

-- every node of the order has a place in the tree, and reaches the last bit exactly if it is the last of its level
pub order-placed : (P : Params) (M : List Bool) (m : Mark) → In m (order P M) → Placed (tree P M) m
order-placed P M m r = placed (tree P M) m (in_perm m (order-levels P M) r.0 r.1)

-- and the node of every place stands in the order, with that mark
pub place_ordered : (P : Params) (M : List Bool) (level index : ℕ) (n : Node) → node_at (tree P M) level index ≡ some n
    → In (mark n (eqb (suc index) (length (level_at (tree P M) level)))) (order P M)
unfolding flatten
place_ordered P M level index n e = let r = go (tree P M) level e in in_perm _ (mathlib.Core.List.Permᴰ.symm (order-levels P M)) r.0 r.1
  where
    go : (T : List (List Node)) (level : ℕ) → node_at T level index ≡ some n → In (mark n (eqb (suc index) (length (level_at T level)))) (flatten (map marked T))
    go T zero e = absurd (none-ne-some n e)
    go [] (suc level) e = absurd (none-ne-some n e)
    go (ns ∷ T) (suc zero) e = in_left _ (marked ns) (flatten (map marked T)) index (marked-at ns index ∙ ap (Option.map (λ (n : Node). mark n (eqb (suc index) (length ns)))) e)
    go (ns ∷ T) (suc (suc level)) e = in_right _ (marked ns) (flatten (map marked T)) (go T (suc level) e)
