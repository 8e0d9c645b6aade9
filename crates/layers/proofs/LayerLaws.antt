-- Laws: of the call that works layer by layer. Document 02, M-100: its nodes are those of the tree, each once, level by level and index
-- by index; its digest and count are the whole-message call's; and how many words it needs. What the lent words hold: Highest.
use Rattle.std.specs.Prelude.{◌≡◌, ◌⊎◌, ◌↔◌, Bool, true, false, ℕ, zero, suc, ◌+◌, ◌*◌, ◌^◌, ◌≤◌, ◌<◌, ltb, length, get_or, take, drop}
use Rattle.std.proofs.Math.Path.{refl, sym}
use Rattle.std.proofs.Common.{ap, ◌∙◌, inl, inr, arith, ltb-true, ltb-false, lt-ltb, le-ltb, length-append}
use mathlib.Core.HLevel.{¬_prop}
use Rattle.std.proofs.Math.Option.{some}
use mathlib.Core.List.Permᴰ
use mathlib.Core.List.{List, [], ◌∷◌, ◌++◌, map, map-map, flatten, Permᴰ}
use mathlib.Core.List.{Nodup}
use Rattle.std.proofs.Math.ListN.{get_elem?}
use Rattle.std.proofs.lemmas.List.{length-map}
use Rattle.lists.specs.Flatten.{map-append}
use Rattle.bits.specs.Piece.{Piece, piece_bits, refused_bits}
use Rattle.bits.specs.PieceLaws.{length-piece_bits, bits-there, there-bits}
use Rattle.tree.specs.Tree.{Params, Node, Mark, most_limit, node_u, tree, order, digest, digest_bytes, node_log, logged}
use Rattle.tree.specs.Place.{level_at, node_at}
use Rattle.tree.proofs.Places.{no-node, index_below, tree-u}
use Rattle.tree.specs.Sizes.{tree_nodes}
use Rattle.tree.specs.Vocabulary.{marked}
use Rattle.tree.proofs.OrderLaws.{order-levels}
use Rattle.tree.proofs.Fresh.{order_nodup}
use Rattle.tree.proofs.Count.{order-nodes}
use Rattle.tree.proofs.Height.{Levels, sequential-tree, parallel-tree, tree-levels}
use Rattle.refusals.specs.Refusals.{first_refusal, Told}
use Rattle.refusals.specs.RefusalLaws.{without, passed, passed-by, first_part, second-part, answer_number}
use Rattle.hash.specs.Hash.{Hashed, hash_tests, hash_number, hash_of}
use Rattle.hash.specs.Accepted.{Accepted}
use Rattle.hash.proofs.HashLaws.{number-accepted, hash_number_lem, hash_accepted}
use Rattle.layers.specs.Layers.{layer_order, words_used, words_after, lent_tests, layers_number, Layered, layers_of}
use Rattle.layers.specs.Layers.{first_nodes, layer_words_of, layer_log_words_of}
use Rattle.layers.specs.Vocabulary.{layer_place}

-- ---- the nodes

-- the nodes of the stream's order and no others, each as often as there
pub same_nodes : (P : Params) (M : List Bool) → Permᴰ (map (λ (m : Mark). m.node) (order P M)) (layer_order P M)
unfolding Permᴰ.map flatten
same_nodes P M = rw (all (tree P M)) at (Permᴰ.map (λ (m : Mark). m.node) (order-levels P M))
  where
    each : (ns : List Node) → map (λ (m : Mark). m.node) (marked ns) ≡ ns
    each [] = refl
    each (n ∷ []) = refl
    each (n ∷ m ∷ ns) = ap (λ (l : List Node). n ∷ l) (each (m ∷ ns))

    all : (T : List (List Node)) → map (λ (m : Mark). m.node) (flatten (map marked T)) ≡ flatten T
    all [] = refl
    all (ns ∷ T) = map-append (λ (m : Mark). m.node) (marked ns) (flatten (map marked T)) ∙ rw (each ns, all T)

-- each once: in the tree of a message of fewer than 2^64 bits, no U is found twice
pub once : (P : Params) (M : List Bool) → length M < 2 ^ 64 → Nodup (map (λ (n : Node). n.u) (layer_order P M))
unfolding Permᴰ.map
once P M h =
    Permᴰ.pairwise (λ a b. ¬_prop) (λ a b d e. d (sym e)) (Permᴰ.map (λ (n : Node). n.u) (same_nodes P M))
    (rw (map-map (λ (n : Node). n.u) (λ (m : Mark). m.node) (order P M)) (order_nodup P M h))

-- as many of them
pub same_count : (P : Params) (M : List Bool) → length (layer_order P M) ≡ length (order P M)
same_count P M = sym (size (same_nodes P M)) ∙ length-map (order P M) (λ (m : Mark). m.node)
  where
    size : {xs ys : List Node} → Permᴰ xs ys → length xs ≡ length ys
    size Permᴰ.nil = refl
    size (Permᴰ.cons e p) = ap suc (size p)
    size (Permᴰ.swap e q) = refl
    size (Permᴰ.trans p q) = size p ∙ size q

pub layer_nodes_lem : (P : Params) (M : List Bool) → length (layer_order P M) ≡ tree_nodes P.limit (length M)
layer_nodes_lem P M = same_count P M ∙ order-nodes P M

-- the nodes of level 1
pub first-level : (P : Params) (M : List Bool) → length (level_at (tree P M) 1) ≡ first_nodes P.limit (length M)
first-level P M = go (tree-levels P M)
  where
    go : {limit m : ℕ} {T : List (List Node)} → Levels limit m T → length (level_at T 1) ≡ first_nodes limit m
    go (sequential-tree e) = e
    go (parallel-tree e a) = e

-- both for a piece whose bits are there
module _ (m : Piece) (P : Params) (e : length (piece_bits m) ≡ m.count) where
  pub given-words : words_used (tree P (piece_bits m)) ≡ 16 * first_nodes P.limit m.count
  given-words = ap (λ (k : ℕ). 16 * k) (first-level P (piece_bits m) ∙ ap (first_nodes P.limit) e)

  pub given-nodes : length (layer_order P (piece_bits m)) ≡ tree_nodes P.limit m.count
  given-nodes = layer_nodes_lem P (piece_bits m) ∙ ap (tree_nodes P.limit) e

-- ---- their order

at_left : (xs ys : List Node) (i : ℕ) (n : Node) → get_elem? xs i ≡ some n → get_elem? (xs ++ ys) i ≡ some n
at_left [] ys i n e = absurd (no-node n e)
at_left (x ∷ xs) ys zero n e = e
at_left (x ∷ xs) ys (suc i) n e = at_left xs ys i n e

at_right : (xs ys : List Node) (i j : ℕ) → j ≡ length xs + i → get_elem? (xs ++ ys) j ≡ get_elem? ys i
at_right [] ys i j e = ap (get_elem? ys) (omega arith)
at_right (x ∷ xs) ys i zero e = absurd (omega arith)
at_right (x ∷ xs) ys i (suc j) e = at_right xs ys i j (omega arith)

at_place : (T : List (List Node)) (l i : ℕ) (n : Node) → get_elem? (get_or T l []) i ≡ some n
    → get_elem? (flatten T) (length (flatten (take l T)) + i) ≡ some n
unfolding flatten
at_place [] l i n e = absurd (no-node n e)
at_place (ns ∷ T) zero i n e = let s : 0 + i ≡ i = omega arith in rw s (at_left ns (flatten T) i n e)
at_place (ns ∷ T) (suc l) i n e =
    at_right ns (flatten T) (length (flatten (take l T)) + i) _ (omega (arith, length-append ns (flatten (take l T)))) ∙ at_place T l i n e

-- the levels below a level hold those below any of them, and its own
levels-below : (T : List (List Node)) (l k : ℕ) → l < k → length (flatten (take l T)) + length (get_or T l []) ≤ length (flatten (take k T))
unfolding flatten
levels-below T l zero h = absurd (omega arith)
levels-below [] zero (suc k) h = omega arith
levels-below [] (suc l) (suc k) h = omega arith
levels-below (ns ∷ T) zero (suc k) h = omega (arith, length-append ns (flatten (take k T)))
levels-below (ns ∷ T) (suc l) (suc k) h =
    omega (arith, length-append ns (flatten (take l T)), length-append ns (flatten (take k T)), levels-below T l k (omega arith))

-- "level by level, index by index": the node of a level and an index stands after those of the levels below and of lower index
pub in_place : (P : Params) (M : List Bool) (level index : ℕ) (n : Node) → node_at (tree P M) level index ≡ some n
    → (get_elem? (layer_order P M) (layer_place (tree P M) level index) ≡ some n) × (n.u ≡ node_u level index)
unfolding flatten
in_place P M level index n e = (at_place ([] ∷ tree P M) level index n e, tree-u P M level index n e)

-- so of two nodes that of the lower level, or of the same level and lower index, stands earlier
pub layer_before : (P : Params) (M : List Bool) (level index level' index' : ℕ) (a : Node) → node_at (tree P M) level index ≡ some a
    → (level < level') ⊎ ((level ≡ level') × (index < index')) → layer_place (tree P M) level index < layer_place (tree P M) level' index'
layer_before P M level index level' index' a e (inl h) =
    omega (arith, index_below (level_at (tree P M) level) index a e, levels-below ([] ∷ tree P M) level level' h)
layer_before P M level index level' index' a e (inr (p, h)) = rw p (omega arith)

-- ---- how many words are needed

-- "It works in lent words, 16 for each level-1 node": what is told is exactly what the call needs
pub told-words : (m : Piece) (P : Params) → refused_bits m ≡ false → P.limit ≤ most_limit
    → layer_words_of m.count P.limit ≡ record { number = 0; count = words_used (tree P (piece_bits m)) }
unfolding layer_words_of
told-words m P f h = rw (le-ltb most_limit P.limit h, given-words m P (length-piece_bits m (bits-there m f)))

-- "a log like the stream's": two words for each node
pub told-log-words : (m : Piece) (P : Params) → refused_bits m ≡ false → P.limit ≤ most_limit
    → layer_log_words_of m.count P.limit ≡ record { number = 0; count = 2 * length (layer_order P (piece_bits m)) }
unfolding layer_log_words_of
told-log-words m P f h = rw (le-ltb most_limit P.limit h, given-nodes m P (length-piece_bits m (bits-there m f)))

-- ---- the call

-- the two tests that come after those of the whole-message call
first-lent : (a b : Bool) → first_refusal ((a, 7) ∷ (b, 8) ∷ []) ≡ 7 → a ≡ true
first-lent true b e = refl
first-lent false true e = absurd (omega arith)
first-lent false false e = absurd (omega arith)

second-lent : (a b : Bool) → first_refusal ((a, 7) ∷ (b, 8) ∷ []) ≡ 8 → (a ≡ false) × (b ≡ true)
second-lent true b e = absurd (omega arith)
second-lent false true e = (refl, refl)
second-lent false false e = absurd (omega arith)

-- the two words of log of a node
log-at : (ns : List Node) (i : ℕ) (n : Node) (rest : List ℕ) → get_elem? ns i ≡ some n
    → take 2 (drop (2 * i) (node_log ns ++ rest)) ≡ n.u ∷ n.v ∷ []
log-at [] i n rest e = absurd (no-node n e)
log-at (m ∷ ns) zero n rest e = let s : m ≡ n = cc in rw s
log-at (m ∷ ns) (suc i) n rest e = let s : 2 * suc i ≡ suc (suc (2 * i)) = omega arith in rw s (log-at ns i n rest e)

module _ (m : Piece) (P : Params) (words log out : List ℕ) where
  -- the tests that follow those of the whole-message call
  abbrev lent : List (Bool × ℕ)
  lent = lent_tests P (piece_bits m) words log

  -- the words and log words that the call needs
  abbrev used : ℕ
  used = words_used (tree P (piece_bits m))

  abbrev log_used : ℕ
  log_used = 2 * length (layer_order P (piece_bits m))

  pub layers_number_lem : (layers_of m P words log out).number ≡ layers_number m P words log out
  unfolding layers_of
  layers_number_lem = answer_number (λ (x : Layered). x.number) (layers_number m P words log out) _ _ refl (λ k. refl)

  pub layers_accepted : layers_number m P words log out ≡ 0
      → layers_of m P words log out
      ≡ record {
        number = 0;
        count = length (layer_order P (piece_bits m));
        words = words_after P (tree P (piece_bits m)) words;
        log = logged (layer_order P (piece_bits m)) log;
        digest = digest P (piece_bits m) ++ drop (digest_bytes P.d) out;
      }
  unfolding layers_of
  layers_accepted e = rw e

  -- "Numbers 7 (too few words) and 8 follow the whole-message checks": a number that these do not give is that of the tests that follow
  after-whole : (n : ℕ) → without n (hash_tests m P out) ≡ true → (layers_of m P words log out).number ≡ n
      → ((hash_of m P out).number ≡ 0) × (first_refusal lent ≡ n)
  unfolding layers_number hash_number
  after-whole n w e =
      let p = passed-by n (hash_tests m P out) lent w (sym layers_number_lem ∙ e) in
      (hash_number_lem m P out ∙ second-part (hash_tests m P out) [] p.0, p.1)

  pub then_lent : hash_number m P out ≡ 0 → layers_number m P words log out ≡ first_refusal lent
  unfolding layers_number hash_number
  then_lent e = second-part (hash_tests m P out) lent (passed (hash_tests m P out) refl e)

  whole_then_lent : (hash_of m P out).number ≡ 0 → (layers_of m P words log out).number ≡ first_refusal lent
  whole_then_lent e = layers_number_lem ∙ then_lent (sym (hash_number_lem m P out) ∙ e)

  -- and a number that they do give is the number of this call
  pub refused-whole : ((hash_of m P out).number ≡ 0 → ⊥) → (layers_of m P words log out).number ≡ (hash_of m P out).number
  unfolding layers_number hash_number
  refused-whole h = layers_number_lem ∙ sym (hash_number_lem m P out ∙ first_part (hash_tests m P out) lent (λ e. h (hash_number_lem m P out ∙ e)))

  -- the call is accepted exactly if the whole-message call is, and words and log are long enough
  pub accepted_iff : ((layers_of m P words log out).number ≡ 0)
      ↔ (((hash_of m P out).number ≡ 0) × (words_used (tree P (piece_bits m)) ≤ length words)
      × (2 * length (layer_order P (piece_bits m)) ≤ length log))
  accepted_iff = (
    λ e. let a = after-whole 0 refl e in let p = passed lent refl a.1 in (a.0, ltb-false _ _ (p 0), ltb-false _ _ (p 1)),
    λ h. whole_then_lent h.0
        ∙ rw (le-ltb (length words) used h.1, le-ltb (length log) log_used h.2),
  )

  -- what an accepted whole-message call shows
  whole-accepted : (hash_of m P out).number ≡ 0 → Accepted m P out
  whole-accepted e = number-accepted m P out (sym (hash_number_lem m P out) ∙ e)

  -- "The digest and count must equal those of the whole-message call for every input that this call accepts."
  pub as_whole : (layers_of m P words log out).number ≡ 0
      → ((hash_of m P out).number ≡ 0) × ((layers_of m P words log out).count ≡ (hash_of m P out).count)
      × ((layers_of m P words log out).digest ≡ (hash_of m P out).digest)
  as_whole e =
      let a : (hash_of m P out).number ≡ 0 = (accepted_iff.0 e).0 in
      let n = given-nodes m P (length-piece_bits m (whole-accepted a).enough) in
      let written : List ℕ = digest P (piece_bits m) ++ drop (digest_bytes P.d) out in
      let h = hash_accepted m P out (length (layer_order P (piece_bits m))) written (sym (hash_number_lem m P out) ∙ a) n refl in
      let l = layers_accepted (sym layers_number_lem ∙ e) in (
        a,
        ap (λ (x : Layered). x.count) l ∙ ap (λ (x : Hashed). x.count) h,
        ap (λ (x : Layered). x.digest) l ∙ ap (λ (x : Hashed). x.digest) h,
      )

  -- what is told, where the whole-message checks pass
  told : (hash_of m P out).number ≡ 0
      → ((layer_words_of m.count P.limit).count ≡ words_used (tree P (piece_bits m)))
      × ((layer_log_words_of m.count P.limit).count ≡ 2 * length (layer_order P (piece_bits m)))
  told e =
      let a = whole-accepted e in
      let there = there-bits m a.enough in
      let h = a.ranges.limit_high in
      (ap (λ (x : Told). x.count) (told-words m P there h), ap (λ (x : Told). x.count) (told-log-words m P there h))

  -- "Numbers 7 (too few words) and 8 follow the whole-message checks": 7 exactly if these pass and there are fewer words than told
  pub few-words_iff : ((layers_of m P words log out).number ≡ 7)
      ↔ (((hash_of m P out).number ≡ 0) × (length words < (layer_words_of m.count P.limit).count))
  few-words_iff = (
    λ e. let a = after-whole 7 refl e in
        let s = first-lent (ltb (length words) used) (ltb (length log) log_used) a.1 in
        (a.0, rw (told a.0).0 (ltb-true (length words) used s)),
    λ h. whole_then_lent h.0 ∙ rw (lt-ltb (length words) used (rw (told h.0).0 at h.1)),
  )

  -- and 8 exactly if they pass, there are as many words as told, and fewer words of log
  pub short-log_iff : ((layers_of m P words log out).number ≡ 8)
      ↔ (((hash_of m P out).number ≡ 0) × ((layer_words_of m.count P.limit).count ≤ length words)
      × (length log < (layer_log_words_of m.count P.limit).count))
  short-log_iff = (
    λ e. let a = after-whole 8 refl e in
        let t = told a.0 in
        let s = second-lent (ltb (length words) used) (ltb (length log) log_used) a.1 in
        (a.0, rw t.0 (ltb-false (length words) used s.0), rw t.1 (ltb-true (length log) log_used s.1)),
    λ h. let t = told h.0 in
        whole_then_lent h.0
        ∙ rw (le-ltb (length words) used (rw t.0 at h.1), lt-ltb (length log) log_used (rw t.1 at h.2)),
  )

  -- the order "shows in a log like the stream's": the U and V of the node of a level and an index stand at its place
  pub in_log : (layers_of m P words log out).number ≡ 0 → (level index : ℕ) (n : Node) → node_at (tree P (piece_bits m)) level index ≡ some n
      → take 2 (drop (2 * layer_place (tree P (piece_bits m)) level index) (layers_of m P words log out).log) ≡ n.u ∷ n.v ∷ []
  in_log a level index n e =
      let place : ℕ = layer_place (tree P (piece_bits m)) level index in
      ap (λ (x : Layered). take 2 (drop (2 * place) x.log)) (layers_accepted (sym layers_number_lem ∙ a))
      ∙ log-at (layer_order P (piece_bits m)) place n (drop log_used log) (in_place P (piece_bits m) level index n e).0
