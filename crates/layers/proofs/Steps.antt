-- Laws: the levels of a tree are made one after the other: what stands in the words and in the log after so many of them.
use Rattle.std.specs.Prelude.{◌≡◌, refl, Bool, true, false, cond, ◌⊎◌, ℕ, zero, suc, ◌+◌, ◌*◌, ◌/◌, ◌%◌, ◌^◌, ◌≤◌, ◌<◌, eqb, leb, ltb, length, take, drop}
use Rattle.std.proofs.Math.Path.{sym, ap}
use Rattle.std.proofs.Common.{◌∙◌, subst, inl, inr, zero-add, add-one, arith, ne_eqb, lt-ltb, le-ltb, leb-true, leb-false, length-append, take-suc, take_all, take_at}
use mathlib.Core.List.{List, [], ◌∷◌, ◌++◌, flatten, append-nil}
use Rattle.lists.specs.Flatten.{flatten-append}
use Rattle.lists.specs.Part.{put}
use Rattle.lists.specs.PartLaws.{put-put}
use Rattle.bits.specs.Bits.{bits_of}
use Rattle.bits.specs.BitsLaws.{bits_of-append}
use Rattle.bits.specs.Piece.{Piece, piece_of, piece_bits}
use Rattle.bits.specs.PieceLaws.{Fits, length-piece_bits}
use Rattle.bits.specs.declared.Span.{Span}
use Rattle.tree.specs.Tree.{block_bits, sequential_bits, output_bits, most_levels, Params, Node, tree, blocks, joined_outputs}
use Rattle.tree.specs.Tree.{out_words, node_log}
use Rattle.tree.specs.Place.{level_at}
use Rattle.tree.specs.Kind.{level_bits}
use Rattle.tree.proofs.KindLaws.{tree-parallel, tree-sequential}
use Rattle.tree.proofs.TreeLaws.{Sized, nil, cons, length-joined, parallel-sized, levels_some}
use Rattle.tree.proofs.Places.{levels-height, root-at}
use Rattle.tree.specs.Vocabulary.{height_from, tree_height}
use Rattle.tree.proofs.Count.{level_nodes, level_nodes-one, level_nodes-suc, tree-height}
use Rattle.node.specs.declared.Keyed.{Keyed}
use Rattle.node.specs.Words.{tree_params}
use Rattle.node.specs.WordLaws.{limit_of}
use Rattle.shape.specs.Shape.{top_from, top_level}
use Rattle.tree.proofs.OutputLaws.{length-node_log, node_log-append, words-bits}
use Rattle.layer.specs.declared.Layer.{Layer}
use Rattle.layers.specs.Layers.{words_used, first_nodes}
use Rattle.layers.specs.Accepted.{Room, AllMade}
use Rattle.layers.proofs.LayerLaws.{first-level}
use Rattle.layers.proofs.Laid.{laid, laid_snoc, laid-highest, levels-narrow}
use Rattle.layer.specs.Outputs.{level_outputs, length-level_outputs}
use Rattle.layer.specs.OneLayer.{size_of, nodes_in, source, Source, Fitting, layer_nodes}
use Rattle.layer.specs.OverLaws.{over, layer_over, length_over, length_level_over}

-- ---- how many levels there are

-- the root's level, as the code finds it
top_from_lem : (m n h : ℕ) → top_from m (suc n) (suc h) ≡ h + height_from n (level_nodes m (suc h))
unfolding top_from
top_from_lem m zero h = go (eqb (level_nodes m (suc h)) 1)
  where
    go : (b : Bool) → cond b (suc h) (suc (suc h)) ≡ h + cond b 1 2
    go true = omega arith
    go false = omega arith
top_from_lem m (suc n) h = go (top_from_lem m n (suc h)) (eqb (level_nodes m (suc h)) 1)
  where
    go : top_from m (suc n) (suc (suc h)) ≡ suc h + height_from n (level_nodes m (suc (suc h)))
        → (b : Bool)
        → cond b (suc h) (top_from m (suc n) (suc (suc h))) ≡ h + cond b 1 (suc (height_from n (blocks 4 (level_nodes m (suc h)))))
    go up true = omega arith
    go up false = omega (arith, up, ap (height_from n) (level_nodes-suc m h))

pub top-height : (P : Params) (M : List Bool) → top_level P.limit (length M) ≡ length (tree P M)
unfolding top_from
top-height P M = go P.limit ∙ sym (tree-height P M)
  where
    go : (n : ℕ) → top_level n (length M) ≡ tree_height n (length M)
    go zero = refl
    go (suc n) = top_from_lem (length M) n 0 ∙ rw (level_nodes-one (length M)) (omega arith)

-- ---- one level

-- the layer above so many levels, as the code has it
abbrev pub layer_above : ℕ → ℕ → Span → Layer
layer_above limit levels span = record { level = suc levels; span = span; size = size_of limit (suc levels) }

-- and the bits that it works on, of a message m
abbrev pub span_above : Piece → ℕ → Span
span_above m bits = record { start = m.start; bits = bits }

-- the bits of its outputs
outputs-bits : (P : Params) (ns : List Node) → Sized P.rounds ns → bits_of 64 (level_outputs P ns) ≡ joined_outputs P ns
unfolding flatten
outputs-bits P [] nil = refl
outputs-bits P (n ∷ ns) (cons e s) = bits_of-append 64 (out_words P n) (level_outputs P ns) ∙ rw (words-bits P n e, outputs-bits P ns s)

-- its nodes take the bits of a block or those of a sequential one
pub size-kind : (limit level : ℕ) → (size_of limit level ≡ block_bits) ⊎ (size_of limit level ≡ sequential_bits)
size-kind limit level = go (ltb limit level)
  where
    go : (b : Bool) → (cond b sequential_bits block_bits ≡ block_bits) ⊎ (cond b sequential_bits block_bits ≡ sequential_bits)
    go true = inr refl
    go false = inl refl

module _ (P : Params) (M : List Bool) where
  -- it is the tree's
  level_is : (levels : ℕ) (span : Span) → levels < length (tree P M)
      → level_at (tree P M) (suc levels) ≡ layer_nodes P (layer_above P.limit levels span) (level_bits P M (suc levels))
  level_is levels span h = go (leb (suc levels) P.limit) refl
    where
      go : (b : Bool) → leb (suc levels) P.limit ≡ b
          → level_at (tree P M) (suc levels) ≡ layer_nodes P (layer_above P.limit levels span) (level_bits P M (suc levels))
      go true e =
          let low : suc levels ≤ P.limit = leb-true (suc levels) P.limit e in
          rw (le-ltb P.limit (suc levels) low) (tree-parallel P M (suc levels) (omega arith) low (omega arith))
      go false e =
          let high : P.limit < suc levels = leb-false (suc levels) P.limit e in
          let top : levels ≡ P.limit = omega (arith, levels-height P P.limit 1 M) in
          rw (lt-ltb P.limit (suc levels) high, top) (tree-sequential P M (omega (arith, levels-height P P.limit 1 M)))

  -- its nodes: no more than level 1 has
  level-nodes : (levels : ℕ) (span : Span) → levels < length (tree P M) → span.bits ≡ length (level_bits P M (suc levels))
      → (nodes_in (layer_above P.limit levels span) ≡ length (level_at (tree P M) (suc levels)))
      × (length (level_at (tree P M) (suc levels)) ≤ length (level_at (tree P M) 1))
  level-nodes levels span h e =
      let X : List Bool = level_bits P M (suc levels) in
      let size = length_level_over P (layer_above P.limit levels span) X (sym e) (size-kind P.limit (suc levels)) in
      (sym (ap length (level_is levels span h) ∙ size), levels-narrow P M levels)

  -- and one level more of the list of levels
  next-levels : (levels : ℕ) → levels < length (tree P M)
      → take (suc levels) (tree P M) ≡ take levels (tree P M) ++ (level_at (tree P M) (suc levels) ∷ [])
  next-levels levels h = take-suc (tree P M) levels [] h

  next-nodes : (levels : ℕ) → levels < length (tree P M)
      → flatten (take (suc levels) (tree P M)) ≡ flatten (take levels (tree P M)) ++ level_at (tree P M) (suc levels)
  unfolding flatten
  next-nodes levels h =
      ap flatten (next-levels levels h) ∙ flatten-append (take levels (tree P M)) (level_at (tree P M) (suc levels) ∷ [])
      ∙ ap (λ (l : List Node). flatten (take levels (tree P M)) ++ l) (append-nil (level_at (tree P M) (suc levels)))

  -- the bits of the level above are those of the words that its outputs are written to
  next-bits : (levels : ℕ) (vs : List ℕ) → suc levels < length (tree P M)
      → (length (level_bits P M (suc (suc levels))) ≡ output_bits * length (level_at (tree P M) (suc levels)))
      × (bits_of 64 (take (16 * length (level_at (tree P M) (suc levels))) (over P (level_at (tree P M) (suc levels)) vs))
      ≡ level_bits P M (suc (suc levels)))
  next-bits levels vs h =
      let ns : List Node = level_at (tree P M) (suc levels) in
      let sized : Sized P.rounds ns =
      subst (Sized P.rounds)
      (sym (tree-parallel P M (suc levels) (omega arith) (omega (arith, levels-height P P.limit 1 M)) (omega arith)))
      (parallel-sized P (suc levels) (eqb (blocks block_bits (length (level_bits P M (suc levels)))) 1) (level_bits P M (suc levels))) in
      let front = take_at (level_outputs P ns) (drop (16 * length ns) vs) (16 * length ns) (length-level_outputs P ns) in
      (length-joined P sized, ap (bits_of 64) front ∙ outputs-bits P ns sized)

-- ---- after so many levels

-- of the message m, with words ws₀ and log₀ at first: the words ws, the log, the place in it, and the bits that the next level works on
pub record Done (P : Params) (m : Piece) (ws₀ log₀ : List ℕ) (levels : ℕ) (ws log : List ℕ) (at bits : ℕ) : Type 0 where
  pub most : levels ≤ length (tree P (piece_bits m))
  pub outputs : ws ≡ laid P (take levels (tree P (piece_bits m))) ws₀
  pub same_words : length ws ≡ length ws₀
  pub logs : log ≡ put 0 at log₀ (node_log (flatten (take levels (tree P (piece_bits m)))))
  pub same_log : length log ≡ length log₀
  pub place : at ≡ 2 * length (flatten (take levels (tree P (piece_bits m))))
  pub inputs : levels < length (tree P (piece_bits m)) → bits ≡ length (level_bits P (piece_bits m) (suc levels))
  pub found : levels < length (tree P (piece_bits m))
      → source m.bytes ws (layer_above P.limit levels (span_above m bits)) ≡ level_bits P (piece_bits m) (suc levels)
  pub made : 0 < levels → bits ≡ output_bits * length (level_at (tree P (piece_bits m)) levels)

-- no part of the levels has more nodes than all
nodes-part : (k : ℕ) (T : List (List Node)) → length (flatten (take k T)) ≤ length (flatten T)
unfolding flatten
nodes-part zero T = omega arith
nodes-part (suc k) [] = omega arith
nodes-part (suc k) (ns ∷ T) = simp length-append (omega (arith, nodes-part k T))

-- no level has more nodes than level 1, which has fewer than 2 ^ 53
pub narrow : (P : Params) (M : List Bool) (level : ℕ) → 0 < level → length (level_at (tree P M) level) ≤ length (level_at (tree P M) 1)
narrow P M zero h = absurd (omega arith)
narrow P M (suc k) h = levels-narrow P M k

pub first_small : (limit m : ℕ) → m < 2 ^ 64 → first_nodes limit m < 2 ^ 53
first_small zero m h = omega arith
first_small (suc n) m h = omega arith

module _ (P : Params) (m : Piece) (ws₀ log₀ : List ℕ) (fits : Fits m) where
  abbrev T : List (List Node)
  T = tree P (piece_bits m)

  pub done_none : Done P m ws₀ log₀ 0 ws₀ log₀ 0 m.count
  unfolding flatten
  done_none = record {
    most = omega arith;
    outputs = refl;
    same_words = refl;
    logs = refl;
    same_log = refl;
    place = refl;
    inputs = λ h. sym (length-piece_bits m fits);
    found = λ h. refl;
    made = λ h. absurd (omega arith);
  }

  module _ (levels : ℕ) (ws log : List ℕ) (at bits : ℕ) (d : Done P m ws₀ log₀ levels ws log at bits)
      (h : levels < length (tree P (piece_bits m))) (room : words_used (tree P (piece_bits m)) ≤ length ws₀) where
    abbrev l : Layer
    l = layer_above P.limit levels (span_above m bits)

    count : (nodes_in l ≡ length (level_at T (suc levels))) × (length (level_at T (suc levels)) ≤ length (level_at T 1))
    count = level-nodes P (piece_bits m) levels (span_above m bits) h (d.inputs h)

    -- the next level's bits are there
    pub next-source : Source m.bytes ws l
    next-source = record { message = message; above = above; whole = whole (size-kind P.limit (suc levels)) }
      where
        message : suc levels ≡ 1 → Fits (piece_of m.bytes m.start bits)
        message e =
            let z : levels ≡ 0 = omega arith in
            let all : bits ≡ m.count =
            d.inputs h ∙ ap (λ (k : ℕ). length (level_bits P (piece_bits m) (suc k))) z ∙ length-piece_bits m fits in
            rw all fits

        above : (suc levels ≡ 1 → ⊥) → (bits % 64 ≡ 0) × (bits ≤ 64 * length ws)
        above e =
            let some : 0 < levels = omega (arith, e) in
            (omega (arith, d.made some), omega (arith, d.made some, narrow P (piece_bits m) levels some, d.same_words))

        whole : (size_of P.limit (suc levels) ≡ block_bits) ⊎ (size_of P.limit (suc levels) ≡ sequential_bits)
            → size_of P.limit (suc levels) % 64 ≡ 0
        whole (inl e) = rw e
        whole (inr e) = rw e

    -- its nodes can be made, and logged
    pub next-fitting : m.count < 2 ^ 64 → length (tree P (piece_bits m)) ≤ most_levels → Fitting ws l
    next-fitting b t =
        let few = first_small P.limit (length (piece_bits m)) (omega (arith, length-piece_bits m fits)) in
        record {
          counted = record {
            kind = size-kind P.limit (suc levels);
            low = omega arith;
            nodes = omega (arith, count, first-level P (piece_bits m), few);
          };
          room = omega (arith, count, d.same_words);
        }

    pub next-log : 2 * length (flatten (tree P (piece_bits m))) ≤ length log₀ → at + 2 * nodes_in l ≤ length log
    next-log r =
        let more = ap length (next-nodes P (piece_bits m) levels h) ∙ length-append (flatten (take levels T)) (level_at T (suc levels)) in
        omega (arith, count.0, d.place, d.same_log, nodes-part (suc levels) (tree P (piece_bits m)), more)

    -- the level is made
    pub done_more : (ws' log' : List ℕ) → ws' ≡ layer_over P m.bytes l ws
        → log' ≡ put at (2 * nodes_in l) log (node_log (layer_nodes P l (source m.bytes ws l))) → length log' ≡ length log
        → Done P m ws₀ log₀ (levels + 1) ws' log' (at + 2 * nodes_in l) (output_bits * nodes_in l)
    done_more ws' log' ew el same =
        subst (λ (k : ℕ). Done P m ws₀ log₀ k ws' log' (at + 2 * nodes_in l) (output_bits * nodes_in l)) (sym (add-one levels)) made
      where
        ns : List Node
        ns = level_at (tree P (piece_bits m)) (suc levels)

        is : layer_nodes P l (source m.bytes ws l) ≡ level_at (tree P (piece_bits m)) (suc levels)
        is = ap (layer_nodes P l) (d.found h) ∙ sym (level_is P (piece_bits m) levels (span_above m bits) h)

        words : ws' ≡ over P (level_at (tree P (piece_bits m)) (suc levels)) ws
        words = ew ∙ ap (λ (x : List Node). over P x ws) is

        nodes : length (flatten (take (suc levels) (tree P (piece_bits m))))
            ≡ length (flatten (take levels (tree P (piece_bits m)))) + length (level_at (tree P (piece_bits m)) (suc levels))
        nodes =
            ap length (next-nodes P (piece_bits m) levels h)
            ∙ length-append (flatten (take levels (tree P (piece_bits m)))) (level_at (tree P (piece_bits m)) (suc levels))

        logged : log' ≡ put 0 (at + 2 * nodes_in l) log₀ (node_log (flatten (take (suc levels) (tree P (piece_bits m)))))
        logged =
            let before : List Node = flatten (take levels T) in
            let n : ℕ = 2 * nodes_in l in
            el
            ∙ ap (λ (x : List Node). put at n log (node_log x)) is
            ∙ ap (λ (x : List ℕ). put at n x (node_log ns)) d.logs
            ∙ ap (λ (k : ℕ). put k n (put 0 at log₀ (node_log before)) (node_log ns)) (sym (zero-add at))
            ∙ put-put 0 at n log₀ (node_log before) (node_log ns) (omega arith) (length-node_log before ∙ sym d.place)
            ∙ ap (put 0 (at + n) log₀) (sym (ap node_log (next-nodes P (piece_bits m) levels h) ∙ node_log-append before ns))

        made : Done P m ws₀ log₀ (suc levels) ws' log' (at + 2 * nodes_in l) (output_bits * nodes_in l)
        made = record {
          most = omega arith;
          outputs =
              words ∙ ap (over P ns) d.outputs ∙ sym (laid_snoc P (take levels T) ns ws₀)
              ∙ ap (λ (G : List (List Node)). laid P G ws₀) (sym (next-levels P (piece_bits m) levels h));
          same_words = ap length words ∙ length_over P ns ws (omega (arith, count.1, d.same_words)) ∙ d.same_words;
          logs = logged;
          same_log = same ∙ d.same_log;
          place = omega (arith, count.0, d.place, nodes);
          inputs = λ g. ap (λ (k : ℕ). output_bits * k) count.0 ∙ sym (next-bits P (piece_bits m) levels ws g).0;
          found = λ g.
              let k : output_bits * nodes_in l / 64 ≡ 16 * length ns = omega (arith, count.0) in
              rw (ne_eqb (suc (suc levels)) 1 (λ e. omega arith), k, words) (next-bits P (piece_bits m) levels ws g).1;
          made = λ g. ap (λ (k : ℕ). output_bits * k) count.0;
        }

-- ---- all levels

-- the parameters in other words
pub made_by : {P Q : Params} {M : List Bool} {ws₀ log₀ ws log : List ℕ} {nodes : ℕ} → P ≡ Q → AllMade P M ws₀ log₀ ws log nodes
    → AllMade Q M ws₀ log₀ ws log nodes
made_by {P} {Q} {M} {ws₀} {log₀} {ws} {log} {nodes} e made = subst (λ (R : Params). AllMade R M ws₀ log₀ ws log nodes) e made

pub done_all : (P : Params) (m : Piece) (ws₀ log₀ : List ℕ) (levels : ℕ) (ws log : List ℕ) (at bits : ℕ)
    → Done P m ws₀ log₀ levels ws log at bits
    → levels ≡ length (tree P (piece_bits m)) → words_used (tree P (piece_bits m)) ≤ length ws₀ → (nodes : ℕ)
    → (0 < levels → bits ≡ output_bits * nodes)
    → AllMade P (piece_bits m) ws₀ log₀ ws log nodes
done_all P m ws₀ log₀ levels ws log at bits d e room nodes n =
    let T : List (List Node) = tree P (piece_bits m) in
    let all : take levels T ≡ T = take_all levels T (omega arith) in
    let some : 0 < levels = omega (arith, levels_some P P.limit 1 (piece_bits m)) in
    record {
      words = d.outputs ∙ ap (λ (G : List (List Node)). laid P G ws₀) all ∙ laid-highest P (piece_bits m) ws₀;
      logs = d.logs ∙ rw (d.place, all);
      last = omega (arith, n some, d.made some, ap (λ (k : ℕ). length (level_at T k)) e, (root-at P (piece_bits m)).1);
      there = omega (arith, n some, d.made some, d.same_words, narrow P (piece_bits m) levels some);
    }

-- ---- in the terms of the code, which has K beside the parameters

module _ (keyed : Keyed) where
  abbrev Q : Params
  Q = tree_params keyed

  pub top_is : (m : Piece) → Fits m → top_level keyed.params.limit m.count ≡ length (tree Q (piece_bits m))
  top_is m f =
      ap (λ (n : ℕ). top_level n m.count) (sym (limit_of keyed))
      ∙ ap (top_level Q.limit) (sym (length-piece_bits m f))
      ∙ top-height Q (piece_bits m)

  -- what the next turn of the loop needs and gives
  pub record Turn (m : Piece) (ws₀ log₀ : List ℕ) (levels : ℕ) (ws log : List ℕ) (at : ℕ) (layer : Layer) : Type 0 where
    pub there : Source m.bytes ws layer
    pub fitting : Fitting ws layer
    pub log_room : at + 2 * nodes_in layer ≤ length log
    pub more : (ws' log' : List ℕ) → ws' ≡ layer_over Q m.bytes layer ws
        → log' ≡ put at (2 * nodes_in layer) log (node_log (layer_nodes Q layer (source m.bytes ws layer))) → length log' ≡ length log
        → Done Q m ws₀ log₀ (levels + 1) ws' log' (at + 2 * nodes_in layer) (output_bits * nodes_in layer)

  -- the levels that are done, and the next one if there is one
  pub record Going (m : Piece) (ws₀ log₀ : List ℕ) (top levels : ℕ) (ws log : List ℕ) (at bits : ℕ) : Type 0 where
    pub done : Done Q m ws₀ log₀ levels ws log at bits
    pub next : levels < top → Turn m ws₀ log₀ levels ws log at (layer_above keyed.params.limit levels (span_above m bits))

  pub going : (m : Piece) (ws₀ log₀ : List ℕ) (top levels : ℕ) (ws log : List ℕ) (at bits : ℕ) → Fits m → m.count < 2 ^ 64
      → Room Q (piece_bits m) ws₀ log₀ → (top ≡ top_level keyed.params.limit m.count) × (top ≤ most_levels)
      → Done Q m ws₀ log₀ levels ws log at bits → Going m ws₀ log₀ top levels ws log at bits
  going m ws₀ log₀ top levels ws log at bits f b room t d = record { done = d; next = next }
    where
      next : levels < top → Turn m ws₀ log₀ levels ws log at (layer_above keyed.params.limit levels (span_above m bits))
      next h =
          let tall : top ≡ length (tree Q (piece_bits m)) = t.0 ∙ top_is m f in
          let here : levels < length (tree Q (piece_bits m)) = omega arith in
          subst (λ (n : ℕ). Turn m ws₀ log₀ levels ws log at (layer_above n levels (span_above m bits))) (limit_of keyed)
          (record {
            there = next-source Q m ws₀ log₀ f levels ws log at bits d here room.words;
            fitting = next-fitting Q m ws₀ log₀ f levels ws log at bits d here room.words b (omega (arith, t.1));
            log_room = next-log Q m ws₀ log₀ f levels ws log at bits d here room.words room.log_words;
            more = done_more Q m ws₀ log₀ f levels ws log at bits d here room.words;
          })
