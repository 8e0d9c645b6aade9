-- Laws: a layer's outputs are written over the words that it reads, node by node: what a node takes still stands there, since its
-- children stand no lower than it.
use Rattle.std.specs.Prelude.{◌≡◌, refl, true, false, ◌⊎◌, eqb, length, take, drop, replicate}
use Rattle.std.proofs.Common.{sym, ◌∙◌, subst, inl, inr, mul-le-mul_right, add-one, arith, eq-eqb, ne_eqb, length-append, length-take, length-drop, drop-drop, take_all}
use Rattle.std.proofs.Math.Path.{ap}
use Rattle.std.proofs.Math.Bool.{Bool}
use Rattle.std.proofs.Math.Option.{some}
use mathlib.Core.List.{List, [], ◌∷◌, ◌++◌, flatten, append_assoc, append-nil}
use Prim.Native.Nat.{ℕ, zero, suc, ◌+◌, ◌-◌, ◌*◌, ◌/◌, ◌≤◌, ◌<◌}
use Rattle.std.proofs.Math.ListN.{get_elem?}
use Rattle.std.proofs.Math.Seq.{paste, drop-append-add}
use Rattle.lists.specs.Take.{drop-take}
use Rattle.bits.specs.Bits.{bits_of}
use Rattle.bits.specs.BitsLaws.{bits_of-drop}
use Rattle.tree.proofs.Places.{no-node, index_below}
use Rattle.tree.specs.Tree.{block_bits, sequential_bits, output_bits, Params, Node, words, node_u, node_v, blocks, padding, padded, no_chain}
use Rattle.tree.specs.Tree.{out_words}
use Rattle.tree.proofs.TreeLaws.{chain_at, chain_at-zero, seq-chain, length-parallel, length-sequential, parallel-at, sequential-at}
use Rattle.tree.proofs.KindLaws.{first-chain}
use Rattle.tree.proofs.OutputLaws.{length-out_words}
use Rattle.node.specs.Words.{placed}
use Rattle.node.specs.NodeLaws.{paste-at}
use Rattle.nodes.specs.Value.{message_part}
use Rattle.nodes.specs.NodeByNode.{part-words}
use Rattle.layer.specs.declared.Layer.{Layer}
use Rattle.layer.specs.OneLayer.{nodes_in, place_of, taken_at, output_at, put_output, source, Source, Counted, Fitting, layer_nodes}
use Rattle.layer.specs.IndexLaws.{block-bits, sequential-bits, index-room, whole_words, length-source}
use Rattle.layer.specs.Outputs.{level_outputs, length-level_outputs, outputs-append}

-- the words ws with the outputs of the nodes ns over their first
abbrev pub over : Params → List Node → List ℕ → List ℕ
over P ns ws = level_outputs P ns ++ drop (16 * length ns) ws

-- the words ws with the outputs of a layer, which works on the message's bytes or on them
abbrev pub layer_over : Params → List ℕ → Layer → List ℕ → List ℕ
layer_over P bytes l ws = over P (layer_nodes P l (source bytes ws l)) ws

pub length_over : (P : Params) (ns : List Node) (ws : List ℕ) → 16 * length ns ≤ length ws → length (over P ns ws) ≡ length ws
length_over P ns ws h = simp (length-append, length-level_outputs P ns, length-drop) (omega arith)

-- what stands past the outputs is as it was
pub over-past : (P : Params) (ns : List Node) (ws : List ℕ) (i : ℕ) → length ns ≡ i → drop (16 * i) (over P ns ws) ≡ drop (16 * i) ws
over-past P ns ws i e =
    let l : 16 * i ≡ length (level_outputs P ns) + 0 = omega (arith, length-level_outputs P ns) in
    ap (λ (k : ℕ). drop k (over P ns ws)) l
    ∙ drop-append-add (level_outputs P ns) (drop (16 * length ns) ws) 0
    ∙ ap (λ (k : ℕ). drop (16 * k) ws) e

-- the nodes up to one more
pub take_more : (ns : List Node) (i : ℕ) (a : Node) → get_elem? ns i ≡ some a → take (i + 1) ns ≡ take i ns ++ (a ∷ [])
take_more ns i a e = rw add-one (go ns i e)
  where
    go : (ns : List Node) (i : ℕ) → get_elem? ns i ≡ some a → take (suc i) ns ≡ take i ns ++ (a ∷ [])
    go [] i e = absurd (no-node a e)
    go (n ∷ ns) zero e = let s : n ≡ a = cc in rw s
    go (n ∷ ns) (suc i) e = ap (λ (l : List Node). n ∷ l) (go ns i e)

-- one output more is written
pub over-more : (P : Params) (ns : List Node) (ws : List ℕ) (i : ℕ) (a : Node) (c : List ℕ) → get_elem? ns i ≡ some a → c ≡ out_words P a
    → paste (over P (take i ns) ws) (16 * i) c (length c) ≡ over P (take (i + 1) ns) ws
unfolding flatten
over-more P ns ws i a c e ec =
    let p : List ℕ = level_outputs P (take i ns) in
    let h : i < length ns = index_below ns i a e in
    let li : length (take i ns) ≡ i = simp length-take (omega arith) in
    let lm : length (take (i + 1) ns) ≡ i + 1 = simp length-take (omega arith) in
    let lp : length p ≡ 16 * i = length-level_outputs P (take i ns) ∙ ap (λ (k : ℕ). 16 * k) li in
    let lc : length c ≡ 16 = ap length ec ∙ length-out_words P a in
    let one : level_outputs P (a ∷ []) ≡ c = append-nil (out_words P a) ∙ sym ec in
    let more : level_outputs P (take (i + 1) ns) ≡ p ++ c =
    ap (level_outputs P) (take_more ns i a e) ∙ outputs-append P (take i ns) (a ∷ []) ∙ ap (λ (l : List ℕ). p ++ l) one in
    let past : 16 * length (take i ns) + length c ≡ 16 * length (take (i + 1) ns) = omega arith in
    let rest : drop (length c) (drop (16 * length (take i ns)) ws) ≡ drop (16 * length (take (i + 1) ns)) ws =
    drop-drop (length c) (16 * length (take i ns)) ws ∙ ap (λ (k : ℕ). drop k ws) past in
    paste-at p c (drop (16 * length (take i ns)) ws) (16 * i) (length c) lp refl
    ∙ ap (λ (l : List ℕ). p ++ (c ++ l)) rest
    ∙ sym (append_assoc p c (drop (16 * length (take (i + 1) ns)) ws))
    ∙ ap (λ (l : List ℕ). l ++ drop (16 * length (take (i + 1) ns)) ws) (sym more)

-- all are written
pub over-all : (P : Params) (ns : List Node) (ws : List ℕ) (i : ℕ) → i ≡ length ns → over P (take i ns) ws ≡ over P ns ws
over-all P ns ws i e = ap (λ (l : List Node). over P l ws) (take_all i ns (omega arith))

pub over_none : (P : Params) (ns : List Node) (ws : List ℕ) → ws ≡ over P (take 0 ns) ws
unfolding flatten
over_none P ns ws = refl

-- ---- what a node takes while outputs are written

module _ (bytes ws vs : List ℕ) (l : Layer) (s : Source bytes ws l) (same : length vs ≡ length ws) where
  pub source-kept : Source bytes vs l
  source-kept = record { message = s.message; above = λ e. ((s.above e).0, omega (arith, (s.above e).1)); whole = s.whole }

  pub part-kept : (i index : ℕ) → output_bits ≤ l.size → l.size * index ≤ l.span.bits → i ≤ index → drop (16 * i) vs ≡ drop (16 * i) ws
      → taken_at bytes vs l index ≡ taken_at bytes ws l index
  part-kept i index big room h e = go (eqb l.level 1) refl
    where
      q : ℕ
      q = l.size * index / 64

      B : ℕ
      B = l.span.bits / 64

      from : l.size * index ≡ l.size * index / 64 * 64
      from = omega (arith, whole_words l.size index s.whole)

      later : 16 * i ≤ l.size * index / 64
      later = omega (arith, mul-le-mul_right index big)

      rest : drop q vs ≡ drop q ws
      rest =
          let k : q ≡ 16 * i + (q - 16 * i) = omega (arith, later) in
          ap (λ (n : ℕ). drop n vs) k
          ∙ sym (drop-drop (q - 16 * i) (16 * i) vs)
          ∙ ap (drop (q - 16 * i)) e
          ∙ drop-drop (q - 16 * i) (16 * i) ws
          ∙ ap (λ (n : ℕ). drop n ws) (sym k)

      part : (xs : List ℕ) → drop (l.size * index) (bits_of 64 (take B xs)) ≡ bits_of 64 (take (B - q) (drop q xs))
      part xs =
          let k : B ≡ q + (B - q) = omega (arith, from) in
          ap (λ (n : ℕ). drop n (bits_of 64 (take B xs))) from
          ∙ bits_of-drop 64 q (take B xs)
          ∙ ap (λ (n : ℕ). bits_of 64 (drop q (take n xs))) k
          ∙ ap (bits_of 64) (drop-take q (B - q) xs)

      lengths : length (source bytes vs l) ≡ length (source bytes ws l)
      lengths = length-source bytes vs l source-kept ∙ sym (length-source bytes ws l s)

      go : (b : Bool) → eqb l.level 1 ≡ b → taken_at bytes vs l index ≡ taken_at bytes ws l index
      go true x = rw x
      go false x = rw (lengths, x, part vs, part ws, rest)

-- ---- the node at an index

-- the node at an index of a layer over the bits X, and the words that the code makes
pub record Makes (P : Params) (l : Layer) (X : List Bool) (index : ℕ) (c : List ℕ) : Type 0 where
  pub made : Node
  pub at : get_elem? (layer_nodes P l X) index ≡ some made
  pub is : c ≡ out_words P made
  pub u : made.u ≡ node_u l.level index
  pub v : made.v ≡ node_v P (place_of l index).z (place_of l index).p

-- the chain of the node at an index of the sequential level
abbrev pub ChainAt : Params → Layer → List Bool → ℕ → List ℕ → Type 0
ChainAt P l X index chain = chain ≡ words 16 (chain_at P l.level 0 no_chain (padded sequential_bits X) index)

pub chain_first : (P : Params) (l : Layer) (X : List Bool) → ChainAt P l X 0 (replicate 16 0)
chain_first P l X = sym (ap (words 16) (chain_at-zero P l.level 0 no_chain (padded sequential_bits X)) ∙ first-chain)

module _ (P : Params) (l : Layer) (X : List Bool) (bits : length X ≡ l.span.bits) where
  pub length_level_over : (l.size ≡ block_bits) ⊎ (l.size ≡ sequential_bits) → length (layer_nodes P l X) ≡ nodes_in l
  length_level_over (inl e) =
      rw (eq-eqb l.size block_bits e, e, ← bits) (length-parallel P l.level (eqb (blocks block_bits (length X)) 1) X)
  length_level_over (inr e) =
      rw (ne_eqb l.size block_bits (λ f. omega arith), e, ← bits) (length-sequential P l.level X)

  pub parallel_makes : (index : ℕ) (block : List ℕ) → l.size ≡ block_bits → index < nodes_in l
      → block ≡ words 64 (message_part l.size X index) → Makes P l X index (output_at P l index block)
  parallel_makes index block e h eb =
      let n : ℕ = blocks block_bits (length X) in
      let i : index < n = rw bits (rw e at h) in
      let b = block-bits (length X) index i in
      let w : words 64 (drop (block_bits * index) (padded block_bits X)) ≡ block =
      part-words 64 block_bits (padding block_bits (length X)) X index refl b.0 b.1 ∙ sym (rw e at eb) in
      record {
        made = placed P (place_of l index) block;
        at = rw (e, ← bits) (parallel-at P l.level (eqb n 1) X index i ∙ rw (b.2, w));
        is = refl;
        u = refl;
        v = refl;
      }

  -- at the sequential level, with the chain before it
  pub sequential_makes : (index : ℕ) (chain rest : List ℕ) → l.size ≡ sequential_bits → index < nodes_in l → ChainAt P l X index chain
      → rest ≡ words 48 (message_part l.size X index) → Makes P l X index (output_at P l index (chain ++ rest))
  sequential_makes index chain rest e h ec er =
      let n : ℕ = blocks sequential_bits (length X) in
      let i : index < n = rw bits (rw e at h) in
      let b = sequential-bits (length X) index i in
      let w : words 48 (drop (sequential_bits * index) (padded sequential_bits X)) ≡ rest =
      part-words 48 sequential_bits (padding sequential_bits (length X)) X index refl b.0 b.1 ∙ sym (rw e at er) in
      record {
        made = placed P (place_of l index) (chain ++ rest);
        at = rw (e, ← bits) (sequential-at P l.level X index i ∙ rw (b.2, w, ec));
        is = refl;
        u = refl;
        v = refl;
      }

  -- the chain of the next one
  pub chain_next : (index : ℕ) (c : List ℕ) → l.size ≡ sequential_bits → suc index < nodes_in l → Makes P l X index c
      → ChainAt P l X (suc index) c
  unfolding out_words
  chain_next index c e h made =
      let n : ℕ = blocks sequential_bits (length X) in
      let i : suc index < n = rw bits (rw e at h) in
      let Y : List Bool = padded sequential_bits X in
      let next = seq-chain P l.level (padding sequential_bits (length X)) 0 no_chain n Y index made.made i (rw e at made.at) in
      made.is ∙ ap (words 16) (sym next)

-- ---- what is known of the node at an index

module _ (l : Layer) (f : Counted l) (index : ℕ) (h : index < nodes_in l) where
  -- what the log says of it
  pub log-node : (P : Params) (X : List Bool) → length X ≡ l.span.bits → (c : List ℕ) × Makes P l X index c
  log-node P X bits = go f.kind
    where
      go : (l.size ≡ block_bits) ⊎ (l.size ≡ sequential_bits) → (c : List ℕ) × Makes P l X index c
      go (inl e) = (_, parallel_makes P l X bits index (words 64 (message_part l.size X index)) e h refl)
      go (inr e) =
          let chain : List ℕ = words 16 (chain_at P l.level 0 no_chain (padded sequential_bits X) index) in
          (_, sequential_makes P l X bits index chain (words 48 (message_part l.size X index)) e h refl refl)

-- ---- the loop over a layer's nodes

-- the words vs after the outputs of i nodes were written over the words ws, which had what they take, and room
pub record Written (P : Params) (bytes ws : List ℕ) (l : Layer) (i : ℕ) (vs : List ℕ) : Type 0 where
  pub there : Source bytes ws l
  pub fits : Fitting ws l
  pub most : i ≤ nodes_in l
  pub is : vs ≡ over P (take i (layer_nodes P l (source bytes ws l))) ws
  pub same : length vs ≡ length ws

pub written_none : (P : Params) (bytes ws : List ℕ) (l : Layer) → Source bytes ws l → Fitting ws l → Written P bytes ws l 0 ws
written_none P bytes ws l s f = record {
  there = s;
  fits = f;
  most = omega arith;
  is = over_none P (layer_nodes P l (source bytes ws l)) ws;
  same = refl;
}

module _ {P : Params} {bytes ws : List ℕ} {l : Layer} {i : ℕ} {vs : List ℕ} (w : Written P bytes ws l i vs) where
  abbrev X : List Bool
  X = source bytes ws l

  bits : length (source bytes ws l) ≡ l.span.bits
  bits = length-source bytes ws l w.there

  size_of_level : length (layer_nodes P l (source bytes ws l)) ≡ nodes_in l
  size_of_level = length_level_over P l (source bytes ws l) bits w.fits.counted.kind

  written-part : (index : ℕ) → i ≤ index → index < nodes_in l → taken_at bytes vs l index ≡ taken_at bytes ws l index
  written-part index h g =
      let e : length (take i (layer_nodes P l X)) ≡ i = simp length-take (omega (arith, size_of_level, w.most)) in
      part-kept bytes ws vs l w.there w.same i index (least w.fits.counted.kind) (index-room l w.fits.counted index g) h
      (ap (drop (16 * i)) w.is ∙ over-past P (take i (layer_nodes P l X)) ws i e)
    where
      least : (l.size ≡ block_bits) ⊎ (l.size ≡ sequential_bits) → output_bits ≤ l.size
      least (inl e) = omega arith
      least (inr e) = omega arith

  pub written-more : (c : List ℕ) → i < nodes_in l → Makes P l X i c → Written P bytes ws l (i + 1) (put_output vs i c)
  written-more c h made =
      let e : put_output vs i c ≡ over P (take (i + 1) (layer_nodes P l X)) ws =
      ap (λ (x : List ℕ). put_output x i c) w.is ∙ over-more P (layer_nodes P l X) ws i made.made c made.at made.is in
      let room : 16 * length (take (i + 1) (layer_nodes P l X)) ≤ length ws =
      simp length-take (omega (arith, w.fits.room, size_of_level)) in
      record {
        there = w.there;
        fits = w.fits;
        most = omega arith;
        is = e;
        same = ap length e ∙ length_over P (take (i + 1) (layer_nodes P l X)) ws room;
      }

  pub written_all : i ≡ nodes_in l → vs ≡ layer_over P bytes l ws
  written_all e = w.is ∙ over-all P (layer_nodes P l X) ws i (e ∙ sym size_of_level)

  -- what the compression gives for a node whose block was filled meanwhile
  parallel_turn : (index : ℕ) (block : List ℕ) → i ≤ index → index < nodes_in l → l.size ≡ block_bits
      → block ≡ words 64 (taken_at bytes vs l index) → Makes P l X index (output_at P l index block)
  parallel_turn index block h g e eb = parallel_makes P l X bits index block e g (eb ∙ ap (words 64) (written-part index h g))

  pub sequential_turn : (chain block c : List ℕ) → i < nodes_in l → l.size ≡ sequential_bits → ChainAt P l X i chain
      → block ≡ chain ++ words 48 (taken_at bytes vs l i) → c ≡ output_at P l i block → Makes P l X i c
  sequential_turn chain block c g e en eb ec =
      let rest : List ℕ = words 48 (taken_at bytes ws l i) in
      let same : block ≡ chain ++ rest = eb ∙ ap (λ (Y : List Bool). chain ++ words 48 Y) (written-part i (omega arith) g) in
      subst (Makes P l X i) (sym (ec ∙ ap (output_at P l i) same)) (sequential_makes P l X bits i chain rest e g en refl)

-- one turn of a parallel layer: one output, or two, one behind the other
module _ {P : Params} {bytes ws : List ℕ} {l : Layer} {i : ℕ} {vs : List ℕ} (w : Written P bytes ws l i vs) (e : l.size ≡ block_bits)
  where
    pub written_one : (block c : List ℕ) → i < nodes_in l → block ≡ words 64 (taken_at bytes vs l i) → c ≡ output_at P l i block
        → Written P bytes ws l (i + 1) (put_output vs i c)
    written_one block c h eb ec = rw ec (written-more w (output_at P l i block) h (parallel_turn w i block (omega arith) h e eb))

    pub written-two : (one other : List ℕ) → i + 1 < nodes_in l → one ≡ words 64 (taken_at bytes vs l i)
        → other ≡ words 64 (taken_at bytes vs l (i + 1)) → (next : ℕ) → next ≡ i + 2
        → Written P bytes ws l next (put_output (put_output vs i (output_at P l i one)) (i + 1) (output_at P l (i + 1) other))
    written-two one other h eo et next n =
        let c : List ℕ = output_at P l i one in
        let d : List ℕ = output_at P l (i + 1) other in
        let made = parallel_turn w (i + 1) other (omega arith) h e et in
        subst (λ (k : ℕ). Written P bytes ws l k (put_output (put_output vs i c) (i + 1) d)) (omega arith)
        (written-more (written_one one c (omega arith) eo refl) d h made)
