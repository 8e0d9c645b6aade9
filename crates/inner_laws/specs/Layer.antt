-- Laws: of a layer's sizes, of z, and of what stands while its nodes are made and their words are copied.
use Rattle.std.specs.Prelude.{◌≡◌, refl, Bool, true, false, cond, ◌⊎◌, List, [], ◌++◌, ℕ, suc, ◌-◌, ◌*◌, ◌/◌, ◌%◌, ◌^◌, ◌≤◌, ◌<◌, eqb, length, take, drop, replicate}
use Rattle.std.proofs.Common.{sym, ap, ◌∙◌, inl, inr, arith, eq-eqb, ne_eqb, eqb-true, lt-ltb, le-ltb, length-take, length-drop, take-append-drop}
use Rattle.std.proofs.lemmas.Bool.{eqb-false}
use Rattle.std.proofs.Math.Seq.{paste}
use Rattle.lists.specs.Below.{Below}
use Rattle.lists.specs.Replicate.{drop-replicate}
use Rattle.bits.specs.Bits.{digit, bits_of}
use Rattle.bits.specs.BitsLaws.{digit_le}
use Rattle.tree.specs.Tree.{words, block_bits, sequential_bits, Params, Node}
use Rattle.tree.proofs.TreeLaws.{last_only, last_only_le}
use Rattle.node.specs.Words.{FieldsFit}
use Rattle.node.specs.declared.Place.{Place}
use Rattle.node.specs.NodeLaws.{paste-at}
use Rattle.shape.specs.Shape.{taken}
use Rattle.nodes.specs.Value.{message_part}
use Rattle.layer.specs.declared.Layer.{Layer}
use Rattle.layer.specs.OneLayer.{size_of, nodes_in, flag_of, place_of, taken_at, Source, Counted, Fitting}
use Rattle.layer.specs.IndexLaws.{copied_part, fill_above, index-room}
use Rattle.layer.specs.LogLaws.{log_up_to}
use Rattle.layer.specs.OverLaws.{Written, source-kept}

-- ---- the bits that each node takes

pub size-sequential : (limit level : ℕ) → limit < level → sequential_bits ≡ size_of limit level
size-sequential limit level h = rw (lt-ltb limit level h)

pub size-block : (limit level : ℕ) → level ≤ limit → block_bits ≡ size_of limit level
size-block limit level h = rw (le-ltb limit level h)

pub some_size : (l : Layer) → Counted l → 0 < l.size
some_size l f = go f.kind
  where
    go : (l.size ≡ block_bits) ⊎ (l.size ≡ sequential_bits) → 0 < l.size
    go (inl e) = omega arith
    go (inr e) = omega arith

-- a layer that is not parallel is sequential
pub sequential-size : (l : Layer) → Counted l → (l.size ≡ block_bits → ⊥) → l.size ≡ sequential_bits
sequential-size l f h = go f.kind
  where
    go : (l.size ≡ block_bits) ⊎ (l.size ≡ sequential_bits) → l.size ≡ sequential_bits
    go (inl e) = absurd (h e)
    go (inr e) = e

-- ---- z

pub flag-parallel : (size nodes index : ℕ) → size ≡ block_bits → digit (eqb 1 nodes) ≡ flag_of size nodes index
flag-parallel size nodes index e = rw (eq-eqb size block_bits e) (go (eqb nodes 1) refl)
  where
    go : (b : Bool) → eqb nodes 1 ≡ b → digit (eqb 1 nodes) ≡ digit (eqb nodes 1)
    go true f = rw (f, eq-eqb 1 nodes (sym (eqb-true nodes 1 f)))
    go false f = rw (f, ne_eqb 1 nodes (λ g. eqb-false nodes 1 f (sym g)))

pub flag-sequential : (size nodes index : ℕ) → (size ≡ block_bits → ⊥) → digit (eqb (suc index) nodes) ≡ flag_of size nodes index
flag-sequential size nodes index n = rw (ne_eqb size block_bits n) (go (eqb (suc index) nodes))
  where
    go : (b : Bool) → digit b ≡ cond b 1 0
    go true = refl
    go false = refl

pub flag_low : (size nodes index : ℕ) → flag_of size nodes index ≤ 1
flag_low size nodes index = go (eqb size block_bits)
  where
    go : (b : Bool) → cond b (digit (eqb nodes 1)) (last_only nodes index 1) ≤ 1
    go true = digit_le (eqb nodes 1)
    go false = last_only_le nodes index 1

-- ---- words that are copied over zero words

pasted : (zs S : List ℕ) (k : ℕ) → length S ≡ k → paste zs 0 S (length S) ≡ S ++ drop k zs
pasted zs S k e = paste-at [] S zs 0 (length S) refl refl ∙ ap (λ (x : ℕ). S ++ drop x zs) e

pub copied_zeros : (w k : ℕ) (S : List ℕ) → length S ≡ k → k ≤ w → paste (replicate w 0) 0 S (length S) ≡ S ++ replicate (w - k) 0
copied_zeros w k S e h = pasted (replicate w 0) S k e ∙ ap (λ (z : List ℕ). S ++ z) (drop-replicate {A = ℕ} k w 0 h)

-- they are the bits that the node takes
pub pasted_part : (ws : List ℕ) (w size bits index : ℕ) → w * 64 ≡ size → size * index ≤ bits → bits % 64 ≡ 0 → size * index % 64 ≡ 0
    → bits ≤ 64 * length ws → Below (2 ^ 64) ws
    → (let n : ℕ = taken size bits index in
    let S : List ℕ = take (n / 64) (drop (size * index / 64) ws) in
    paste (replicate w 0) 0 S (length S) ≡ words w (message_part size (bits_of 64 (take (bits / 64) ws)) index))
pasted_part ws w size bits index e h b r g below =
    let n : ℕ = taken size bits index in
    let S : List ℕ = take (n / 64) (drop (size * index / 64) ws) in
    let lS : length S ≡ n / 64 = simp (length-take, length-drop) (omega arith) in
    pasted (replicate w 0) S (n / 64) lS ∙ copied_part ws w size bits index e h b r g below

-- a part of a block is filled from the words
pub paste_above : (bytes ws part : List ℕ) (l : Layer) (index n : ℕ) → Source bytes ws l → l.size * index ≤ l.span.bits → part ≡ replicate (length part) 0
    → 64 * length part ≡ l.size → n ≡ taken l.size l.span.bits index → (first k : ℕ) → first ≡ l.size * index / 64 → k ≡ n / 64 → (l.level ≡ 1 → ⊥)
    → Below (2 ^ 64) ws → paste part 0 (take k (drop first ws)) (length (take k (drop first ws))) ≡ words (length part) (taken_at bytes ws l index)
paste_above bytes ws part l index n s h zeros size en first k ef ek e below =
    let a = s.above e in
    let T : List ℕ = take k (drop first ws) in
    let lT : length T ≡ n / 64 = simp (length-take, length-drop) (omega (arith, ef, ek, en, a.0, a.1)) in
    pasted part T (n / 64) lT ∙ fill_above bytes ws part l index n s h zeros size en T first k refl ef ek e below

-- ---- the node at an index

module _ (l : Layer) (f : Counted l) (index : ℕ) (h : index < nodes_in l) where
  -- its place and block are what the compression needs
  pub fields_fit : (place : Place) (block : List ℕ) → place ≡ place_of l index → length block ≡ 64 → FieldsFit place block
  fields_fit place block e size =
      rw e (f.low, omega (arith, f.nodes), omega (arith, flag_low l.size (nodes_in l) index), most f.kind, size)
    where
      most : (l.size ≡ block_bits) ⊎ (l.size ≡ sequential_bits) → l.size - taken l.size l.span.bits index < 65536
      most (inl e) = omega arith
      most (inr e) = omega arith

-- ---- the loop over a layer's nodes

pub log_none : (at : ℕ) (log : List ℕ) (ns : List Node) → log ≡ log_up_to at log ns 0
log_none at log ns = sym (take-append-drop at log)

module _ {P : Params} {bytes ws : List ℕ} {l : Layer} {i : ℕ} {vs : List ℕ} (w : Written P bytes ws l i vs) where
  -- the next nodes find room, and what they take
  pub written-fitting : Fitting vs l
  written-fitting = record { counted = w.fits.counted; room = omega (arith, w.fits.room, w.same) }

  pub written-source : (index : ℕ) → index < nodes_in l → Source bytes vs l × (l.size * index ≤ l.span.bits)
  written-source index h = (source-kept bytes ws vs l w.there w.same, index-room l w.fits.counted index h)
