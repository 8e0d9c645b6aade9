-- Laws: the node at an index of a layer: how many bits it takes, z, and what it takes.
use Rattle.std.specs.Prelude.{◌≡◌, refl, Bool, true, false, ◌⊎◌, List, ◌++◌, ℕ, suc, ◌+◌, ◌-◌, ◌*◌, ◌/◌, ◌%◌, ◌^◌, ◌≤◌, ◌<◌, min, eqb, length, take, drop, replicate}
use Rattle.std.proofs.Common.{sym, ap, ◌∙◌, inl, inr, mul_assoc, arith, eq-eqb, ne_eqb, eqb-true, length-append, length-take, length-drop}
use Rattle.std.proofs.lemmas.Bool.{eqb-false}
use Rattle.std.proofs.lemmas.List.{length-replicate}
use Rattle.lists.specs.Below.{Below}
use Rattle.lists.specs.BelowLaws.{below-append, below-zeros, below-take, below-drop}
use Rattle.lists.specs.Replicate.{drop-replicate}
use Rattle.lists.specs.Take.{drop-take}
use Rattle.bits.specs.Bits.{bits_of, filled}
use Rattle.bits.specs.BitsLaws.{length-bits_of, bits_of-append, bits_of-zeros, bits_of-take, bits_of-drop, numbers-exact}
use Rattle.bits.specs.Piece.{Piece}
use Rattle.bits.specs.PieceLaws.{spanned, length-piece_bits}
use Rattle.tree.specs.Tree.{words, block_bits, sequential_bits, blocks, padding}
use Rattle.shape.specs.Shape.{taken}
use Rattle.nodes.specs.Value.{message_part}
use Rattle.nodes.specs.BlockLaws.{take_min, filled-part}
use Rattle.layer.specs.declared.Layer.{Layer}
use Rattle.layer.specs.OneLayer.{nodes_in, taken_at, source, Source, Counted}

-- ---- what a node takes

-- nodes begin at whole words
pub whole_words : (size index : ℕ) → size % 64 ≡ 0 → size * index % 64 ≡ 0
whole_words size index h =
    let q : ℕ = size / 64 in
    let e : size ≡ 64 * q = omega arith in
    let f : size * index ≡ 64 * (q * index) = ap (λ (k : ℕ). k * index) e ∙ mul_assoc 64 q index in
    omega arith

pub length-source : (bytes ws : List ℕ) (l : Layer) → Source bytes ws l → length (source bytes ws l) ≡ l.span.bits
length-source bytes ws l s = go (eqb l.level 1) refl
  where
    go : (b : Bool) → eqb l.level 1 ≡ b → length (source bytes ws l) ≡ l.span.bits
    go true e = rw e (length-piece_bits (spanned bytes l.span) (s.message (eqb-true l.level 1 e)))
    go false e =
        let a = s.above (eqb-false l.level 1 e) in
        rw e (length-bits_of 64 (take (l.span.bits / 64) ws) ∙ simp length-take (omega (arith, a)))

min_le : (a b : ℕ) → min a b ≤ a
min_le a b = omega arith

-- words that are copied to zero words are the bits that the node takes
pub copied_part : (ws : List ℕ) (w size bits index : ℕ) → w * 64 ≡ size → size * index ≤ bits → bits % 64 ≡ 0 → size * index % 64 ≡ 0
    → bits ≤ 64 * length ws → Below (2 ^ 64) ws
    → (let n : ℕ = taken size bits index in
    let S : List ℕ = take (n / 64) (drop (size * index / 64) ws) in
    S ++ drop (n / 64) (replicate w 0) ≡ words w (message_part size (bits_of 64 (take (bits / 64) ws)) index))
copied_part ws w size bits index e h b r g below =
    let n : ℕ = taken size bits index in
    let q : ℕ = size * index / 64 in
    let B : ℕ = bits / 64 in
    let F : List ℕ = take B ws in
    let S : List ℕ = take (n / 64) (drop q ws) in
    let Z : List ℕ = replicate (w - n / 64) 0 in
    let lS : length S ≡ n / 64 = simp (length-take, length-drop) (omega arith) in
    let lV : length (bits_of 64 F) ≡ bits = length-bits_of 64 F ∙ simp length-take (omega arith) in
    let from : size * index ≡ q * 64 = omega arith in
    let cut : take size (drop (size * index) (bits_of 64 F)) ≡ bits_of 64 (take w (drop q F)) =
    ap (λ (k : ℕ). take size (drop k (bits_of 64 F))) from
    ∙ ap (take size) (bits_of-drop 64 q F)
    ∙ ap (λ (k : ℕ). take k (bits_of 64 (drop q F))) (sym e)
    ∙ bits_of-take 64 w (drop q F) in
    let split : B ≡ q + (B - q) = omega arith in
    let least : min w (B - q) ≡ n / 64 = omega arith in
    let part : take w (drop q F) ≡ S =
    ap (λ (k : ℕ). take w (drop q (take k ws))) split ∙ ap (take w) (drop-take q (B - q) ws) ∙ take_min w (B - q) (drop q ws)
    ∙ ap (λ (k : ℕ). take k (drop q ws)) least in
    let zeros : size - taken size (length (bits_of 64 F)) index ≡ (w - n / 64) * 64 = rw lV (omega arith) in
    let all : message_part size (bits_of 64 F) index ≡ bits_of 64 (S ++ Z) =
    rw (cut, part, zeros, ← bits_of-zeros 64 (w - n / 64)) (sym (bits_of-append 64 S Z)) in
    let some : n / 64 ≤ w = most w n size (min_le size (bits - size * index)) e in
    let lw : length (S ++ Z) ≡ w = simp (length-append, length-replicate) (rw lS (rest (n / 64) w some)) in
    let low : Below (2 ^ 64) (S ++ Z) =
    below-append (below-take (n / 64) (below-drop q below)) (below-zeros (2 ^ 64) (w - n / 64) (omega arith)) in
    ap (λ (z : List ℕ). S ++ z) (drop-replicate {A = ℕ} (n / 64) w 0 some) ∙ sym (ap (words w) all ∙ numbers-exact 64 w low lw)
  where
    most : (w n size : ℕ) → n ≤ size → w * 64 ≡ size → n / 64 ≤ w
    most w n size h e = omega arith

    rest : (a b : ℕ) → a ≤ b → a + (b - a) ≡ b
    rest a b h = omega arith

-- a part of a block is filled: from the message, or from the words
module _ (bytes ws part : List ℕ) (l : Layer) (index n : ℕ) (s : Source bytes ws l) (h : l.size * index ≤ l.span.bits)
    (zeros : part ≡ replicate (length part) 0) (size : 64 * length part ≡ l.size) (en : n ≡ taken l.size l.span.bits index) where
  pub fill_message : (byte : ℕ) → byte ≡ l.size * index / 8 → l.level ≡ 1
      → filled part 0 bytes (8 * byte + l.span.start) n ≡ words (length part) (taken_at bytes ws l index)
  fill_message byte eb e =
      let m : Piece = spanned bytes l.span in
      let from : ℕ = 8 * byte + l.span.start in
      let r : l.size * index % 64 ≡ 0 = whole_words l.size index s.whole in
      rw (eq-eqb l.level 1 e)
      (ap (λ (x : List ℕ). filled x 0 bytes from n) zeros
      ∙ filled-part m (length part) l.size index from n (omega arith) h (s.message e) (omega arith) en)

  -- T is copied to its front
  pub fill_above : (T : List ℕ) (first k : ℕ) → T ≡ take k (drop first ws) → first ≡ l.size * index / 64 → k ≡ n / 64 → (l.level ≡ 1 → ⊥)
      → Below (2 ^ 64) ws → T ++ drop (n / 64) part ≡ words (length part) (taken_at bytes ws l index)
  fill_above T first k et ef ek e below =
      let a = s.above e in
      let r : l.size * index % 64 ≡ 0 = whole_words l.size index s.whole in
      let S : List ℕ = take (taken l.size l.span.bits index / 64) (drop (l.size * index / 64) ws) in
      rw (ne_eqb l.level 1 e, et, ef, ek, en)
      (ap (λ (x : List ℕ). S ++ drop (taken l.size l.span.bits index / 64) x) zeros
      ∙ copied_part ws (length part) l.size l.span.bits index (omega arith) h a.0 r a.1 below)

-- ---- the node at an index

-- the bits that a node takes and those that pad its block, of m bits
pub block-bits : (m j : ℕ) → j < blocks block_bits m
    → (block_bits * j ≤ m) × (block_bits * j + block_bits ≤ m + padding block_bits m) × (block_bits * suc j - m ≡ block_bits - taken block_bits m j)
block-bits m j h = (omega arith, omega arith, omega arith)

pub sequential-bits : (m j : ℕ) → j < blocks sequential_bits m
    → (sequential_bits * j ≤ m) × (sequential_bits * j + sequential_bits ≤ m + padding sequential_bits m)
    × (sequential_bits * suc j - m ≡ sequential_bits - taken sequential_bits m j)
sequential-bits m j h = (omega arith, omega arith, omega arith)

-- it takes bits that are there
pub index-room : (l : Layer) → Counted l → (index : ℕ) → index < nodes_in l → l.size * index ≤ l.span.bits
index-room l f index h = go f.kind
  where
    go : (l.size ≡ block_bits) ⊎ (l.size ≡ sequential_bits) → l.size * index ≤ l.span.bits
    go (inl e) = rw e (block-bits l.span.bits index (rw e at h)).0
    go (inr e) = rw e (sequential-bits l.span.bits index (rw e at h)).0
