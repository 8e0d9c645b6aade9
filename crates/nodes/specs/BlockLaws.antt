-- Laws: for the code that fills a block: with message bits, and with the values of children.
use Rattle.std.specs.Prelude.{◌≡◌, refl, Bool, false, List, [], ◌∷◌, ◌++◌, ℕ, zero, suc, ◌+◌, ◌-◌, ◌*◌, ◌/◌, ◌≤◌, ◌<◌, min, length, take, drop, replicate}
use Rattle.std.proofs.Common.{sym, ap, ◌∙◌, append_assoc, arith, add-one, drop-drop}
use Rattle.std.proofs.lemmas.List.{length-replicate}
use Rattle.std.proofs.Math.Seq.{paste, take-append-add}
use Rattle.bits.specs.Bits.{bits_of, filled}
use Rattle.bits.specs.BitsLaws.{bits_of-zeros}
use Rattle.tree.specs.Tree.{Params, words, block_bits}
use Rattle.bits.specs.Piece.{Piece, piece_bits}
use Rattle.node.specs.Words.{node_words}
use Rattle.shape.specs.Shape.{taken, block_padding}
use Rattle.nodes.specs.Value.{message_part, joined_values, child_words, block_from, value, level_values, node_block}
use Rattle.tree.proofs.Count.{level_nodes}
use Rattle.bits.specs.PieceLaws.{Fits, length-piece_bits}
use Rattle.nodes.specs.ValueLaws.{length-value, joined-zero, joined-suc, length-joined_values}
use Rattle.node.specs.NodeLaws.{paste-at}
use Rattle.lists.specs.Replicate.{take-replicate, drop-replicate}
use Rattle.lists.specs.Take.{drop-take}

pub take_min : {A : Type 0} (a b : ℕ) (l : List A) → take a (take b l) ≡ take (min a b) l
take_min zero b l = let e : min 0 b ≡ 0 = omega arith in rw e
take_min (suc a) zero l = let e : min (suc a) 0 ≡ 0 = omega arith in rw e
take_min (suc a) (suc b) [] = let e : min (suc a) (suc b) ≡ suc (min a b) = omega arith in rw e
take_min (suc a) (suc b) (x ∷ l) = let e : min (suc a) (suc b) ≡ suc (min a b) = omega arith in rw (e, take_min a b l)

-- w zero words, filled with the message bits of the node at an index, from a bit of the bytes on
pub filled-part : (m : Piece) (w size index from n : ℕ) → w * 64 ≡ size → size * index ≤ m.count → Fits m
    → from ≡ m.start + size * index → n ≡ taken size m.count index
    → filled (replicate w 0) 0 m.bytes from n ≡ words w (message_part size (piece_bits m) index)
unfolding filled
filled-part m w size index from n e h g ef en =
    let B : List Bool = bits_of 8 m.bytes in
    let D : List Bool = drop m.start B in
    let l : length (replicate {A = ℕ} w 0) ≡ w = length-replicate w 0 in
    let lp : length (take m.count D) ≡ m.count = length-piece_bits m g in
    let zs : bits_of 64 (replicate w 0) ≡ replicate size false = bits_of-zeros 64 w ∙ ap (λ (k : ℕ). replicate k false) e in
    let z : 0 + n ≡ n = omega arith in
    let r : drop n (replicate size false) ≡ replicate (size - n) false = drop-replicate n size false (omega arith) in
    let b : m.count ≡ size * index + (m.count - size * index) = omega arith in
    let t : take size (drop (size * index) (take m.count D)) ≡ take n (drop from B) =
    ap (λ (k : ℕ). take size (drop (size * index) (take k D))) b
    ∙ ap (take size) (drop-take (size * index) (m.count - size * index) D)
    ∙ take_min size (m.count - size * index) (drop (size * index) D)
    ∙ rw (en, ef) (ap (take (taken size m.count index)) (drop-drop (size * index) m.start B)) in
    let p : paste (bits_of 64 (replicate w 0)) 0 (drop from B) n ≡ take n (drop from B) ++ replicate (size - n) false =
    rw (zs, z, r) in
    let q : message_part size (take m.count D) index ≡ take n (drop from B) ++ replicate (size - n) false = rw (t, lp, en) in
    rw (l, p, q)

-- the same, where the bytes before the node's are counted
pub bytes-before : (w index : ℕ) → 8 * (64 * w / 8 * index) ≡ 64 * w * index
bytes-before w index =
    let e : 64 * w / 8 ≡ 8 * w = omega arith in
    rw e (omega arith)

pub message-filled : (m : Piece) (w index n : ℕ) → Fits m → 64 * w * index ≤ m.count → n ≡ taken (64 * w) m.count index
    → filled (replicate w 0) 0 m.bytes (8 * (64 * w / 8 * index) + m.start) n ≡ words w (message_part (64 * w) (piece_bits m) index)
message-filled m w index n g i en =
    filled-part m w (64 * w) index (8 * (64 * w / 8 * index) + m.start) n (omega arith) i g (omega (arith, bytes-before w index)) en

-- ---- children

pub child_none : (f : ℕ → List ℕ) (room a : ℕ) → replicate (16 * room) 0 ≡ child_words f room a 0
child_none f room a =
    let e : 16 * (room - 0) ≡ 16 * room = omega arith in
    rw (joined-zero f a, e)

-- one child more is written to its place of the block
child_more : (f : ℕ → List ℕ) (room a j : ℕ) → ((i : ℕ) → length (f i) ≡ 16) → j < room
    → paste (child_words f room a j) (16 * j) (f (a + j)) (length (f (a + j))) ≡ child_words f room a (j + 1)
child_more f room a j len h =
    let p : List ℕ = joined_values f a j in
    let s : List ℕ = f (a + j) in
    let z : List ℕ = replicate (16 * (room - j)) 0 in
    let d : drop (length s) z ≡ replicate (16 * (room - (j + 1))) 0 =
    rw (len (a + j)) (drop-replicate 16 (16 * (room - j)) 0 (omega arith) ∙ ap (λ (k : ℕ). replicate k 0) (left room j h)) in
    let e : joined_values f a (j + 1) ≡ p ++ s = rw add-one (joined-suc f a j) in
    paste-at p s z (16 * j) (length s) (length-joined_values f a j len) refl
    ∙ ap (λ (w : List ℕ). p ++ (s ++ w)) d
    ∙ rw e (sym (append_assoc p s (replicate (16 * (room - (j + 1))) 0)))
  where
    left : (room j : ℕ) → j < room → 16 * (room - j) - 16 ≡ 16 * (room - (j + 1))
    left room j h = omega arith

-- the children fit as well where there is room for one fewer
pub child_fewer : (f : ℕ → List ℕ) (room a n : ℕ) → ((i : ℕ) → length (f i) ≡ 16) → n ≤ room
    → take (16 * room) (child_words f (suc room) a n) ≡ child_words f room a n
child_fewer f room a n len h =
    let J : List ℕ = joined_values f a n in
    let Z : List ℕ = replicate (16 * (suc room - n)) 0 in
    let l : length J ≡ 16 * n = length-joined_values f a n len in
    let e : 16 * room ≡ length J + 16 * (room - n) = omega arith in
    ap (λ (k : ℕ). take k (J ++ Z)) e
    ∙ take-append-add J Z (16 * (room - n))
    ∙ ap (λ (w : List ℕ). J ++ w) (take-replicate (16 * (room - n)) (16 * (suc room - n)) 0 (omega arith))

-- ---- the block of a node

pub block-leaf : (P : Params) (M : List Bool) (level index : ℕ) → level ≡ 1
    → words 64 (message_part block_bits M index) ≡ node_block P M level index
unfolding block_from
block-leaf P M level index e = rw e

pub block-above : (P : Params) (m : Piece) (level index n : ℕ) → 1 < level → Fits m
    → n ≡ taken 4 (level_nodes m.count (level - 1)) index
    → child_words (level_values P (piece_bits m) (level - 1)) 4 (4 * index) n ≡ node_block P (piece_bits m) level index
unfolding block_from
block-above P m zero index n h g en = absurd (omega arith)
block-above P m (suc zero) index n h g en = absurd (omega arith)
block-above P m (suc (suc l)) index n h g en =
    let e : suc (suc l) - 1 ≡ suc l = omega arith in
    let k : n ≡ taken 4 (level_nodes m.count (suc l)) index = rw e at en in
    rw (length-piece_bits m g, k)

-- the value of a node, from its block
pub value_made : (P : Params) (m : Piece) (level index z : ℕ) (block : List ℕ) → 0 < level → Fits m
    → block ≡ node_block P (piece_bits m) level index
    → node_words P level index z (block_padding m.count level index) block ≡ value P (piece_bits m) level index z
unfolding value
value_made P m zero index z block h g eb = absurd (omega arith)
value_made P m (suc l) index z block h g eb =
    let e : suc l - 1 ≡ l = omega arith in
    rw (eb, e, length-piece_bits m g)

-- and that of a leaf, with the padding bits and the block that were worked out for it
pub leaf-made : (P : Params) (m : Piece) (index z p : ℕ) (block : List ℕ) → Fits m → p ≡ block_padding m.count 1 index
    → block ≡ words 64 (message_part block_bits (piece_bits m) index) → node_words P 1 index z p block ≡ value P (piece_bits m) 1 index z
leaf-made P m index z p block g ep eb =
    rw ep (value_made P m 1 index z block (omega arith) g (eb ∙ block-leaf P (piece_bits m) 1 index refl))

-- the values of a level have 16 words each
pub length-values : (P : Params) (M : List Bool) (level : ℕ) → 0 < level → (index : ℕ) → length (level_values P M level index) ≡ 16
length-values P M zero h index = absurd (omega arith)
length-values P M (suc l) h index = length-value P M l index 0

-- one child more is put behind those that are there
pub child_put : (f : ℕ → List ℕ) (room a j : ℕ) (ws made : List ℕ) → ((i : ℕ) → length (f i) ≡ 16) → j < room
    → ws ≡ child_words f room a j → made ≡ f (a + j) → paste ws (16 * j) made (length made) ≡ child_words f room a (j + 1)
child_put f room a j ws made len h ew em = rw (ew, em) (child_more f room a j len h)

-- two children more, the second behind the first
pub pair_put : (f : ℕ → List ℕ) (room a j : ℕ) (ws first second : List ℕ) → ((i : ℕ) → length (f i) ≡ 16) → j + 1 < room
    → ws ≡ child_words f room a j → first ≡ f (a + j) → second ≡ f (a + j + 1)
    → paste (paste ws (16 * j) first (length first)) (16 * j + 16) second (length second) ≡ child_words f room a (j + 2)
pair_put f room a j ws first second len h ew ef es =
    let w : 16 * j + 16 ≡ 16 * (j + 1) = omega arith in
    let i : a + j + 1 ≡ a + (j + 1) = omega arith in
    let t : j + 2 ≡ j + 1 + 1 = omega arith in
    rw (w, t)
    (child_put f room a (j + 1) (paste ws (16 * j) first (length first)) second len h
    (child_put f room a j ws first len (omega arith) ew ef) (rw i at es))
