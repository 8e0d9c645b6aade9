-- Laws: of the definitions in Tree: how long each list is, which node stands at an index of a level, and how the levels follow
-- one another.
use Rattle.std.specs.Prelude.{◌≡◌, Bool, true, false, cond, eqb, T, length, drop, replicate}
use Rattle.std.proofs.Math.Path.{refl}
use Rattle.std.proofs.Common.{sym, ap, ◌∙◌, mod-lt, mul-le-mul_left, mul-suc, eqb-true, ne_eqb, eqb→eq, lit<, length-append, drop-drop, take_all}
use Rattle.std.proofs.Math.Option.{some}
use mathlib.Core.List.{List, [], ◌∷◌, ◌++◌, map, append-nil}
use Prim.Native.Nat.{ℕ, zero, suc, ◌+◌, ◌-◌, ◌*◌, ◌/◌, ◌%◌, ◌^◌, ◌≤◌, ◌<◌, max}
use Rattle.std.proofs.Math.Nat.{div-add-mod}
use native.Mathlib.Omega.{arith}
use Rattle.std.proofs.lemmas.Bool.{eqb-false}
use Rattle.std.proofs.Math.Dec.{eqb-suc-suc}
use Rattle.std.proofs.Math.ListN.{get_elem?}
use Rattle.std.proofs.lemmas.List.{length-replicate}
use Rattle.lists.specs.Append.{cons_eq}
use Rattle.lists.specs.Below.{Below, none, more}
use Rattle.lists.specs.BelowLaws.{below-append}
use Rattle.bits.specs.Bits.{digit, bits_of, numbers}
use Rattle.bits.specs.BitsLaws.{length-numbers, length-bits_of, bits_of-append, bits_of-zeros, bits_of-numbers, numbers-below, numbers-bits_of}
use Rattle.compress.specs.Compress.{Q, compressed, window_of}
use Rattle.compress.proofs.CompressLaws.{length-compressed, compressed-below}
use Rattle.tree.specs.Tree.{Params, Valid, Node, words, key_words, node_u, node_v, node, output, blocks, padding, padded, par, seq, no_chain, parallel, sequential, joined_outputs, levels, root_of}

-- ---- K

pub length-key_words : (key : List ℕ) → length (key_words key) ≡ 8
unfolding key_words
length-key_words key = length-numbers 64 8 (bits_of 8 (key ++ replicate (64 - length key) 0))

pub key_words-below : (key : List ℕ) → Below (2 ^ 64) (key_words key)
unfolding key_words
key_words-below key = numbers-below 64 8 (bits_of 8 (key ++ replicate (64 - length key) 0))

-- K is the key's bits, and zero bits after them
pub key-bits : (key : List ℕ) → length key ≤ 64 → bits_of 64 (key_words key) ≡ bits_of 8 key ++ replicate ((64 - length key) * 8) false
unfolding key_words
key-bits key h =
    let z : List ℕ = replicate (64 - length key) 0 in
    let l : length (bits_of 8 (key ++ z)) ≡ 512 = length-bits_of 8 (key ++ z) ∙ rw (length-append key z, length-replicate {A = ℕ} (64 - length key) 0) (omega arith) in
    bits_of-numbers 64 8 (bits_of 8 (key ++ z)) (omega arith) ∙ take_all 512 (bits_of 8 (key ++ z)) (omega arith) ∙ bits_of-append 8 key z
    ∙ rw (bits_of-zeros 8 (64 - length key)) refl

-- the key's bytes are read back from K
pub key_back : (key : List ℕ) → Below 256 key → length key ≤ 64 → numbers 8 (length key) (bits_of 64 (key_words key)) ≡ key
key_back key b h = rw (key-bits key h) (numbers-bits_of 8 (replicate ((64 - length key) * 8) false) b)

-- so K and the number of key bytes determine the key
key_words_inj : (k l : List ℕ) → Below 256 k → Below 256 l → length k ≤ 64 → length k ≡ length l → key_words k ≡ key_words l → k ≡ l
key_words_inj k l bk bl h e w = sym (key_back k bk h) ∙ rw (e, w) (key_back l bl (omega arith))

-- ---- U and V

-- U determines the level and the index
pub node_u_inj : (level index level' index' : ℕ) → index < 2 ^ 56 → index' < 2 ^ 56 → node_u level index ≡ node_u level' index'
    → (level ≡ level') × (index ≡ index')
node_u_inj level index level' index' h h' e = omega arith

pub node_u-below : (level index : ℕ) → level < 256 → index < 2 ^ 56 → node_u level index < 2 ^ 64
node_u-below level index h g = omega arith

-- V determines the rounds, the height limit, z, p, the number of key bytes and the digest size
node_v_inj : (P Q : Params) (z p z' p' : ℕ) → Valid P → Valid Q → z ≤ 1 → z' ≤ 1 → p ≤ 4096 → p' ≤ 4096 → node_v P z p ≡ node_v Q z' p'
    → record { rounds : P.rounds ≡ Q.rounds; limit : P.limit ≡ Q.limit; z : z ≡ z'; p : p ≡ p'; key : length P.key ≡ length Q.key; d : P.d ≡ Q.d }
node_v_inj P Q z p z' p' vp vq hz hz' hp hp' e = omega arith

pub node_v-below : (P : Params) (z p : ℕ) → Valid P → z < 16 → p < 65536 → node_v P z p < 2 ^ 64
node_v-below P z p vp hz hp = omega arith

-- so a node's input determines the parameters: K and V stand in it
pub node-params : (P Q : Params) (level index z p level' index' z' p' : ℕ) (B B' : List ℕ) → Valid P → Valid Q → z ≤ 1 → z' ≤ 1 → p ≤ 4096 → p' ≤ 4096
    → node P level index z p B ≡ node Q level' index' z' p' B' → P ≡ Q
node-params P Q level index z p level' index' z' p' B B' vp vq hz hz' hp hp' e =
    let c = node_v_inj P Q z p z' p' vp vq hz hz' hp hp' (ap (λ (n : Node). n.v) e) in
    let k = key_words_inj P.key Q.key vp.bytes vq.bytes vp.key_bytes c.key (ap (λ (n : Node). n.k) e) in
    λ i. record { key = k i; d = c.d i; limit = c.limit i; rounds = c.rounds i }

-- ---- outputs: 1,024 bits

pub length-window : (n : Node) → length n.k ≡ 8 → length n.block ≡ 64 → length (window_of n.k n.u n.v n.block) ≡ 89
length-window n hk hb = simp length-append (omega arith)

length-output : (r : ℕ) (n : Node) → length n.k ≡ 8 → length n.block ≡ 64 → length (output r n) ≡ 1024
unfolding output
length-output r n hk hb =
    let N : List ℕ = window_of n.k n.u n.v n.block in
    length-bits_of 64 (compressed r N) ∙ omega (arith, length-compressed r N (length-window n hk hb))

-- all words of a node's input are words
pub record Words (n : Node) : Type 0 where
  pub k : Below (2 ^ 64) n.k
  pub u : n.u < 2 ^ 64
  pub v : n.v < 2 ^ 64
  pub block : Below (2 ^ 64) n.block

Q-below : Below (2 ^ 64) Q
Q-below =
    more (lit< tt) (more (lit< tt) (more (lit< tt) (more (lit< tt) (more (lit< tt)
    (more (lit< tt) (more (lit< tt) (more (lit< tt) (more (lit< tt) (more (lit< tt)
    (more (lit< tt) (more (lit< tt) (more (lit< tt) (more (lit< tt) (more (lit< tt) none))))))))))))))

window-below : (n : Node) → Words n → Below (2 ^ 64) (window_of n.k n.u n.v n.block)
window-below n w = below-append Q-below (below-append w.k (more w.u (more w.v w.block)))

-- the words that the next level reads from an output are those that the compression gave
pub words-output : (r : ℕ) (n : Node) → length n.k ≡ 8 → length n.block ≡ 64 → Words n
    → words 16 (output r n) ≡ compressed r (window_of n.k n.u n.v n.block)
unfolding output
words-output r n hk hb w =
    let N : List ℕ = window_of n.k n.u n.v n.block in
    let l : length (compressed r N) ≡ 16 = length-compressed r N (length-window n hk hb) in
    let t = numbers-bits_of 64 [] (compressed-below r N (window-below n w)) in
    rw (l, append-nil) at t

pub length-no_chain : length no_chain ≡ 1024
unfolding no_chain
length-no_chain = length-replicate 1024 false

-- ---- padding

enough : (m size b : ℕ) → size * b + (m + (size - 1)) % size ≡ m + (size - 1) → (m + (size - 1)) % size < size → m ≤ size * b
enough m size b e h = omega arith

-- the blocks hold the bits
pub blocks-hold : (size m : ℕ) → 0 < size → m ≤ size * blocks size m
blocks-hold size m h =
    let b : ℕ = (m + (size - 1)) / size in
    let k : size * b ≤ size * max 1 b = mul-le-mul_left size (omega arith) in
    omega (arith, enough m size b (div-add-mod (m + (size - 1)) size) (mod-lt (m + (size - 1)) h))

-- what is padded fills its blocks
pub length-padded : (size : ℕ) (M : List Bool) → 0 < size → length (padded size M) ≡ size * blocks size (length M)
length-padded size M h =
    length-append M (replicate (padding size (length M)) false)
    ∙ omega (arith, length-replicate (padding size (length M)) false, blocks-hold size (length M) h)

-- ---- outputs of many nodes

-- the outputs of these nodes have 1,024 bits each
pub data Sized (r : ℕ) : List Node → Type 0 where
  nil : Sized r []
  cons : {a : Node} {ns : List Node} → length (output r a) ≡ 1024 → Sized r ns → Sized r (a ∷ ns)

pub length-joined : (P : Params) {ns : List Node} → Sized P.rounds ns → length (joined_outputs P ns) ≡ 1024 * length ns
unfolding mathlib.Core.List.flatten
length-joined P nil = refl
length-joined P (cons {a = a} {ns = ns} h hs) = length-append (output P.rounds a) (joined_outputs P ns) ∙ omega (arith, length-joined P hs)

-- ---- the nodes of a parallel level

-- what only the last of n nodes has: 0 at an index j before it

abbrev pub last_only : ℕ → ℕ → ℕ → ℕ
last_only n j x = cond (eqb (suc j) n) x 0

last_only-before : (n j x : ℕ) → suc j < n → last_only n j x ≡ 0
last_only-before n j x h = go (eqb (suc j) n) (eqb→eq (suc j) n)
  where
    go : (b : Bool) → (T b → suc j ≡ n) → cond b x 0 ≡ 0
    go true f = absurd (omega (arith, f tt))
    go false f = refl

last_only-suc : (n j x : ℕ) → last_only (suc n) (suc j) x ≡ last_only n j x
last_only-suc n j x = ap (λ (b : Bool). cond b x 0) (eqb-suc-suc (suc j) n)

pub last_only_le : (n j x : ℕ) → last_only n j x ≤ x
last_only_le n j x = go (eqb (suc j) n)
  where
    go : (b : Bool) → cond b x 0 ≤ x
    go true = omega arith
    go false = omega arith

padding-at : (size m j : ℕ) → 0 < size → j < blocks size m → last_only (blocks size m) j (padding size m) ≡ size * suc j - m
padding-at size m j h g = go (eqb (suc j) (blocks size m)) refl
  where
    q : ℕ
    q = (m + (size - 1)) / size

    go : (b : Bool) → eqb (suc j) (blocks size m) ≡ b → cond b (padding size m) 0 ≡ size * suc j - m
    go true e = rw (eqb-true (suc j) (blocks size m) e)
    go false e =
        let n : suc (suc j) ≤ q = omega (arith, eqb-false (suc j) (blocks size m) e) in
        let k : size * suc (suc j) ≤ size * q = mul-le-mul_left size n in
        omega (arith, mul-suc size (suc j), div-add-mod (m + (size - 1)) size)

-- the bits after those of one block more
drop-next : (size j : ℕ) (X : List Bool) → drop (size * j) (drop size X) ≡ drop (size * suc j) X
drop-next size j X =
    let e : size + size * j ≡ size * suc j = omega (arith, mul-suc size j) in
    drop-drop (size * j) size X ∙ ap (λ (k : ℕ). drop k X) e

-- the nodes of each level, from a level of m bits up, of which n may be parallel

abbrev pub counts : ℕ → ℕ → List ℕ
counts zero m = blocks 3072 m ∷ []
counts (suc n) m = cond (eqb (blocks 4096 m) 1) (blocks 4096 m ∷ []) (blocks 4096 m ∷ counts n (1024 * blocks 4096 m))

module _ (P : Params) where
  pub length-par : (level z p i n : ℕ) (X : List Bool) → length (par P level z p i n X) ≡ n
  length-par level z p i zero X = refl
  length-par level z p i (suc zero) X = refl
  length-par level z p i (suc (suc n)) X = ap suc (length-par level z p (suc i) (suc n) (drop 4096 X))

  -- node j of a level, which has index i + j: its block is the 4,096 bits from 4,096 j on
  pub par-at : (level z p i n : ℕ) (X : List Bool) (j : ℕ) → j < n
      → get_elem? (par P level z p i n X) j ≡ some (node P level (i + j) z (last_only n j p) (words 64 (drop (4096 * j) X)))
  par-at level z p i zero X j h = absurd (omega arith)
  par-at level z p i (suc zero) X zero h = let e : i + 0 ≡ i = omega arith in rw e
  par-at level z p i (suc zero) X (suc j) h = absurd (omega arith)
  par-at level z p i (suc (suc n)) X zero h =
      let e : i + 0 ≡ i = omega arith in
      rw (e, last_only-before (suc (suc n)) 0 p (omega arith))
  par-at level z p i (suc (suc n)) X (suc j) h =
      let e : suc i + j ≡ i + suc j = omega arith in
      par-at level z p (suc i) (suc n) (drop 4096 X) j (omega arith)
      ∙ rw (e, drop-next 4096 j X, last_only-suc (suc n) j p)

  -- ---- the nodes of the sequential level

  -- the output that node j takes: of the node before it, or the given one for the first
  unfoldable pub chain_at : ℕ → ℕ → List Bool → List Bool → ℕ → List Bool
  chain_at level i c X zero = c
  chain_at level i c X (suc j) =
      output P.rounds (node P level (i + j) 0 0 (words 16 (chain_at level i c X j) ++ words 48 (drop (3072 * j) X)))

  pub chain_at-zero : (level i : ℕ) (c X : List Bool) → chain_at level i c X 0 ≡ c
  unfolding chain_at
  chain_at-zero level i c X = refl

  pub chain_at-suc : (level i : ℕ) (c X : List Bool) (j : ℕ)
      → chain_at level i c X (suc j) ≡ output P.rounds (node P level (i + j) 0 0 (words 16 (chain_at level i c X j) ++ words 48 (drop (3072 * j) X)))
  unfolding chain_at
  chain_at-suc level i c X j = refl

  -- the same chain, seen from the second node on
  chain_at-next : (level i : ℕ) (c X : List Bool) (j : ℕ)
      → chain_at level (suc i) (output P.rounds (node P level i 0 0 (words 16 c ++ words 48 X))) (drop 3072 X) j ≡ chain_at level i c X (suc j)
  unfolding chain_at
  chain_at-next level i c X zero = let e : i + 0 ≡ i = omega arith in rw e
  chain_at-next level i c X (suc j) =
      let e : suc i + j ≡ i + suc j = omega arith in
      rw (chain_at-next level i c X j, drop-next 3072 j X, e)

  pub length-seq : (level p i : ℕ) (c : List Bool) (n : ℕ) (X : List Bool) → length (seq P level p i c n X) ≡ n
  length-seq level p i c zero X = refl
  length-seq level p i c (suc zero) X = refl
  length-seq level p i c (suc (suc n)) X =
      ap suc (length-seq level p (suc i) (output P.rounds (node P level i 0 0 (words 16 c ++ words 48 X))) (suc n) (drop 3072 X))

  -- node j of the level: the chain, and the 3,072 bits from 3,072 j on; the last has z = 1
  pub seq-at : (level p i : ℕ) (c : List Bool) (n : ℕ) (X : List Bool) (j : ℕ) → j < n
      → get_elem? (seq P level p i c n X) j
      ≡ some (node P level (i + j) (last_only n j 1) (last_only n j p) (words 16 (chain_at level i c X j) ++ words 48 (drop (3072 * j) X)))
  seq-at level p i c zero X j h = absurd (omega arith)
  seq-at level p i c (suc zero) X zero h = let e : i + 0 ≡ i = omega arith in rw (e, chain_at-zero level i c X)
  seq-at level p i c (suc zero) X (suc j) h = absurd (omega arith)
  seq-at level p i c (suc (suc n)) X zero h =
      let e : i + 0 ≡ i = omega arith in
      rw (e, chain_at-zero level i c X, last_only-before (suc (suc n)) 0 p (omega arith), last_only-before (suc (suc n)) 0 1 (omega arith))
  seq-at level p i c (suc (suc n)) X (suc j) h =
      let e : suc i + j ≡ i + suc j = omega arith in
      seq-at level p (suc i) (output P.rounds (node P level i 0 0 (words 16 c ++ words 48 X))) (suc n) (drop 3072 X) j (omega arith)
      ∙ rw (e, drop-next 3072 j X, last_only-suc (suc n) j p, last_only-suc (suc n) j 1, chain_at-next level i c X j)

  -- the chain that a node takes is the output of the node before it
  pub seq-chain : (level p i : ℕ) (c : List Bool) (n : ℕ) (X : List Bool) (j : ℕ) (a : Node) → suc j < n → get_elem? (seq P level p i c n X) j ≡ some a
      → chain_at level i c X (suc j) ≡ output P.rounds a
  seq-chain level p i c n X j a h e =
      let B : List ℕ = words 16 (chain_at level i c X j) ++ words 48 (drop (3072 * j) X) in
      let b : Node = node P level (i + j) 0 0 B in
      let t : get_elem? (seq P level p i c n X) j ≡ some b =
      seq-at level p i c n X j (omega arith) ∙ rw (last_only-before n j 1 h, last_only-before n j p h) in
      let f : b ≡ a = cc in
      chain_at-suc level i c X j ∙ ap (output P.rounds) f

  -- ---- the outputs of a level, joined

  pub length-output-node : (r level index z p : ℕ) (block : List ℕ) → length block ≡ 64 → length (output r (node P level index z p block)) ≡ 1024
  length-output-node r level index z p block h = length-output r (node P level index z p block) (length-key_words P.key) h

  -- a block of the sequential level has 64 words too
  pub length-seq_block : (c X : List Bool) → length (words 16 c ++ words 48 X) ≡ 64
  length-seq_block c X = simp (length-append, length-numbers)

  unfoldable pub par-sized : (level z p i n : ℕ) (X : List Bool) → Sized P.rounds (par P level z p i n X)
  par-sized level z p i zero X = nil
  par-sized level z p i (suc zero) X = cons (length-output-node P.rounds level i z p (words 64 X) (length-numbers 64 64 X)) nil
  par-sized level z p i (suc (suc n)) X =
      cons (length-output-node P.rounds level i z 0 (words 64 X) (length-numbers 64 64 X)) (par-sized level z p (suc i) (suc n) (drop 4096 X))

  unfoldable pub parallel-sized : (level : ℕ) (alone : Bool) (M : List Bool) → Sized P.rounds (parallel P level alone M)
  parallel-sized level alone M = par-sized level (digit alone) (padding 4096 (length M)) 0 (blocks 4096 (length M)) (padded 4096 M)

  pub length-parallel : (level : ℕ) (alone : Bool) (M : List Bool) → length (parallel P level alone M) ≡ blocks 4096 (length M)
  length-parallel level alone M = length-par level (digit alone) (padding 4096 (length M)) 0 (blocks 4096 (length M)) (padded 4096 M)

  pub length-sequential : (level : ℕ) (M : List Bool) → length (sequential P level M) ≡ blocks 3072 (length M)
  length-sequential level M = length-seq level (padding 3072 (length M)) 0 no_chain (blocks 3072 (length M)) (padded 3072 M)

  pub length-joined-parallel : (level : ℕ) (alone : Bool) (M : List Bool) → length (joined_outputs P (parallel P level alone M)) ≡ 1024 * blocks 4096 (length M)
  length-joined-parallel level alone M =
      length-joined P (parallel-sized level alone M) ∙ ap (λ (k : ℕ). 1024 * k) (length-parallel level alone M)

  -- node j of a parallel level over the bits M: the last has as many padding bits as its block goes past them
  pub parallel-at : (level : ℕ) (alone : Bool) (M : List Bool) (j : ℕ) → j < blocks 4096 (length M)
      → get_elem? (parallel P level alone M) j
      ≡ some (node P level j (digit alone) (4096 * suc j - length M) (words 64 (drop (4096 * j) (padded 4096 M))))
  parallel-at level alone M j h =
      let e : 0 + j ≡ j = omega arith in
      par-at level (digit alone) (padding 4096 (length M)) 0 (blocks 4096 (length M)) (padded 4096 M) j h ∙ rw (e, padding-at 4096 (length M) j (omega arith))

  -- node j of the sequential level over the bits M
  pub sequential-at : (level : ℕ) (M : List Bool) (j : ℕ) → j < blocks 3072 (length M)
      → get_elem? (sequential P level M) j
      ≡ some (node P level j (last_only (blocks 3072 (length M)) j 1) (3072 * suc j - length M)
      (words 16 (chain_at level 0 no_chain (padded 3072 M) j) ++ words 48 (drop (3072 * j) (padded 3072 M))))
  sequential-at level M j h =
      let e : 0 + j ≡ j = omega arith in
      seq-at level (padding 3072 (length M)) 0 no_chain (blocks 3072 (length M)) (padded 3072 M) j h ∙ rw (e, padding-at 3072 (length M) j (omega arith))

  -- ---- the levels

  -- one node only: no level above it
  pub levels-one : (n level : ℕ) (M : List Bool) → blocks 4096 (length M) ≡ 1 → levels P (suc n) level M ≡ parallel P level true M ∷ []
  levels-one n level M e = rw e

  pub levels-more : (n level : ℕ) (M : List Bool) → 1 < blocks 4096 (length M)
      → levels P (suc n) level M ≡ parallel P level false M ∷ levels P n (suc level) (joined_outputs P (parallel P level false M))
  levels-more n level M h = rw (ne_eqb (blocks 4096 (length M)) 1 (λ e. omega arith))

  -- one level and those above it, given whether it has one node only
  abbrev pub above : ℕ → ℕ → Bool → List Bool → List (List Node)
  above n level alone M = cond alone (parallel P level alone M ∷ []) (parallel P level alone M ∷ levels P n (suc level) (joined_outputs P (parallel P level alone M)))

  -- a tree is never empty
  pub levels_some : (n level : ℕ) (M : List Bool) → 0 < length (levels P n level M)
  levels_some zero level M = omega arith
  levels_some (suc n) level M = go (eqb (blocks 4096 (length M)) 1)
    where
      go : (b : Bool) → 0 < length (above n level b M)
      go true = omega arith
      go false = omega arith

  -- ---- how many nodes each level has, which goes by the number of bits alone

  pub levels-counts : (n level : ℕ) (M : List Bool) → map length (levels P n level M) ≡ counts n (length M)
  levels-counts zero level M = ap (λ (k : ℕ). k ∷ []) (length-sequential level M)
  levels-counts (suc n) level M = go (eqb (blocks 4096 (length M)) 1) (λ Y. levels-counts n (suc level) Y)
    where
      go : (b : Bool) → ((Y : List Bool) → map length (levels P n (suc level) Y) ≡ counts n (length Y))
          → map length (above n level b M) ≡ cond b (blocks 4096 (length M) ∷ []) (blocks 4096 (length M) ∷ counts n (1024 * blocks 4096 (length M)))
      go true f = ap (λ (k : ℕ). k ∷ []) (length-parallel level true M)
      go false f =
          cons_eq (length-parallel level false M) (f (joined_outputs P (parallel P level false M)) ∙ ap (counts n) (length-joined-parallel level false M))

-- ---- the root

pub root_of-cons : (ns : List Node) (T : List (List Node)) → 0 < length T → root_of (ns ∷ T) ≡ root_of T
root_of-cons ns [] h = absurd (omega arith)
root_of-cons ns (x ∷ T) h = refl
