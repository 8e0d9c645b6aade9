-- Laws: of Value: the values' lengths and ranges, and the theorem that the value worked out node by node is the output of the
-- node at that place of the levels.
use Rattle.std.specs.Prelude.{◌≡◌, Bool, true, false, List, [], ◌++◌, ℕ, zero, suc, ◌+◌, ◌-◌, ◌*◌, ◌^◌, ◌≤◌, ◌<◌, min, eqb, leb, length, take, drop, replicate}
use Rattle.std.proofs.Math.Path.{refl}
use Rattle.std.proofs.Common.{sym, ap, ◌∙◌, append-nil, append_assoc, arith, leb-true, leb-false, length-append, length-drop, take_all, take_at, drop_at}
use Rattle.std.proofs.Math.Option.{none}
use Rattle.std.proofs.lemmas.List.{take-append-le, drop-append-le}
use Rattle.std.proofs.Math.Seq.{take-append-add}
use Rattle.lists.specs.Replicate.{take-replicate}
use Rattle.lists.specs.Below.{Below, none}
use Rattle.lists.specs.BelowLaws.{below-append, below-zeros}
use Rattle.bits.specs.Bits.{digit}
use Rattle.tree.specs.Tree.{Params, words, block_bits, output_bits}
use Rattle.tree.proofs.Count.{level_nodes}
use Rattle.node.specs.Words.{node_words}
use Rattle.node.specs.WordLaws.{length-node_words, below-node_words}
use Rattle.shape.specs.Shape.{taken, block_padding, sequential_nodes}
use Rattle.nodes.specs.Value.{message_part, joined_values, child_words, block_from, value, level_values, chained, chain}

-- so many elements from n on, of a list that zeros follow
pub pad_part : {A : Type 0} (s n q : ℕ) (M : List A) (z : A) → n ≤ length M → n + s ≤ length M + q
    → take s (drop n (M ++ replicate q z)) ≡ take s (drop n M) ++ replicate (s - min s (length M - n)) z
pad_part {A} s n q M z h g = drop-part ∙ go (leb s (length D)) refl
  where
    D : List A
    D = drop n M

    drop-part : take s (drop n (M ++ replicate q z)) ≡ take s (drop n M ++ replicate q z)
    drop-part = ap (take s) (drop-append-le n M (replicate q z) h)

    length-D : length (drop n M) ≡ length M - n
    length-D = length-drop n M

    go : (b : Bool) → leb s (length (drop n M)) ≡ b
        → take s (drop n M ++ replicate q z) ≡ take s (drop n M) ++ replicate (s - min s (length M - n)) z
    go true e =
        let l : s ≤ length (drop n M) = leb-true s (length (drop n M)) e in
        let o : s - min s (length M - n) ≡ 0 = omega (arith, length-D) in
        rw (take-append-le s (drop n M) (replicate q z) l, o) (sym (append-nil (take s (drop n M))))
    go false e =
        let l : length (drop n M) < s = leb-false s (length (drop n M)) e in
        let k : s - min s (length M - n) ≡ s - length (drop n M) = omega (arith, length-D) in
        let w : s ≡ length (drop n M) + (s - length (drop n M)) = omega arith in
        let t : take (s - length (drop n M)) (replicate q z) ≡ replicate (s - length (drop n M)) z =
        take-replicate (s - length (drop n M)) q z (omega (arith, length-D)) in
        ap (λ (x : ℕ). take x (drop n M ++ replicate q z)) w
        ∙ take-append-add (drop n M) (replicate q z) (s - length (drop n M))
        ∙ rw (t, k, take_all s (drop n M) (omega arith))

-- ---- the values of nodes, joined

pub joined-zero : (f : ℕ → List ℕ) (a : ℕ) → joined_values f a 0 ≡ []
unfolding joined_values
joined-zero f a = refl

pub joined-suc : (f : ℕ → List ℕ) (a n : ℕ) → joined_values f a (suc n) ≡ joined_values f a n ++ f (a + n)
unfolding joined_values
joined-suc f a n = refl

joined-add : (f : ℕ → List ℕ) (a m n : ℕ) → joined_values f a (m + n) ≡ joined_values f a m ++ joined_values f (a + m) n
joined-add f a m zero =
    let e : m + 0 ≡ m = omega arith in
    rw (e, joined-zero f (a + m)) (sym (append-nil (joined_values f a m)))
joined-add f a m (suc n) =
    let e : m + suc n ≡ suc (m + n) = omega arith in
    let g : a + (m + n) ≡ a + m + n = omega arith in
    rw (e, joined-suc f a (m + n), joined-suc f (a + m) n, joined-add f a m n, g)
    (append_assoc (joined_values f a m) (joined_values f (a + m) n) (f (a + m + n)))

pub joined-cons : (f : ℕ → List ℕ) (a n : ℕ) → joined_values f a (suc n) ≡ f a ++ joined_values f (suc a) n
unfolding joined_values
joined-cons f a n =
    let e : suc n ≡ 1 + n = omega arith in
    let z : a + 0 ≡ a = omega arith in
    let s : a + 1 ≡ suc a = omega arith in
    ap (joined_values f a) e ∙ joined-add f a 1 n ∙ rw (z, s)

pub length-joined_values : (f : ℕ → List ℕ) (a n : ℕ) → ((j : ℕ) → length (f j) ≡ 16) → length (joined_values f a n) ≡ 16 * n
length-joined_values f a zero h = rw (joined-zero f a) (omega arith)
length-joined_values f a (suc n) h =
    rw (joined-suc f a n, length-append, length-joined_values f a n h, h (a + n)) (omega arith)

pub below-joined_values : (f : ℕ → List ℕ) (a n : ℕ) → ((j : ℕ) → Below (2 ^ 64) (f j)) → Below (2 ^ 64) (joined_values f a n)
below-joined_values f a zero h = rw (joined-zero f a) none
below-joined_values f a (suc n) h =
    rw (joined-suc f a n) (below-append (below-joined_values f a n h) (h (a + n)))

-- the values that a node at index i takes, of c nodes below it and q at most
pub joined-part : (f : ℕ → List ℕ) (q c i : ℕ) → ((j : ℕ) → length (f j) ≡ 16) → q * i ≤ c
    → take (16 * q) (drop (16 * (q * i)) (joined_values f 0 c)) ≡ joined_values f (q * i) (taken q c i)
joined-part f q c i h g =
    let a : ℕ = q * i in
    let n : ℕ = taken q c i in
    let e : c ≡ a + (n + (c - a - n)) = omega arith in
    let z : 0 + a ≡ a = omega arith in
    let s : joined_values f 0 c ≡ joined_values f 0 a ++ (joined_values f a n ++ joined_values f (a + n) (c - a - n)) =
    ap (joined_values f 0) e ∙ joined-add f 0 a (n + (c - a - n)) ∙ rw (z, joined-add f a n (c - a - n)) in
    let d : drop (16 * a) (joined_values f 0 c) ≡ joined_values f a n ++ joined_values f (a + n) (c - a - n) =
    ap (drop (16 * a)) s
    ∙ drop_at (joined_values f 0 a) (joined_values f a n ++ joined_values f (a + n) (c - a - n)) (16 * a) (length-joined_values f 0 a h) in
    ap (take (16 * q)) d ∙ ends q a n f h (c - a - n) (omega arith)
  where
    -- either the node is full, or no value is left
    ends : (q a n : ℕ) (f : ℕ → List ℕ) → ((j : ℕ) → length (f j) ≡ 16) → (k : ℕ) → (n ≤ q) × ((n < q) → k ≡ 0)
        → take (16 * q) (joined_values f a n ++ joined_values f (a + n) k) ≡ joined_values f a n
    ends q a n f h k e = go (leb q n) refl
      where
        go : (b : Bool) → leb q n ≡ b → take (16 * q) (joined_values f a n ++ joined_values f (a + n) k) ≡ joined_values f a n
        go true t =
            let l = leb-true q n t in
            take_at (joined_values f a n) (joined_values f (a + n) k) (16 * q) (length-joined_values f a n h ∙ omega arith)
        go false t =
            let o : k ≡ 0 = e.1 (leb-false q n t) in
            rw (o, joined-zero f (a + n), append-nil) (take_all (16 * q) (joined_values f a n) (omega (arith, length-joined_values f a n h)))

-- ---- the definitions, one step each

module _ (P : Params) (M : List Bool) where
  pub value-one : (index z : ℕ)
      → value P M 1 index z ≡ node_words P 1 index z (block_bits - taken block_bits (length M) index) (words 64 (message_part block_bits M index))
  unfolding value block_padding block_from
  value-one index z = refl

  pub value-suc : (h index z : ℕ)
      → (let n : ℕ = taken 4 (level_nodes (length M) (suc h)) index in
      value P M (suc (suc h)) index z
      ≡ node_words P (suc (suc h)) index z (output_bits * (4 - n)) (child_words (level_values P M (suc h)) 4 (4 * index) n))
  unfolding value block_padding block_from
  value-suc h index z = refl

  pub chain-zero : (limit : ℕ) → chain P limit M 0 ≡ replicate 16 0
  unfolding chain
  chain-zero limit = refl

  pub chain-suc : (limit index : ℕ)
      → chain P limit M (suc index)
      ≡ chained P limit M index (digit (eqb (suc index) (sequential_nodes limit (length M)))) (chain P limit M index)
  unfolding chain
  chain-suc limit index = refl

-- ---- values: 16 words each, numbers below 2 ^ 64

module _ (P : Params) (M : List Bool) where
  pub length-value : (h index z : ℕ) → length (value P M (suc h) index z) ≡ 16
  unfolding value
  length-value h index z = length-node_words P (suc h) index z _ _

  pub below-value : (h index z : ℕ) → Below (2 ^ 64) (value P M (suc h) index z)
  unfolding value
  below-value h index z = below-node_words P (suc h) index z _ _

  pub length-chain : (limit index : ℕ) → length (chain P limit M index) ≡ 16
  length-chain limit zero = rw (chain-zero P M limit)
  length-chain limit (suc index) = rw (chain-suc P M limit index) (length-node_words P (suc limit) index _ _ _)

  pub below_chain : (limit index : ℕ) → Below (2 ^ 64) (chain P limit M index)
  below_chain limit zero = rw (chain-zero P M limit) (below-zeros (2 ^ 64) 16 (omega arith))
  below_chain limit (suc index) = rw (chain-suc P M limit index) (below-node_words P (suc limit) index _ _ _)
