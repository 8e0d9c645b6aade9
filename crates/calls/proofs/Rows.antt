-- Laws: one level of the tree, from the blocks of its bits: its nodes in a row, and the subtrees over groups of children.
use Rattle.std.specs.Prelude.{◌≡◌, Bool, true, false, ℕ, suc, ◌+◌, ◌-◌, ◌*◌, ◌≤◌, ◌<◌, drop}
use Rattle.std.proofs.Math.Path.{refl}
use Rattle.std.proofs.Common.{sym, ap, ◌∙◌, add-zero, zero-add, suc-add, add-suc, zero-mul, suc-mul, mul-suc, mul_comm, add_comm, arith, length-append, take_at, take_all}
use mathlib.Core.List.{List, [], ◌∷◌, ◌++◌, map, append_assoc, append-nil, flatten}
use Rattle.std.proofs.Math.Nat.{zero-div}
use Rattle.std.proofs.Math.ListN.{length, replicate}
use Rattle.std.proofs.Math.Seq.{drop_at}
use Rattle.lists.specs.Append.{cons_eq}
use Rattle.lists.specs.Flatten.{flatten-append, map-append}
use Rattle.bits.specs.BitsLaws.{numbers-front}
use Rattle.tree.specs.Tree.{Params, Node, Subtree, words, node, output, blocks, padding, par, seq, no_chain, parallel, sequential, last_or, parent, parents, sequential_bits, block_bits, output_bits}
use Rattle.tree.proofs.TreeLaws.{length-output-node, length-seq_block, length-no_chain}
use Rattle.calls.specs.Area.{done_blocks, held_bits}
use Rattle.calls.proofs.Blocks.{done_is, blocks-done}
use Rattle.calls.proofs.Block.{block_of, block_of-chain}

-- ---- lists of lists of one length

abbrev pub AllLen {ℓ} : {A : Type ℓ} → ℕ → List (List A) → Type 0
AllLen k [] = Unit {0}
AllLen k (g ∷ gs) = (length g ≡ k) × AllLen k gs

pub all_len-snoc {ℓ} : {A : Type ℓ} (k : ℕ) (G : List (List A)) (g : List A) → AllLen k G → length g ≡ k → AllLen k (G ++ (g ∷ []))
all_len-snoc k [] g a h = (h, tt)
all_len-snoc k (x ∷ G) g a h = (a.0, all_len-snoc k G g a.1 h)

pub length-flatten {ℓ} : {A : Type ℓ} (k : ℕ) (G : List (List A)) → AllLen k G → length (flatten G) ≡ length G * k
unfolding flatten
length-flatten k [] a = sym (zero-mul k)
length-flatten k (g ∷ G) a = length-append g (flatten G) ∙ rw (a.0, length-flatten k G a.1, suc-mul (length G) k) (add_comm k (length G * k))

pub snoc-length {ℓ} : {A : Type ℓ} (xs : List A) (x : A) → length (xs ++ (x ∷ [])) ≡ suc (length xs)
snoc-length xs x = rw (length-append xs (x ∷ [])) (omega arith)

pub last_or-snoc {ℓ} : {A : Type ℓ} (d : A) (xs : List A) (x : A) → last_or d (xs ++ (x ∷ [])) ≡ x
last_or-snoc d [] x = refl
last_or-snoc d (y ∷ xs) x = last_or-snoc y xs x

-- ---- bits cut into full blocks and a last one, which is empty only where nothing came

pub record Cut (k : ℕ) (M : List Bool) (B : List (List Bool)) (l : List Bool) : Type 0 where
  pub size : 0 < k
  pub whole : M ≡ flatten B ++ l
  pub full : AllLen k B
  pub fits : length l ≤ k
  pub some : length l ≡ 0 → length B ≡ 0

module _ {k : ℕ} {M : List Bool} {B : List (List Bool)} {l : List Bool} (c : Cut k M B l) where
  pub cut-length : length M ≡ length B * k + length l
  cut-length = ap length c.whole ∙ length-append (flatten B) l ∙ rw (length-flatten k B c.full)

  -- the index of the last block
  pub cut-last : done_blocks k (length M) ≡ length B
  cut-last = go (length B) l cut-length c.fits c.some
    where
      go : (n : ℕ) (l : List Bool) → length M ≡ n * k + length l → length l ≤ k → (length l ≡ 0 → n ≡ 0) → done_blocks k (length M) ≡ n
      go n [] e h z =
          let m : length M ≡ 0 = e ∙ rw (z refl) (omega (arith, zero-mul k)) in
          rw (m, z refl) (zero-div k)
      go n (b ∷ l) e h z = done_is k c.size n (suc (length l)) (length M) e (omega arith) h

  pub cut-held : held_bits k (length M) ≡ length l
  cut-held = rw cut-last (omega (arith, cut-length, mul_comm k (length B)))

  pub cut-blocks : blocks k (length M) ≡ suc (length B)
  cut-blocks = blocks-done k c.size (length M) ∙ ap suc cut-last

  cut-padding : padding k (length M) ≡ k - length l
  cut-padding = rw cut-blocks (omega (arith, cut-length, c.fits, mul-suc k (length B), mul_comm k (length B)))

pub cut-more : {k : ℕ} {M : List Bool} {B : List (List Bool)} {l : List Bool} (b : Bool) → Cut k M B l → length l < k →
    Cut k (M ++ (b ∷ [])) B (l ++ (b ∷ []))
cut-more {k} {M} {B} {l} b c h = record {
  size = c.size;
  whole = ap (λ (x : List Bool). x ++ (b ∷ [])) c.whole ∙ append_assoc (flatten B) l (b ∷ []);
  full = c.full;
  fits = rw (snoc-length l b) h;
  some = λ e. absurd (omega (arith, snoc-length l b));
}

pub cut-full : {k : ℕ} {M : List Bool} {B : List (List Bool)} {l : List Bool} (b : Bool) → Cut k M B l → length l ≡ k →
    Cut k (M ++ (b ∷ [])) (B ++ (l ∷ [])) (b ∷ [])
unfolding flatten
cut-full {k} {M} {B} {l} b c h = record {
  size = c.size;
  whole = ap (λ (x : List Bool). x ++ (b ∷ [])) c.whole ∙ simp (flatten-append, append-nil);
  full = all_len-snoc k B l c.full h;
  fits = c.size;
  some = λ e. absurd (omega arith);
}

-- ---- the nodes over full blocks, one after the other; each knows the output before it

module _ (P : Params) where
  abbrev pub out : Node → List Bool
  out n = output P.rounds n

  abbrev pub row : (ℕ → List Bool → List Bool → Node) → ℕ → List Bool → List (List Bool) → List Node
  row f i c [] = []
  row f i c (b ∷ B) = f i c b ∷ row f (suc i) (out (f i c b)) B

  abbrev pub par_node : ℕ → ℕ → List Bool → List Bool → Node
  par_node level i c b = node P level i 0 0 (words 64 b)

  abbrev pub seq_node : ℕ → ℕ → List Bool → List Bool → Node
  seq_node level i c b = node P level i 0 0 (words 16 c ++ words 48 b)

  -- the output that the next node takes
  abbrev pub last_out : List Bool → List Node → List Bool
  last_out c ns = last_or c (map out ns)

  row_snoc : (f : ℕ → List Bool → List Bool → Node) (i : ℕ) (c : List Bool) (B : List (List Bool)) (b : List Bool) →
      row f i c (B ++ (b ∷ [])) ≡ row f i c B ++ (f (i + length B) (last_out c (row f i c B)) b ∷ [])
  row_snoc f i c [] b = rw (add-zero i) refl
  row_snoc f i c (x ∷ B) b = rw (row_snoc f (suc i) (out (f i c x)) B b, add-suc i (length B), suc-add i (length B)) refl

  pub row0_snoc : (f : ℕ → List Bool → List Bool → Node) (c : List Bool) (B : List (List Bool)) (b : List Bool) →
      row f 0 c (B ++ (b ∷ [])) ≡ row f 0 c B ++ (f (length B) (last_out c (row f 0 c B)) b ∷ [])
  row0_snoc f c B b = row_snoc f 0 c B b ∙ rw (zero-add (length B)) refl

  pub length-row : (f : ℕ → List Bool → List Bool → Node) (i : ℕ) (c : List Bool) (B : List (List Bool)) → length (row f i c B) ≡ length B
  length-row f i c [] = refl
  length-row f i c (x ∷ B) = ap suc (length-row f (suc i) (out (f i c x)) B)

  -- every chained output has 1,024 bits
  chained-length : (level i : ℕ) (c : List Bool) (B : List (List Bool)) → length c ≡ output_bits → length (last_out c (row (seq_node level) i c B)) ≡ output_bits
  chained-length level i c [] h = h
  chained-length level i c (b ∷ B) h =
      chained-length level (suc i) (out (seq_node level i c b)) B
      (length-output-node P P.rounds level i 0 0 (words 16 c ++ words 48 b) (length-seq_block P c b))

  -- what the sequential level takes first, after full blocks
  unfoldable pub chain : ℕ → List (List Bool) → List Bool
  chain level B = last_out no_chain (row (seq_node level) 0 no_chain B)

  chain_is : (level : ℕ) (B : List (List Bool)) → last_out no_chain (row (seq_node level) 0 no_chain B) ≡ chain level B
  unfolding chain
  chain_is level B = refl

  pub chain_none : (level : ℕ) → chain level [] ≡ no_chain
  unfolding chain
  chain_none level = refl

  pub chain_snoc : (level : ℕ) (B : List (List Bool)) (b : List Bool) → chain level (B ++ (b ∷ [])) ≡ out (seq_node level (length B) (chain level B) b)
  unfolding chain
  chain_snoc level B b = rw (row0_snoc (seq_node level) no_chain B b, map-append out) (last_or-snoc no_chain (map out (row (seq_node level) 0 no_chain B)) _)

  pub length-chain : (level : ℕ) (B : List (List Bool)) → length (chain level B) ≡ output_bits
  unfolding chain
  length-chain level B = chained-length level 0 no_chain B length-no_chain

  pub seq_snoc : (level : ℕ) (B : List (List Bool)) (b : List Bool) →
      row (seq_node level) 0 no_chain (B ++ (b ∷ [])) ≡ row (seq_node level) 0 no_chain B ++ (seq_node level (length B) (chain level B) b ∷ [])
  seq_snoc level B b = row0_snoc (seq_node level) no_chain B b ∙ rw (chain_is level B)

  -- ---- a level of the tree is its row and a last node

  -- the first of full blocks of n words each: what the first node takes, what is left for the others, and how their indices go on
  first_block : (n i : ℕ) (b : List Bool) (B : List (List Bool)) (e : List Bool) → length b ≡ 64 * n →
      (words n (flatten (b ∷ B) ++ e) ≡ words n b) × (drop (64 * n) (flatten (b ∷ B) ++ e) ≡ flatten B ++ e) × (i + suc (length B) ≡ suc i + length B)
  unfolding flatten
  first_block n i b B e l =
      rw (append_assoc b (flatten B) e) (numbers-front 64 n b (flatten B ++ e) (omega arith), drop_at b (flatten B ++ e) (64 * n) l, omega arith)

  par-row : (level p i : ℕ) (c : List Bool) (B : List (List Bool)) (e : List Bool) → AllLen block_bits B →
      par P level 0 p i (suc (length B)) (flatten B ++ e) ≡ row (par_node level) i c B ++ (node P level (i + length B) 0 p (words 64 e) ∷ [])
  unfolding flatten
  par-row level p i c [] e a = rw (add-zero i) refl
  par-row level p i c (b ∷ B) e a =
      let f = first_block 64 i b B e a.0 in
      rw (f.0, f.1, par-row level p (suc i) (out (par_node level i c b)) B e a.1, f.2) refl

  seq-row : (level p i : ℕ) (c : List Bool) (B : List (List Bool)) (e : List Bool) → AllLen sequential_bits B →
      seq P level p i c (suc (length B)) (flatten B ++ e)
      ≡ row (seq_node level) i c B ++ (node P level (i + length B) 1 p (words 16 (last_out c (row (seq_node level) i c B)) ++ words 48 e) ∷ [])
  unfolding flatten
  seq-row level p i c [] e a = rw (add-zero i) refl
  seq-row level p i c (b ∷ B) e a =
      let f = first_block 48 i b B e a.0 in
      rw (f.0, f.1, seq-row level p (suc i) (out (seq_node level i c b)) B e a.1, f.2) refl

  abbrev pub last_par : ℕ → ℕ → ℕ → List Bool → Node
  last_par level i z l = node P level i z (block_bits - length l) (block_of l)

  abbrev pub last_seq : ℕ → ℕ → List Bool → List Bool → Node
  last_seq level i c l = node P level i 1 (sequential_bits - length l) (block_of (c ++ l))

  pub parallel-one : (level : ℕ) (M : List Bool) → length M ≤ block_bits → parallel P level true M ≡ last_par level 0 1 M ∷ []
  unfolding block_of flatten
  parallel-one level M h =
      let c : Cut block_bits M [] M = record { size = omega arith; whole = refl; full = tt; fits = h; some = λ e. refl } in
      rw (cut-padding c, cut-blocks c) refl

  pub parallel-more : (level : ℕ) {M : List Bool} {B : List (List Bool)} {l : List Bool} → Cut block_bits M B l →
      parallel P level false M ≡ row (par_node level) 0 [] B ++ (last_par level (length B) 0 l ∷ [])
  unfolding block_of
  parallel-more level {M} {B} {l} c =
      rw (cut-padding c, cut-blocks c, c.whole, append_assoc (flatten B) l (replicate (block_bits - length l) false))
      (par-row level (block_bits - length l) 0 [] B (l ++ replicate (block_bits - length l) false) c.full ∙ rw (zero-add (length B)) refl)

  pub sequential_is : (level : ℕ) {M : List Bool} {B : List (List Bool)} {l : List Bool} → Cut sequential_bits M B l →
      sequential P level M ≡ row (seq_node level) 0 no_chain B ++ (last_seq level (length B) (chain level B) l ∷ [])
  sequential_is level {M} {B} {l} c =
      rw (cut-padding c, cut-blocks c, c.whole, append_assoc (flatten B) l (replicate (sequential_bits - length l) false))
      (seq-row level (sequential_bits - length l) 0 no_chain B (l ++ replicate (sequential_bits - length l) false) c.full
      ∙ rw (zero-add (length B), chain_is level B, block_of-chain (chain level B) l (length-chain level B) c.fits) refl)

-- ---- subtrees over groups of children

abbrev pub tops : List Subtree → List Node
tops ss = map (λ (s : Subtree). s.top.node) ss

-- nodes, each over its group
abbrev pub over : List (List Subtree) → List Node → List Subtree
over [] ns = []
over (g ∷ G) [] = []
over (g ∷ G) (n ∷ ns) = parent n g ∷ over G ns

pub over_snoc : (G : List (List Subtree)) (g : List Subtree) (ns : List Node) (n : Node) → length ns ≡ length G →
    over (G ++ (g ∷ [])) (ns ++ (n ∷ [])) ≡ over G ns ++ (parent n g ∷ [])
over_snoc [] g [] n e = refl
over_snoc [] g (m ∷ ns) n e = absurd (omega arith)
over_snoc (h ∷ G) g [] n e = absurd (omega arith)
over_snoc (h ∷ G) g (m ∷ ns) n e = cons_eq refl (over_snoc G g ns n (omega arith))

pub length_over : (G : List (List Subtree)) (ns : List Node) → length ns ≡ length G → length (over G ns) ≡ length G
length_over [] ns e = refl
length_over (g ∷ G) [] e = absurd (omega arith)
length_over (g ∷ G) (n ∷ ns) e = ap suc (length_over G ns (omega arith))

pub tops-over : (G : List (List Subtree)) (ns : List Node) → length ns ≡ length G → tops (over G ns) ≡ ns
tops-over [] [] e = refl
tops-over [] (n ∷ ns) e = absurd (omega arith)
tops-over (g ∷ G) [] e = absurd (omega arith)
tops-over (g ∷ G) (n ∷ ns) e = cons_eq refl (tops-over G ns (omega arith))

pub parents-over : (k : ℕ) (G : List (List Subtree)) (t : List Subtree) (ns : List Node) (n : Node) → AllLen k G → length ns ≡ length G →
    length t ≤ k →
    parents k (flatten G ++ t) (ns ++ (n ∷ [])) ≡ over G ns ++ (parent n t ∷ [])
unfolding flatten
parents-over k [] t [] n a e h = rw (take_all k t h)
parents-over k [] t (m ∷ ns) n a e h = absurd (omega arith)
parents-over k (g ∷ G) t [] n a e h = absurd (omega arith)
parents-over k (g ∷ G) t (m ∷ ns) n a e h =
    rw (append_assoc g (flatten G) t, take_at g (flatten G ++ t) k a.0, drop_at g (flatten G ++ t) k a.0) (cons_eq refl (parents-over k G t ns n a.1 (omega arith) h))
