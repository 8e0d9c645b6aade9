-- Laws: the collision theorem of demand 3: two different inputs with one digest lead back to the compression function, at a node
-- that the proof names.
use Rattle.std.specs.Prelude.{◌≡◌, Bool, false, ◌≢◌, ◌⊎◌, List, ◌++◌, ℕ, ◌+◌, ◌-◌, ◌/◌, ◌^◌, ◌<◌, length, replicate}
use Rattle.std.proofs.Common.{sym, ap, ◌∙◌, subst, inl, inr, arith, length-drop}
use Rattle.std.proofs.Math.Option.{some}
use Rattle.bits.specs.Bits.{numbers}
use Rattle.bits.specs.BitsLaws.{bytes_inj}
use Rattle.tree.specs.Tree.{Params, Valid, Node, words, output, tree, root, digest_bits, digest}
use Rattle.tree.specs.Place.{node_at, RootAt}
use Rattle.tree.proofs.TreeLaws.{length-key_words, node-params, length-output-node, words-output}
use Rattle.tree.proofs.Places.{tree-stands, tree-words, root_stands}
use Rattle.collision.specs.Clash.{Different, RootsDiffer, Clash, Meeting, output_as_words}
use Rattle.collision.proofs.Nodes.{Node_discrete}
use Rattle.collision.proofs.Descent.{descend}

-- ---- roots

-- roots with the same input come from the same parameters
pub same_params : (P Q : Params) (M N : List Bool) → Valid P → Valid Q → root P M ≡ root Q N → P ≡ Q
same_params P Q M N vP vQ e =
    let s = root_stands P M in
    let t = root_stands Q N in
    node-params P Q _ _ s.z s.p _ _ t.z t.p s.block t.block vP vQ s.flag t.flag s.pads t.pads
    (sym s.is ∙ e ∙ t.is)

-- a clash of two trees of P is one of a tree of P and a tree of Q, if P and Q are equal; its node stays as it is
unfoldable pub for_equal : (P Q : Params) (M N : List Bool) → P ≡ Q → Clash P.rounds P.rounds (tree P M) (tree P N)
    → Clash P.rounds Q.rounds (tree P M) (tree Q N)
for_equal P Q M N s c = record {
  level = c.level;
  index = c.index;
  a = c.a;
  b = c.b;
  at_a = c.at_a;
  at_b = subst (λ (X : Params). node_at (tree X N) c.level c.index ≡ some c.b) s c.at_b;
  other_a = c.other_a;
  other_b = subst (λ (X : Params). ¬ RootAt (tree X N) c.level c.index) s c.other_b;
  differ = c.differ;
  same = subst (λ (X : Params). output P.rounds c.a ≡ output X.rounds c.b) s c.same;
}

-- Whatever their digests, and whatever their lengths, two different inputs have different root inputs or a clash.
unfoldable pub roots_or-clash : (P Q : Params) (M N : List Bool) → Valid P → Valid Q → ¬ ((P ≡ Q) × (M ≡ N))
    → (root P M ≢ root Q N) ⊎ Clash P.rounds Q.rounds (tree P M) (tree Q N)
roots_or-clash P Q M N vP vQ different = go (Node_discrete (root P M) (root Q N))
  where
    finish : P ≡ Q → (M ≡ N) ⊎ Clash P.rounds P.rounds (tree P M) (tree P N)
        → (root P M ≢ root Q N) ⊎ Clash P.rounds Q.rounds (tree P M) (tree Q N)
    finish s (inl m) = absurd (different (s, m))
    finish s (inr c) = inr (for_equal P Q M N s c)

    go : Dec (root P M ≡ root Q N) → (root P M ≢ root Q N) ⊎ Clash P.rounds Q.rounds (tree P M) (tree Q N)
    go (no f) = inl f
    go (yes f) =
        let s = same_params P Q M N vP vQ f in
        finish s (descend P P.limit 1 M N (f ∙ sym (ap (λ (X : Params). root X N) s)))

-- ---- digests

pub length-digest_bits : (P : Params) (M : List Bool) → Valid P → length (digest_bits P M) ≡ P.d
length-digest_bits P M vP =
    let t = root_stands P M in
    let w : length (output P.rounds (root P M)) ≡ 1024 =
    rw t.is (length-output-node P P.rounds _ _ t.z t.p t.block t.full)
    in
    length-drop (1024 - P.d) (output P.rounds (root P M)) ∙ omega (arith, vP.d_high)

-- equal digests of one size come from roots whose outputs end in the same d bits
pub same-digest : (P Q : Params) (M N : List Bool) → Valid P → Valid Q → P.d ≡ Q.d → digest P M ≡ digest Q N → digest_bits P M ≡ digest_bits Q N
same-digest P Q M N vP vQ hd e =
    bytes_inj P.d (digest_bits P M) (digest_bits Q N) (length-digest_bits P M vP) (length-digest_bits Q N vQ ∙ sym hd)
    (e ∙ ap (λ (d : ℕ). numbers 8 ((d + 7) / 8) (digest_bits Q N ++ replicate 7 false)) (sym hd))

-- the demand's sentence for messages of any length, with the outputs as bits
unfoldable pub digests-or-clash : (P Q : Params) (M N : List Bool) → Valid P → Valid Q
    → Different P Q M N → P.d ≡ Q.d → digest P M ≡ digest Q N
    → RootsDiffer P Q M N ⊎ Clash P.rounds Q.rounds (tree P M) (tree Q N)
digests-or-clash P Q M N vP vQ different hd e =
    go (roots_or-clash P Q M N vP vQ (λ h. different (same h.0 h.1)))
  where
    same : P ≡ Q → M ≡ N → (M ≡ N) × (P.key ≡ Q.key) × (P.limit ≡ Q.limit) × (P.rounds ≡ Q.rounds)
    same p m = (m, ap (λ (X : Params). X.key) p, ap (λ (X : Params). X.limit) p, ap (λ (X : Params). X.rounds) p)

    go : (root P M ≢ root Q N) ⊎ Clash P.rounds Q.rounds (tree P M) (tree Q N)
        → RootsDiffer P Q M N ⊎ Clash P.rounds Q.rounds (tree P M) (tree Q N)
    go (inl f) = inl (record { differ = f; same = same-digest P Q M N vP vQ hd e })
    go (inr w) = inr w

-- ---- the output as words

-- the words that the next level reads from an output are those of the compression
read-words : (P : Params) (M : List Bool) (level index : ℕ) (a : Node) → Valid P → length M < 2 ^ 64 → node_at (tree P M) level index ≡ some a
    → words 16 (output P.rounds a) ≡ output_as_words P.rounds a
read-words P M level index a vP h e =
    let s = tree-stands P M level index a e in
    let k : length a.k ≡ 8 = rw s.is (length-key_words P.key) in
    let b : length a.block ≡ 64 = rw s.is s.full in
    words-output P.rounds a k b (tree-words P M level index a vP h e)

-- For messages of at most 2^64 - 1 bits, whose nodes have words as input, the outputs of a clash agree as 16 words too.
pub clash-words : (P Q : Params) (M N : List Bool) → Valid P → Valid Q → length M < 2 ^ 64 → length N < 2 ^ 64
    → (c : Clash P.rounds Q.rounds (tree P M) (tree Q N)) → output_as_words P.rounds c.a ≡ output_as_words Q.rounds c.b
clash-words P Q M N vP vQ hM hN c =
    sym (read-words P M c.level c.index c.a vP hM c.at_a) ∙ ap (words 16) c.same ∙ read-words Q N c.level c.index c.b vQ hN c.at_b

-- ---- the theorem

-- "For any two different inputs (message, key, height limit, rounds) with one digest size and equal digests, either the root
-- inputs differ, or some node other than the root, at the same level and index in both trees, has different inputs and the same
-- 1,024-bit output." For valid parameters and messages of at most 2^64 - 1 bits.
unfoldable pub collision : (P Q : Params) (M N : List Bool) → Valid P → Valid Q → length M < 2 ^ 64 → length N < 2 ^ 64
    → Different P Q M N → P.d ≡ Q.d → digest P M ≡ digest Q N
    → RootsDiffer P Q M N ⊎ Meeting P Q M N
collision P Q M N vP vQ hM hN different hd e = go (digests-or-clash P Q M N vP vQ different hd e)
  where
    go : RootsDiffer P Q M N ⊎ Clash P.rounds Q.rounds (tree P M) (tree Q N) → RootsDiffer P Q M N ⊎ Meeting P Q M N
    go (inl f) = inl f
    go (inr c) = inr (record { clash = c; same_words = clash-words P Q M N vP vQ hM hN c })
