-- Laws: for the code that writes the log of a layer, two words a node.
use Rattle.std.specs.Prelude.{◌≡◌, List, [], ◌∷◌, ◌++◌, ℕ, ◌+◌, ◌*◌, ◌≤◌, ◌<◌, length, take, drop}
use Rattle.std.proofs.Common.{sym, ap, ◌∙◌, append_assoc, arith, length-take, take_all, drop-drop}
use Rattle.std.proofs.Math.Option.{some}
use Rattle.std.proofs.Math.ListN.{get_elem?}
use Rattle.std.proofs.lemmas.List.Edits.{sets, sets-eq}
use Rattle.lists.specs.Part.{put}
use Rattle.lists.specs.PartLaws.{put-length, put-put}
use Rattle.tree.specs.Tree.{Node, node_log}
use Rattle.tree.proofs.Places.{index_below}
use Rattle.tree.proofs.OutputLaws.{length-node_log, node_log-append}
use Rattle.layer.specs.OverLaws.{take_more}

-- the log with U and V of i of the nodes ns from a place on
abbrev pub log_up_to : ℕ → List ℕ → List Node → ℕ → List ℕ
log_up_to at log ns i = put at (2 * i) log (node_log (take i ns))

module _ (at : ℕ) (log : List ℕ) (ns : List Node) (room : at + 2 * length ns ≤ length log) where
  length-up-to : (i : ℕ) → i ≤ length ns → length (node_log (take i ns)) ≡ 2 * i
  length-up-to i h = length-node_log (take i ns) ∙ simp length-take (omega arith)

  -- U and V of one node more
  pub log-more : (i : ℕ) (a : Node) (u v to : ℕ) → get_elem? ns i ≡ some a → u ≡ a.u → v ≡ a.v → to ≡ at + 2 * i
      → sets (log_up_to at log ns i) to (u ∷ v ∷ []) ≡ log_up_to at log ns (i + 1)
  log-more i a u v to e eu ev et =
      let h : i < length ns = index_below ns i a e in
      let L : List ℕ = log_up_to at log ns i in
      let size : length (node_log (take i ns)) ≡ 2 * i = length-up-to i (omega arith) in
      let lL : length L ≡ length log = put-length at (2 * i) log (node_log (take i ns)) (omega arith) size in
      let both : sets L to (u ∷ v ∷ []) ≡ put to 2 L (u ∷ v ∷ []) =
      rw (drop-drop 2 to L) (sets-eq (u ∷ v ∷ []) L to (omega arith) ∙ append_assoc (take to L) (u ∷ v ∷ []) (drop (to + 2) L)) in
      let joined : put (at + 2 * i) 2 L (u ∷ v ∷ []) ≡ put at (2 * i + 2) log (node_log (take i ns) ++ (u ∷ v ∷ [])) =
      put-put at (2 * i) 2 log (node_log (take i ns)) (u ∷ v ∷ []) (omega arith) size in
      let words : node_log (take (i + 1) ns) ≡ node_log (take i ns) ++ (u ∷ v ∷ []) =
      ap node_log (take_more ns i a e) ∙ node_log-append (take i ns) (a ∷ []) ∙ rw (eu, ev) in
      let more : 2 * i + 2 ≡ 2 * (i + 1) = omega arith in
      both
      ∙ ap (λ (k : ℕ). put k 2 L (u ∷ v ∷ [])) et ∙ joined
      ∙ ap (λ (k : ℕ). put at k log (node_log (take i ns) ++ (u ∷ v ∷ []))) more
      ∙ ap (put at (2 * (i + 1)) log) (sym words)

  pub log-all : (i : ℕ) → i ≡ length ns → log_up_to at log ns i ≡ put at (2 * length ns) log (node_log ns)
  log-all i e =
      ap (λ (l : List Node). put at (2 * i) log (node_log l)) (take_all i ns (omega arith))
      ∙ ap (λ (k : ℕ). put at (2 * k) log (node_log ns)) e
