-- Laws: a node as the code makes it: U and V in the log, and the words of its output given back.
use Rattle.std.specs.Prelude.{◌≡◌, List, [], ◌++◌, ℕ, ◌+◌, ◌-◌, ◌*◌, ◌≤◌, length, take, drop}
use Rattle.std.proofs.Common.{sym, ap, ◌∙◌, arith, append-nil, append_assoc, take_all, drop_of_length-le, drop-drop, length-take, length-drop}
use Rattle.std.proofs.lemmas.List.Edits.{sets}
use Rattle.std.proofs.lemmas.List.Edits.{sets-eq}
use Rattle.lists.specs.Part.{put}
use Rattle.lists.specs.PartLaws.{first_stores}
use Rattle.tree.proofs.OutputLaws.{length-node_log}
use Rattle.tree.specs.Tree.{Params, Node, last_or, no_node, out_words, node_log}

-- what is left of nodes that are made: U and V of each in the log from a place on, and the words of the last one given back
pub record Logged (P : Params) (nodes : List Node) (log : List ℕ) (at : ℕ) (out log' : List ℕ) : Type 0 where
  pub words : out ≡ out_words P (last_or no_node nodes)
  pub logged : log' ≡ sets log at (node_log nodes)

-- ---- the rest of the log, from a place on, lent to a step

abbrev pub log_rest : ℕ → List ℕ → List ℕ
log_rest at log = take (length log - at) (drop at log)

pub length-log_rest : (at : ℕ) (log : List ℕ) → length (log_rest at log) ≡ length log - at
length-log_rest at log = simp (length-take, length-drop) (omega arith)

-- what was stored from its first word on stands in the log from that place on
pub stored_rest : (xs : List ℕ) (at : ℕ) (log : List ℕ) {rest log' : List ℕ} → at + length xs ≤ length log → rest ≡ sets (log_rest at log) 0 xs
    → log' ≡ put at (length log - at) log rest → log' ≡ sets log at xs
stored_rest xs at log room er el =
    let none : drop (length log - at) (drop at log) ≡ [] = drop_of_length-le (drop at log) (rw (length-drop at log) (omega arith)) in
    let all : log_rest at log ≡ drop at log = take_all (length log - at) (drop at log) (rw (length-drop at log) (omega arith)) in
    let stored : sets (log_rest at log) 0 xs ≡ xs ++ drop (at + length xs) log =
    ap (λ (l : List ℕ). sets l 0 xs) all ∙ first_stores xs (drop at log) (rw (length-drop at log) (omega arith)) ∙ ap (λ (l : List ℕ). xs ++ l) (drop-drop (length xs) at log) in
    el ∙ rw (none, append-nil, er, stored) (sym (sets-eq xs log at room ∙ append_assoc (take at log) xs (drop (at + length xs) log)))

pub logged_rest : {P : Params} (nodes : List Node) (at : ℕ) (log : List ℕ) {out rest log' : List ℕ} → at + 2 * length nodes ≤ length log → Logged P nodes (log_rest at log) 0 out rest
    → log' ≡ put at (length log - at) log rest → Logged P nodes log at out log'
logged_rest nodes at log room l el = record { words = l.words; logged = stored_rest (node_log nodes) at log (rw (length-node_log nodes) room) l.logged el }
