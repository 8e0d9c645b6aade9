-- Laws: what follows from demand 3 for two runs that both ended.
use Rattle.std.specs.Prelude.{◌≡◌, refl, Bool, ◌⊎◌, Option, List, [], ◌∷◌, ◌++◌, ℕ, zero, suc, length}
use Rattle.std.proofs.Common.{sym, ap, ◌∙◌, append_assoc, append-nil}
use Rattle.bits.specs.Piece.{Piece, piece_bits, first_part, second_part}
use Rattle.bits.specs.PieceLaws.{cut-bits}
use Rattle.tree.specs.Tree.{Params, Node, order, digest, node_log}
use Rattle.calls.specs.Marks.{all_nodes}
use Rattle.collision.specs.Clash.{Different, RootsDiffer, Meeting}
use Rattle.collision.proofs.Collision.{collision}
use Rattle.runs.specs.Runs.{Call, feed, end, preview, close, show, log_words, write, read, read_into, reopen, unless, Outcome, Run, Answered, nothing, accepted_share, share_of, joined_shares, shares, answers_of, message_of}
use Rattle.runs.specs.Statements.{nodes_for, nodes_of, EndedRun, digest_of, Alike, Same, piece_in, pieces_in, pieces_of, joined_bits, CutFrom, uncut, cut}
use Rattle.runs.proofs.Demand3.{demand3}

abbrev params : List ℕ → ℕ → ℕ → ℕ → Params
params key d limit rounds = record { key = key; d = d; limit = limit; rounds = rounds }

alike-params : (a b : Run) → Alike a b → a.params ≡ b.params
alike-params a b s =
    let P : Params = a.params in
    let Q : Params = b.params in
    ap (λ (x : List ℕ). params x P.d P.limit P.rounds) s.key
    ∙ ap (λ (x : ℕ). params Q.key x P.limit P.rounds) s.d
    ∙ ap (λ (x : ℕ). params Q.key Q.d x P.rounds) s.limit
    ∙ ap (λ (x : ℕ). params Q.key Q.d Q.limit x) s.rounds

ended-nodes : (r : Run) → EndedRun r → nodes_of r ≡ all_nodes (order r.params (message_of r))
ended-nodes r e = ap (λ (o : Option (List ℕ)). nodes_for o (order r.params (message_of r))) e.is

-- "So runs alike in message, key, digest size, height limit and rounds, both ended, give the same count, order and digest,
-- however the message is cut or suspended."
pub same_runs : (a b : Run) (e : EndedRun a) (f : EndedRun b) → Alike a b → Same a b e f
same_runs a b e f s =
    let p = alike-params a b s in
    let x = demand3 a in
    let y = demand3 b in
    let n : nodes_of a ≡ nodes_of b =
    ended-nodes a e
    ∙ ap (λ (P : Params). all_nodes (order P (message_of a))) p
    ∙ ap (λ (M : List Bool). all_nodes (order b.params M)) s.message
    ∙ sym (ended-nodes b f) in
    record {
      count = x.count ∙ ap (λ (ns : List Node). length ns) n ∙ sym y.count;
      log = x.log ∙ ap (λ (ns : List Node). node_log ns) n ∙ sym y.log;
      digest =
          x.digest e.out e.is
          ∙ ap (λ (P : Params). digest P (message_of a)) p
          ∙ ap (λ (M : List Bool). digest b.params M) s.message
          ∙ sym (y.digest f.out f.is);
    }

-- ---- cuts

joined-append : (ps qs : List Piece) → joined_bits (ps ++ qs) ≡ joined_bits ps ++ joined_bits qs
joined-append [] qs = refl
joined-append (p ∷ ps) qs = rw (joined-append ps qs) (sym (append_assoc (piece_bits p) (joined_bits ps) (joined_bits qs)))

-- a call's share of the message is the bits of the piece that it fed
share-bits : (c : Call) (o : Outcome) → (share_of c o).bits ≡ joined_bits (unless o.number [] (piece_in c))
unfolding share_of
share-bits c o = by o.number c
  where
    by : (n : ℕ) (c : Call) → (unless n nothing (accepted_share c o)).bits ≡ joined_bits (unless n [] (piece_in c))
    by (suc n) c = refl
    by zero (feed piece log _ _ _ _) = sym (append-nil (piece_bits piece))
    by zero (end digest log _ _) = refl
    by zero (preview digest _) = refl
    by zero (close figure log _ _) = refl
    by zero (show level) = refl
    by zero (log_words bits _) = refl
    by zero (write text _) = refl
    by zero (read text _) = refl
    by zero (read_into other text _ _) = refl
    by zero (reopen P _) = refl

message-bits : (answers : List Answered) → (shares answers).bits ≡ joined_bits (pieces_in answers)
unfolding shares joined_shares pieces_in
message-bits [] = refl
message-bits (a ∷ later) =
    let own : List Piece = unless a.outcome.number [] (piece_in a.call) in
    rw (share-bits a.call a.outcome, message-bits later) (sym (joined-append own (pieces_in later)))

-- "The message of a run is the bits of its accepted feeds, joined in order"
pub message-pieces : (r : Run) → message_of r ≡ joined_bits (pieces_of r)
message-pieces r = message-bits (answers_of r)

-- a cut changes no bit
cut-joined : {ps qs : List Piece} → CutFrom ps qs → joined_bits qs ≡ joined_bits ps
cut-joined uncut = refl
cut-joined (cut before piece after m h c) =
    let first : Piece = first_part piece m in
    let second : Piece = second_part piece m in
    joined-append before (first ∷ second ∷ after)
    ∙ ap (λ (x : List Bool). joined_bits before ++ x)
    (sym (append_assoc (piece_bits first) (piece_bits second) (joined_bits after)) ∙ ap (λ (x : List Bool). x ++ joined_bits after) (cut-bits piece m h))
    ∙ sym (joined-append before (piece ∷ after))
    ∙ cut-joined c

-- "Cuts within a byte fall under the cutting rule as others do": two runs with the same parameters, both ended, that were fed the same
-- pieces, each cut in its own way, inside bytes or between them, give the same count, order and digest
pub same-cuts : (pieces : List Piece) (a b : Run) (e : EndedRun a) (f : EndedRun b) → a.params ≡ b.params
    → CutFrom pieces (pieces_of a) → CutFrom pieces (pieces_of b) → Same a b e f
same-cuts pieces a b e f p c d = same_runs a b e f record {
  message = message-pieces a ∙ cut-joined c ∙ sym (cut-joined d) ∙ sym (message-pieces b);
  key = ap (λ (P : Params). P.key) p;
  d = ap (λ (P : Params). P.d) p;
  limit = ap (λ (P : Params). P.limit) p;
  rounds = ap (λ (P : Params). P.rounds) p;
}

-- ---- one digest

-- "For any two different inputs (message, key, height limit, rounds) with one digest size and equal digests, either the root
-- inputs differ, or some node other than the root, at the same level and index in both trees, has different inputs and the same
-- 1,024-bit output": for the digests of two runs, whatever their messages' lengths, which number 6 bounds
pub run-collision : (a b : Run) (e : EndedRun a) (f : EndedRun b) → Different a.params b.params (message_of a) (message_of b)
    → a.params.d ≡ b.params.d → digest_of a e ≡ digest_of b f
    → RootsDiffer a.params b.params (message_of a) (message_of b) ⊎ Meeting a.params b.params (message_of a) (message_of b)
run-collision a b e f different d same =
    let x = demand3 a in
    let y = demand3 b in
    collision a.params b.params (message_of a) (message_of b) x.valid y.valid x.message_short y.message_short different d
    (sym (x.digest e.out e.is) ∙ same ∙ y.digest f.out f.is)
