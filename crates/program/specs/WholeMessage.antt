-- Laws: what is written of the message, from an area that stands for a part of it on.
use Rattle.std.specs.Prelude.{◌≡◌, refl, Bool, true, false, cond, ℕ, suc, ◌+◌, ◌-◌, ◌*◌, ◌^◌, ◌≤◌, ◌<◌, ltb, take, drop}
use Rattle.std.proofs.Common.{sym, ◌∙◌, arith, le-ltb, length-append, take_at, take_all}
use Rattle.std.proofs.Math.Path.{ap}
use mathlib.Core.List.{List, [], ◌∷◌, ◌++◌, map, flatten, append_assoc, append-nil}
use Rattle.std.proofs.Math.ListN.{length}
use Rattle.std.proofs.lemmas.List.{length-replicate}
use Rattle.lists.specs.Below.{Below, more}
use Rattle.lists.specs.Flatten.{flatten-append, map-append}
use Rattle.bits.specs.Bits.{bits_of}
use Rattle.bits.specs.BitsLaws.{length-bits_of, bits_of-append, length-numbers}
use Rattle.tree.specs.Tree.{Params, Node, order, digest, digest_bytes, node_log, logged}
use Rattle.bits.specs.Piece.{piece_bits}
use Rattle.calls.specs.Calls.{fed_bits, feed_number, fed_area, last_nodes_of, end_number, digest_out}
use Rattle.calls.specs.Marks.{settled}
use Rattle.calls.proofs.CallLaws.{feed-accepted, end-accepted, feed-number as feed_is, end-number as end_is}
use Rattle.calls.proofs.Stands.{Stands, FeedDone, feed-stands, end-done}
use Rattle.calls.specs.Vocabulary.{enough_words}
use Rattle.calls.proofs.Accepts.{feed-tests, end-tests, end-nodes}
use Rattle.calls.proofs.LogWords.{log-enough, end-enough}
use Rattle.print.specs.Print.{node_line, node_lines, digest_line}
use Rattle.program.specs.Printed.{lines_of, hashed}
use Rattle.program.specs.Steps.{all_bits, buffer_bytes, empty_log, empty_digest, Step, fed_step, ended_step, take_of, last_of, written}
use Rattle.program.specs.declared.Program.TheVariants.{Message as InMessage}

-- ---- the log of a call

-- it has room for a read of at most the buffer's bytes, and for an end
log-room : (n : ℕ) → n ≤ 8 * buffer_bytes → (enough_words n ≤ length empty_log) × (54 ≤ length empty_log)
unfolding enough_words
log-room n h = let e = length-replicate {A = ℕ} (enough_words (8 * buffer_bytes)) 0 in (omega (arith, e), omega (arith, e))

-- the first nodes of a log are those that were logged
log-lines : (nodes : List Node) (rest : List ℕ) → node_lines (length nodes) (node_log nodes ++ rest) ≡ lines_of nodes
unfolding node_lines flatten
log-lines [] rest = refl
log-lines (m ∷ nodes) rest = ap (λ (l : List ℕ). node_line m.u m.v ++ l) (log-lines nodes rest)

lines-append : (xs ys : List Node) → lines_of (xs ++ ys) ≡ lines_of xs ++ lines_of ys
lines-append xs ys =
    let f : Node → List ℕ = λ (m : Node). node_line m.u m.v in
    ap flatten (map-append f xs ys) ∙ flatten-append (map f xs) (map f ys)

-- a call that is refused by no other number than 8, and not by 8
not_eight : (b : Bool) → (◌≡◌ {A = ℕ} (cond b 8 0) 8 → ⊥) → ◌≡◌ {A = ℕ} (cond b 8 0) 0
not_eight true h = absurd (h refl)
not_eight false h = refl

-- the bits of a read are those of all its bytes
read-bits : (bytes : List ℕ) → piece_bits (all_bits bytes) ≡ bits_of 8 bytes
read-bits bytes = take_all (8 * length bytes) (bits_of 8 bytes) (omega (arith, length-bits_of 8 bytes))

-- what a read of the message gives: the area then stands for a longer message, and the lines are those of the nodes that it made
record ReadDone (P : Params) (M : List Bool) (bytes : List ℕ) (step : Step) : Type 0 where
  program : step.program ≡ InMessage
  stands : Stands P (M ++ bits_of 8 bytes) step.area
  text : lines_of (settled (order P M)) ++ step.text ≡ lines_of (settled (order P (M ++ bits_of 8 bytes)))

module _ {P : Params} {M : List Bool} {area : List ℕ} (s : Stands P M area) where
  -- ---- the end

  end-number : end_number area empty_digest empty_log ≡ 0
  end-number =
      first
      ∙ not_eight (ltb (length empty_log) (2 * length (last_nodes_of area)))
      (λ e. end-enough area empty_digest empty_log (log-room 0 (omega arith)).1 (end_is area empty_digest empty_log ∙ first ∙ e))
    where
      first : end_number area empty_digest empty_log ≡ cond (ltb (length empty_log) (2 * length (last_nodes_of area))) 8 0
      first = end-tests s empty_digest empty_log ∙ rw (le-ltb 64 (digest_bytes P.d) (omega (arith, s.head.valid.d_high)))

  -- the last nodes and the digest, of a log and an output that the end wrote to
  end-lines : (out log : List ℕ)
      → node_lines (length (last_nodes_of area)) (logged (last_nodes_of area) log) ++ digest_line (take (digest_bytes P.d) (digest_out area (last_nodes_of area) out))
      ≡ lines_of (last_nodes_of area) ++ digest_line (digest P M)
  end-lines out log =
      rw (
        log-lines (last_nodes_of area) (drop (2 * length (last_nodes_of area)) log),
        (end-done P M area out s).digest,
        take_at (digest P M) (drop (digest_bytes P.d) out) (digest_bytes P.d) (length-numbers 8 (digest_bytes P.d) _),
      )

  end-text : (ended_step area).text ≡ lines_of (last_nodes_of area) ++ digest_line (digest P M)
  unfolding ended_step
  end-text = rw (end-accepted area empty_digest empty_log end-number, s.head.params) (end-lines empty_digest empty_log)

  -- ---- a read

  module _ (bytes : List ℕ) (short : length bytes ≤ buffer_bytes) (few : length M + 8 * length bytes < 2 ^ 64) where
    feed-number : feed_number area (all_bits bytes) empty_log ≡ 0
    feed-number =
        first
        ∙ not_eight (ltb (length empty_log) (2 * length (fed_bits area (piece_bits (all_bits bytes))).nodes))
        (λ e. log-enough area (all_bits bytes) empty_log (log-room (8 * length bytes) (omega arith)).0 (feed_is area (all_bits bytes) empty_log ∙ first ∙ e))
      where
        first : feed_number area (all_bits bytes) empty_log
            ≡ cond (ltb (length empty_log) (2 * length (fed_bits area (piece_bits (all_bits bytes))).nodes)) 8 0
        first =
            feed-tests s (all_bits bytes) empty_log
            ∙ rw (le-ltb (8 * length bytes) (0 + 8 * length bytes) (omega arith), le-ltb (2 ^ 64 - 1) (length M + 8 * length bytes) (omega arith))

    read_step : ReadDone P M bytes (fed_step area bytes)
    unfolding fed_step
    read_step = rw (feed-accepted area (all_bits bytes) empty_log feed-number, read-bits bytes) record {
      program = refl;
      stands = done.stands;
      text =
          rw (log-lines nodes (drop (2 * length nodes) empty_log))
          (sym (lines-append (settled (order P M)) nodes) ∙ ap lines_of (sym done.added));
    }
      where
        nodes : List Node
        nodes = (fed_bits area (bits_of 8 bytes)).nodes

        done : FeedDone P M (bits_of 8 bytes) area (fed_bits area (bits_of 8 bytes)) (fed_area area (8 * length bytes) (fed_bits area (bits_of 8 bytes)))
        done = rw read-bits at (feed-stands P M area (all_bits bytes) empty_log s feed-number)

-- what is written from a read on, by what is written from the next on
after_read : {P : Params} {M : List Bool} {bytes : List ℕ} {step : Step} (reads : List (List ℕ)) → ReadDone P M bytes step
    → (lines_of (settled (order P (M ++ bits_of 8 bytes))) ++ written InMessage step.area reads
    ≡ hashed P ((M ++ bits_of 8 bytes) ++ bits_of 8 (flatten reads)))
    → lines_of (settled (order P M)) ++ (step.text ++ written step.program step.area reads)
    ≡ hashed P (M ++ bits_of 8 (flatten (bytes ∷ reads)))
unfolding flatten
after_read {P} {M} {bytes} {step} reads d e =
    let w : List ℕ = written InMessage step.area reads in
    rw (d.program, bits_of-append 8 bytes (flatten reads), ← append_assoc M (bits_of 8 bytes) (bits_of 8 (flatten reads)))
    (sym (append_assoc (lines_of (settled (order P M))) step.text w) ∙ ap (λ (l : List ℕ). l ++ w) d.text ∙ e)

-- all reads and the end: what was printed of the message's first part, and what is written then, is all that is printed of the message
pub message : {P : Params} {M : List Bool} {area : List ℕ} (reads : List (List ℕ)) → Stands P M area
    → Below (suc buffer_bytes) (map length reads) → length M + 8 * length (flatten reads) < 2 ^ 64
    → lines_of (settled (order P M)) ++ written InMessage area reads ≡ hashed P (M ++ bits_of 8 (flatten reads))
unfolding written take_of flatten last_of hashed
message {P} {M} {area} [] s b few =
    let l : List ℕ = lines_of (last_nodes_of area) in
    rw (end-text s, append-nil M, end-nodes s, lines-append (settled (order P M)) (last_nodes_of area))
    (sym (append_assoc (lines_of (settled (order P M))) l (digest_line (digest P M))))
message {P} {M} {area} (bytes ∷ reads) s (more h hs) few =
    let l = length-append bytes (flatten reads) in
    let m = length-append M (bits_of 8 bytes) in
    let k = length-bits_of 8 bytes in
    let d = read_step s bytes (omega arith) (omega arith) in
    after_read reads d (message {P = P} {M = M ++ bits_of 8 bytes} {area = (fed_step area bytes).area} reads d.stands hs (omega arith))
