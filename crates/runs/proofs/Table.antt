-- Laws: "Which calls are accepted follows from the table", for every call after a run.
use Rattle.std.specs.Prelude.{◌≡◌, refl, Bool, true, false, List, [], ◌∷◌, ℕ, ◌+◌, ◌-◌, ◌*◌, ◌^◌, ◌<◌, length}
use Rattle.std.proofs.Common.{sym, ap, ◌∙◌, arith, ltb-false, le-ltb, length-append}
use Rattle.std.proofs.lemmas.List.{length-map}
use Rattle.bits.specs.Piece.{Piece, piece_bits, bits_test}
use Rattle.bits.specs.PieceLaws.{length-piece_bits, bits-there}
use Rattle.tree.specs.Tree.{Params, Mark, order, digest_bytes, digest}
use Rattle.refusals.specs.Refusals.{Told, first_refusal, output_test, log_test}
use Rattle.calls.specs.Area.{own_words, Long}
use Rattle.calls.specs.Calls.{total_test, open_number, fed_bits, feed_tests, feed_of, last_nodes_of, end_tests, end_of, preview_of, close_tests, close_of, log_words_of}
use Rattle.calls.specs.Marks.{settled}
use Rattle.calls.proofs.CallLaws.{open_number_lem, feed-number, end-number, preview-number, close-number, log_words-number, log_words-accepted, log_words-passed}
use Rattle.calls.proofs.Stands.{Stands}
use Rattle.calls.proofs.Accepts.{feed-tests, end-tests, preview-tests, close-tests, log_words-tests, feed-nodes, end-nodes, feed-ended, end-ended, preview-ended, close-ended, log_words-ended, level-shown, level_none}
use Rattle.calls.proofs.LogWords.{any_bits}
use Rattle.texts.specs.Text.{write_number, read_number}
use Rattle.texts.proofs.ReadLaws.{write-number, read_number_lem}
use Rattle.runs.specs.Runs.{Run, shares, answers_of, area_of, message_of, output_of}
use Rattle.runs.specs.Statements.{ended_test, feed_makes, end_makes, Demand3, Table}
use Rattle.runs.proofs.Suspend.{at-read-back}
use Rattle.runs.proofs.Demand3.{demand3}
use Rattle.runs.proofs.Induction.{Fits, going, over, fits-at, preview-fits, run_fits}

-- a later test counts only if the first does not hold
later_eq : (t : Bool × ℕ) (xs ys : List (Bool × ℕ)) → (t.0 ≡ false → first_refusal xs ≡ first_refusal ys) → first_refusal (t ∷ xs) ≡ first_refusal (t ∷ ys)
later_eq (true, k) xs ys f = refl
later_eq (false, k) xs ys f = f refl

module _ {P : Params} {M : List Bool} {area : List ℕ} (s : Stands P M area) where
  feed-made : (Y : List Bool) → length M + length Y < 2 ^ 64 → length (fed_bits area Y).nodes ≡ feed_makes P M Y
  feed-made Y h =
      let e = ap length (feed-nodes s Y h) ∙ length-append (settled (order P M)) (fed_bits area Y).nodes in
      omega arith

  end-made : length (last_nodes_of area) ≡ end_makes P M
  end-made =
      let e = ap length (end-nodes s) ∙ length-append (settled (order P M)) (last_nodes_of area) in
      let m = length-map (order P M) (λ (x : Mark). x.node) in
      omega arith

  feed-number_is : (piece : Piece) (log : List ℕ)
      → (feed_of area piece log).number ≡ first_refusal (feed_tests (length M) (feed_makes P M (piece_bits piece)) piece log)
  feed-number_is piece log =
      let made : ℕ = length (fed_bits area (piece_bits piece)).nodes in
      let makes : ℕ = feed_makes P M (piece_bits piece) in
      let total : Bool × ℕ = total_test (length M) piece.count in
      feed-number area piece log ∙ feed-tests s piece log
      ∙ later_eq (bits_test piece) (total ∷ log_test made log ∷ []) (total ∷ log_test makes log ∷ []) (λ b. later_eq total (log_test made log ∷ []) (log_test makes log ∷ []) (λ t.
      let l : length (piece_bits piece) ≡ piece.count = length-piece_bits piece (bits-there piece b) in
      let small = ltb-false (2 ^ 64 - 1) (length M + piece.count) t in
      ap (λ (m : ℕ). first_refusal (log_test m log ∷ [])) (feed-made (piece_bits piece) (omega arith))))

  log_words-number_is : (n : ℕ) → (log_words_of area n).number ≡ first_refusal (total_test (length M) n ∷ [])
  log_words-number_is n = log_words-number area n ∙ log_words-tests s n

  log_words-count_is : (Y : List Bool) → (log_words_of area (length Y)).number ≡ 0 → (log_words_of area (length Y)).count ≡ 2 * feed_makes P M Y
  log_words-count_is Y z =
      let q = sym (log_words-number area (length Y)) ∙ z in
      let small : length M + length Y < 2 ^ 64 = omega (arith, (log_words-passed area (length Y) q).total, s.head.total) in
      ap (λ (t : Told). t.count) (log_words-accepted area (length Y) q) ∙ ap (λ (m : ℕ). 2 * m) (sym (any_bits area Y) ∙ feed-made Y small)

  preview-number_is : (out : List ℕ) → (preview_of area out).number ≡ first_refusal (output_test (digest_bytes P.d) out ∷ [])
  preview-number_is out = preview-number area out ∙ preview-tests s out

  close-number_is : (figure log : List ℕ) → (close_of area figure log).number ≡ first_refusal (close_tests (end_makes P M) (digest P M) figure log)
  close-number_is figure log = close-number area figure log ∙ close-tests s figure log ∙ rw end-made refl

  end-number_is : (out log : List ℕ) → (end_of area out log).number ≡ first_refusal (end_tests P.d (end_makes P M) out log)
  end-number_is out log = end-number area out log ∙ end-tests s out log ∙ rw end-made refl

pub table : (r : Run) → Table r
unfolding write_number read_number open_number
table r = record {
  feed = λ piece log. feeds piece log (run_fits r).1;
  end = λ out log. ends out log (run_fits r).1;
  preview = λ out. previews out (run_fits r).1;
  previewed = λ out z. preview-fits out (run_fits r).1 z;
  close = λ figure log. closes figure log (run_fits r).1;
  log_words = λ n. tells n (run_fits r).1;
  log_words_count = λ Y z. tells_count Y (run_fits r).1 z;
  write = λ out. write-number area out ∙ rw (le-ltb (length area) (own_words area) own, d.sound) refl;
  read = read_number_lem;
  read_back = λ into. at-read-back area into (fits-at (run_fits r).1);
  reopen = open_number_lem area;
  show = λ level l h. level-shown area level own d.sound l (rw d.params h);
  show_none = λ level h. level_none area level (rw d.params h);
}
  where
    P : Params
    P = r.params

    M : List Bool
    M = message_of r

    area : List ℕ
    area = area_of r

    d : Demand3 r
    d = demand3 r

    own : Long area
    own = rw d.params d.long

    feeds : {e : Bool} (piece : Piece) (log : List ℕ) → Fits P (shares (answers_of r)) area e → (feed_of area piece log).number
        ≡ first_refusal (ended_test (output_of r) ∷ feed_tests (length M) (feed_makes P M (piece_bits piece)) piece log)
    feeds piece log (going g) = rw g.output (feed-number_is g.stands piece log)
    feeds piece log (over g) = rw g.output (feed-number area piece log ∙ feed-ended g.ended piece log)

    ends : {e : Bool} (out log : List ℕ) → Fits P (shares (answers_of r)) area e → (end_of area out log).number
        ≡ first_refusal (ended_test (output_of r) ∷ end_tests P.d (end_makes P M) out log)
    ends out log (going g) = rw g.output (end-number_is g.stands out log)
    ends out log (over g) = rw g.output (end-number area out log ∙ end-ended g.ended out log)

    previews : {e : Bool} (out : List ℕ) → Fits P (shares (answers_of r)) area e → (preview_of area out).number
        ≡ first_refusal (ended_test (output_of r) ∷ output_test (digest_bytes P.d) out ∷ [])
    previews out (going g) = rw g.output (preview-number_is g.stands out)
    previews out (over g) = rw g.output (preview-number area out ∙ preview-ended g.ended out)

    closes : {e : Bool} (figure log : List ℕ) → Fits P (shares (answers_of r)) area e → (close_of area figure log).number
        ≡ first_refusal (ended_test (output_of r) ∷ close_tests (end_makes P M) (digest P M) figure log)
    closes figure log (going g) = rw g.output (close-number_is g.stands figure log)
    closes figure log (over g) = rw g.output (close-number area figure log ∙ close-ended g.ended figure log)

    tells : {e : Bool} (n : ℕ) → Fits P (shares (answers_of r)) area e
        → (log_words_of area n).number ≡ first_refusal (ended_test (output_of r) ∷ total_test (length M) n ∷ [])
    tells n (going g) = rw g.output (log_words-number_is g.stands n)
    tells n (over g) = rw g.output (log_words-number area n ∙ log_words-ended g.ended n)

    tells_count : {e : Bool} (Y : List Bool) → Fits P (shares (answers_of r)) area e → (log_words_of area (length Y)).number ≡ 0
        → (log_words_of area (length Y)).count ≡ 2 * feed_makes P M Y
    tells_count Y (going g) z = log_words-count_is g.stands Y z
    tells_count Y (over g) z = absurd (omega (arith, log_words-number area (length Y), log_words-ended g.ended (length Y)))
