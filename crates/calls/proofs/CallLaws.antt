-- Laws: what the calls answer, accepted and refused: the laws of their definitions.
use Rattle.std.specs.Prelude.{◌≡◌, refl, Bool, true, false, List, [], ◌∷◌, ◌++◌, ℕ, ◌+◌, ◌-◌, ◌*◌, ◌^◌, ◌≤◌, ◌<◌, length, replicate}
use Rattle.std.proofs.Common.{arith, ltb-false, le-ltb, ne_eqb}
use Rattle.std.proofs.lemmas.Bool.{eqb-false, not-false}
use Rattle.lists.specs.SameLaws.{same_eq}
use Rattle.bits.specs.Piece.{Piece, piece_bits}
use Rattle.bits.specs.PieceLaws.{Fits, bits-there}
use Rattle.tree.specs.Tree.{Params, Node, digest_bytes, logged}
use Rattle.refusals.specs.Refusals.{Told, first_refusal, param_tests, output_test}
use Rattle.refusals.specs.RefusalLaws.{test_at, passed-by, passed, second-part, answer_number, answer_refused}
use Rattle.calls.specs.Area.{area_words, own_words, Long, phase_of, total_of, params_of, sound}
use Rattle.calls.specs.Calls.{Made, open_number, opened_area, open_of, fed_bits, feed_number, fed_area, feed_of, last_nodes_of, end_number, ended_area, digest_out, end_of, short_test, open_tests, Opened, AreaLog, total_test, feed_tests, Finished, end_tests, Previewed, preview_number, preview_of, close_tests, close_number, close_of, nodes_digest, log_words_number, log_words_of}

-- ---- an area that is long enough, sound and open

pub record OpenArea (area : List ℕ) : Type 0 where
  pub long : Long area
  pub sound : sound area ≡ true
  pub phase : phase_of area ≡ 2 → ⊥

-- it passes the tests of an open area, and an area that passes them is one
pub open_area : (area : List ℕ) → ((k : ℕ) → test_at (open_tests area) k ≡ false) → OpenArea area
open_area area p = record { long = ltb-false _ _ (p 0); sound = not-false _ (p 1); phase = eqb-false _ _ (p 2) }

pub open_tests_lem : {area : List ℕ} → OpenArea area → (later : List (Bool × ℕ)) → first_refusal (open_tests area ++ later) ≡ first_refusal later
open_tests_lem {area} o later = rw (le-ltb (length area) (own_words area) o.long, o.sound, ne_eqb (phase_of area) 2 o.phase)

-- a total that passes its test
pub total-passed : (total n : ℕ) → (total_test total n).0 ≡ false → total + n < 2 ^ 64
total-passed total n e = omega (arith, ltb-false (2 ^ 64 - 1) (total + n) e)

-- ---- open

pub open_number_lem : (area : List ℕ) (P : Params) → (open_of area P).number ≡ open_number area P
unfolding open_of
open_number_lem area P = answer_number (λ (x : Opened). x.number) (open_number area P) _ _ refl (λ k. refl)

pub open_accepted : (area : List ℕ) (P : Params) → open_number area P ≡ 0 → open_of area P ≡ record { number = 0; count = 0; area = opened_area area P }
unfolding open_of
open_accepted area P e = rw e refl

pub open_refused : (area : List ℕ) (P : Params) (k : ℕ) → k ≡ open_number area P → (k ≡ 0 → ⊥) → record { number = k; count = 0; area = area } ≡ open_of area P
unfolding open_of
open_refused area P k = answer_refused k (open_number area P) _ (λ k. record { number = k; count = 0; area = area })

-- what an accepted open tells
pub open_passed : (area : List ℕ) (P : Params) → open_number area P ≡ 0 → (area_words P.limit ≤ length area) × (first_refusal (param_tests P) ≡ 0)
unfolding open_number
open_passed area P e =
    let p = passed-by 0 (param_tests P) (short_test area P.limit ∷ []) refl e in
    (ltb-false _ _ (passed (short_test area P.limit ∷ []) refl p.1 0), second-part (param_tests P) [] p.0)

-- ---- feed

pub feed-number : (area : List ℕ) (piece : Piece) (log : List ℕ) → (feed_of area piece log).number ≡ feed_number area piece log
unfolding feed_of
feed-number area piece log = answer_number (λ (x : AreaLog). x.number) (feed_number area piece log) _ _ refl (λ k. refl)

pub feed-accepted : (area : List ℕ) (piece : Piece) (log : List ℕ) → feed_number area piece log ≡ 0 → feed_of area piece log ≡
    (let made : Made = fed_bits area (piece_bits piece) in
    record { number = 0; count = length made.nodes; area = fed_area area piece.count made; log = logged made.nodes log })
unfolding feed_of
feed-accepted area piece log e = rw e refl

pub feed-refused : (area : List ℕ) (piece : Piece) (log : List ℕ) (k : ℕ) → k ≡ feed_number area piece log → (k ≡ 0 → ⊥) →
    record { number = k; count = 0; area = area; log = log } ≡ feed_of area piece log
unfolding feed_of
feed-refused area piece log k = answer_refused k (feed_number area piece log) _ (λ k. record { number = k; count = 0; area = area; log = log })

-- what an accepted feed tells
pub record FeedPassed (area : List ℕ) (piece : Piece) (log : List ℕ) : Type 0 where
  pub opened : OpenArea area
  pub bits : Fits piece
  pub total : total_of area + piece.count < 2 ^ 64
  pub room : 2 * length (fed_bits area (piece_bits piece)).nodes ≤ length log

pub feed-passed : (area : List ℕ) (piece : Piece) (log : List ℕ) → feed_number area piece log ≡ 0 → FeedPassed area piece log
unfolding feed_number
feed-passed area piece log e =
    let nodes : ℕ = length (fed_bits area (piece_bits piece)).nodes in
    let p = passed-by 0 (open_tests area) (feed_tests (total_of area) nodes piece log) refl e in
    let q = passed (feed_tests (total_of area) nodes piece log) refl p.1 in
    record { opened = open_area area p.0; bits = bits-there piece (q 0); total = total-passed (total_of area) piece.count (q 1); room = ltb-false _ _ (q 2) }

-- ---- end

pub end-number : (area out log : List ℕ) → (end_of area out log).number ≡ end_number area out log
unfolding end_of
end-number area out log = answer_number (λ (x : Finished). x.number) (end_number area out log) _ _ refl (λ k. refl)

pub end-accepted : (area out log : List ℕ) → end_number area out log ≡ 0 → end_of area out log ≡
    (let nodes : List Node = last_nodes_of area in
    record { number = 0; count = length nodes; area = ended_area area nodes; digest = digest_out area nodes out; log = logged nodes log })
unfolding end_of
end-accepted area out log e = rw e refl

pub end_refused : (area out log : List ℕ) (k : ℕ) → k ≡ end_number area out log → (k ≡ 0 → ⊥) →
    record { number = k; count = 0; area = area; digest = out; log = log } ≡ end_of area out log
unfolding end_of
end_refused area out log k = answer_refused k (end_number area out log) _ (λ k. record { number = k; count = 0; area = area; digest = out; log = log })

pub record EndPassed (area out log : List ℕ) : Type 0 where
  pub opened : OpenArea area
  pub output : digest_bytes (params_of area).d ≤ length out
  pub room : 2 * length (last_nodes_of area) ≤ length log

pub end-passed : (area out log : List ℕ) → end_number area out log ≡ 0 → EndPassed area out log
unfolding end_number
end-passed area out log e =
    let p = passed-by 0 (open_tests area) (end_tests (params_of area).d (length (last_nodes_of area)) out log) refl e in
    let q = passed (end_tests (params_of area).d (length (last_nodes_of area)) out log) refl p.1 in
    record { opened = open_area area p.0; output = ltb-false _ _ (q 0); room = ltb-false _ _ (q 1) }

-- ---- preview

pub preview-number : (area out : List ℕ) → (preview_of area out).number ≡ preview_number area out
unfolding preview_of
preview-number area out = answer_number (λ (x : Previewed). x.number) (preview_number area out) _ _ refl (λ k. refl)

pub preview-accepted : (area out : List ℕ) → preview_number area out ≡ 0
    → preview_of area out ≡ record { number = 0; count = 0; digest = digest_out area (last_nodes_of area) out }
unfolding preview_of
preview-accepted area out e = rw e refl

pub preview-refused : (area out : List ℕ) (k : ℕ) → k ≡ preview_number area out → (k ≡ 0 → ⊥) → record { number = k; count = 0; digest = out } ≡ preview_of area out
unfolding preview_of
preview-refused area out k = answer_refused k (preview_number area out) _ (λ k. record { number = k; count = 0; digest = out })

pub record PreviewPassed (area out : List ℕ) : Type 0 where
  pub opened : OpenArea area
  pub output : digest_bytes (params_of area).d ≤ length out

pub preview-passed : (area out : List ℕ) → preview_number area out ≡ 0 → PreviewPassed area out
unfolding preview_number
preview-passed area out e =
    let later : List (Bool × ℕ) = output_test (digest_bytes (params_of area).d) out ∷ [] in
    let p = passed-by 0 (open_tests area) later refl e in
    record { opened = open_area area p.0; output = ltb-false _ _ (passed later refl p.1 0) }

-- ---- close

pub close-number : (area figure log : List ℕ) → (close_of area figure log).number ≡ close_number area figure log
unfolding close_of
close-number area figure log = answer_number (λ (x : AreaLog). x.number) (close_number area figure log) _ _ refl (λ k. refl)

pub close-accepted : (area figure log : List ℕ) → close_number area figure log ≡ 0 → close_of area figure log ≡
    (let nodes : List Node = last_nodes_of area in record { number = 0; count = length nodes; area = ended_area area nodes; log = logged nodes log })
unfolding close_of
close-accepted area figure log e = rw e refl

pub close-refused : (area figure log : List ℕ) (k : ℕ) → k ≡ close_number area figure log → (k ≡ 0 → ⊥) →
    record { number = k; count = 0; area = area; log = log } ≡ close_of area figure log
unfolding close_of
close-refused area figure log k = answer_refused k (close_number area figure log) _ (λ k. record { number = k; count = 0; area = area; log = log })

pub record ClosePassed (area figure log : List ℕ) : Type 0 where
  pub opened : OpenArea area
  pub room : 2 * length (last_nodes_of area) ≤ length log
  pub is_figure : nodes_digest area (last_nodes_of area) ≡ figure

pub close_passed : (area figure log : List ℕ) → close_number area figure log ≡ 0 → ClosePassed area figure log
unfolding close_number
close_passed area figure log e =
    let digest : List ℕ = nodes_digest area (last_nodes_of area) in
    let later : List (Bool × ℕ) = close_tests (length (last_nodes_of area)) digest figure log in
    let p = passed-by 0 (open_tests area) later refl e in
    let q = passed later refl p.1 in
    record { opened = open_area area p.0; room = ltb-false _ _ (q 0); is_figure = same_eq digest figure (not-false _ (q 1)) }

-- ---- log words

pub log_words-number : (area : List ℕ) (n : ℕ) → (log_words_of area n).number ≡ log_words_number area n
unfolding log_words_of
log_words-number area n = answer_number (λ (x : Told). x.number) (log_words_number area n) _ _ refl (λ k. refl)

pub log_words-accepted : (area : List ℕ) (n : ℕ) → log_words_number area n ≡ 0
    → log_words_of area n ≡ record { number = 0; count = 2 * length (fed_bits area (replicate n false)).nodes }
unfolding log_words_of
log_words-accepted area n e = rw e refl

pub log_words-refused : (area : List ℕ) (n k : ℕ) → k ≡ log_words_number area n → (k ≡ 0 → ⊥) → record { number = k; count = 0 } ≡ log_words_of area n
unfolding log_words_of
log_words-refused area n k = answer_refused k (log_words_number area n) _ (λ k. record { number = k; count = 0 })

-- what it means that telling is accepted
pub record LogWordsPassed (area : List ℕ) (n : ℕ) : Type 0 where
  pub opened : OpenArea area
  pub total : total_of area + n < 2 ^ 64

pub log_words-passed : (area : List ℕ) (n : ℕ) → log_words_number area n ≡ 0 → LogWordsPassed area n
unfolding log_words_number
log_words-passed area n e =
    let p = passed-by 0 (open_tests area) (total_test (total_of area) n ∷ []) refl e in
    let q = passed (total_test (total_of area) n ∷ []) refl p.1 in
    record { opened = open_area area p.0; total = total-passed (total_of area) n (q 0) }
