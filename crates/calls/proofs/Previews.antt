-- Laws: preview and close, by the end whose halves they share. Document 02, M-106.
use Rattle.std.specs.Prelude.{◌≡◌, refl, Bool, true, false, ◌↔◌, List, [], ◌∷◌, ◌++◌, ℕ, zero, suc, ◌*◌, ◌≤◌, ltb, length, take, drop}
use Rattle.std.proofs.Common.{sym, ap, ◌∙◌, arith, le-ltb, length-append, length-drop, take_all, take_at}
use Rattle.lists.specs.SameLaws.{same_refl}
use Rattle.bits.specs.BitsLaws.{length-numbers}
use Rattle.tree.specs.Tree.{digest_bytes}
use Rattle.refusals.specs.Refusals.{first_refusal, output_test, log_test}
use Rattle.refusals.specs.RefusalLaws.{test_at, passed, passed-by, first_part, second-part}
use Rattle.calls.specs.Area.{params_of}
use Rattle.calls.specs.Calls.{open_tests, last_nodes_of, nodes_digest, digest_out, end_tests, end_number, end_of, preview_number, preview_of, AreaLog, figure_test, close_number, close_of}
use Rattle.calls.proofs.CallLaws.{open_tests_lem, end-number, end-accepted, end_refused, preview-number, preview-accepted, preview-refused, preview-passed, close-number, close-accepted, close_passed}

-- the digest's bytes
pub length-nodes_digest : (area : List ℕ) → length (nodes_digest area (last_nodes_of area)) ≡ digest_bytes (params_of area).d
length-nodes_digest area = length-numbers 8 (digest_bytes (params_of area).d) _

-- it stands in front of an output
pub digest-front : (area out : List ℕ) (n : ℕ) → n ≡ digest_bytes (params_of area).d
    → take n (digest_out area (last_nodes_of area) out) ≡ nodes_digest area (last_nodes_of area)
unfolding digest_out
digest-front area out n e =
    take_at (nodes_digest area (last_nodes_of area)) (drop (digest_bytes (params_of area).d) out) n (length-nodes_digest area ∙ sym e)

-- an output is as long as it was
pub length-digest_out : (area out : List ℕ) → digest_bytes (params_of area).d ≤ length out → length (digest_out area (last_nodes_of area) out) ≡ length out
unfolding digest_out
length-digest_out area out h =
    let n = length-nodes_digest area in
    simp (length-append, length-drop) (omega arith)

-- ---- preview

-- the tests of a preview are those of an end but for the log's
preview-end-number : (area out log : List ℕ) → (end_number area out log ≡ 8 → ⊥) → end_number area out log ≡ preview_number area out
unfolding end_number preview_number
preview-end-number area out log n = by (first_refusal tests) refl
  where
    tests : List (Bool × ℕ)
    tests = open_tests area ++ (output_test (digest_bytes (params_of area).d) out ∷ [])

    room : (b : Bool) → ltb (length log) (2 * length (last_nodes_of area)) ≡ b → ((j : ℕ) → test_at tests j ≡ false)
        → first_refusal (tests ++ (log_test (length (last_nodes_of area)) log ∷ [])) ≡ 0
    room true e k = absurd (n (second-part tests (log_test (length (last_nodes_of area)) log ∷ []) k ∙ rw e refl))
    room false e k = second-part tests (log_test (length (last_nodes_of area)) log ∷ []) k ∙ rw e refl

    by : (k : ℕ) → first_refusal tests ≡ k → first_refusal (tests ++ (log_test (length (last_nodes_of area)) log ∷ [])) ≡ first_refusal tests
    by zero e = room (ltb (length log) (2 * length (last_nodes_of area))) refl (passed tests refl e) ∙ sym e
    by (suc k) e = sym (first_part tests (log_test (length (last_nodes_of area)) log ∷ []) (λ z. omega arith))

-- "A preview writes the digest that end would": it answers what an end of the same area into the same output would, and writes what that
-- would write, unless the end's log is too short; its count is 0
pub preview_as_end : (area out log : List ℕ) → ((end_of area out log).number ≡ 8 → ⊥)
    → preview_of area out ≡ record { number = (end_of area out log).number; count = 0; digest = (end_of area out log).digest }
preview_as_end area out log n = by (preview_number area out) refl
  where
    number : end_number area out log ≡ preview_number area out
    number = preview-end-number area out log (λ e. n (end-number area out log ∙ e))

    by : (k : ℕ) → preview_number area out ≡ k
        → preview_of area out ≡ record { number = (end_of area out log).number; count = 0; digest = (end_of area out log).digest }
    by zero e = rw (preview-accepted area out e, end-accepted area out log (number ∙ e)) refl
    by (suc k) e =
        rw (← preview-refused area out (suc k) (sym e) (omega arith), ← end_refused area out log (suc k) (sym e ∙ sym number) (omega arith)) refl

-- what an accepted preview writes
pub preview-writes : (area out : List ℕ) → (preview_of area out).number ≡ 0
    → take (digest_bytes (params_of area).d) (preview_of area out).digest ≡ nodes_digest area (last_nodes_of area)
preview-writes area out e =
    rw (preview-accepted area out (sym (preview-number area out) ∙ e)) (digest-front area out (digest_bytes (params_of area).d) refl)

-- ---- close

-- a close is accepted exactly if 7, 10 and 8 do not hold and the figure is that digest, "byte for byte, length included"
pub close_iff : (area figure log : List ℕ) → ((close_of area figure log).number ≡ 0)
    ↔ ((first_refusal (open_tests area ++ (log_test (length (last_nodes_of area)) log ∷ [])) ≡ 0) × (figure ≡ nodes_digest area (last_nodes_of area)))
unfolding close_number
close_iff area figure log = (there, back)
  where
    nodes : ℕ
    nodes = length (last_nodes_of area)

    digest : List ℕ
    digest = nodes_digest area (last_nodes_of area)

    tests : List (Bool × ℕ)
    tests = open_tests area ++ (log_test nodes log ∷ [])

    there : (close_of area figure log).number ≡ 0 → (first_refusal tests ≡ 0) × (figure ≡ digest)
    there e =
        let z : close_number area figure log ≡ 0 = sym (close-number area figure log) ∙ e in
        let p = passed-by 0 tests (figure_test digest figure ∷ []) refl z in
        (second-part tests [] p.0, sym (close_passed area figure log z).is_figure)

    back : (first_refusal tests ≡ 0) × (figure ≡ digest) → (close_of area figure log).number ≡ 0
    back h =
        close-number area figure log
        ∙ second-part tests (figure_test digest figure ∷ []) (passed tests refl h.0)
        ∙ rw (h.1, same_refl digest) refl

-- so after a preview into an output of the digest's length a close is accepted exactly if its log has room and its figure is what that
-- output holds
pub close-previewed : (area out figure log : List ℕ) → (preview_of area out).number ≡ 0 → length out ≡ digest_bytes (params_of area).d
    → ((close_of area figure log).number ≡ 0) ↔ ((2 * length (last_nodes_of area) ≤ length log) × (figure ≡ (preview_of area out).digest))
close-previewed area out figure log e n = (there, back)
  where
    z : preview_number area out ≡ 0
    z = sym (preview-number area out) ∙ e

    written : (preview_of area out).digest ≡ nodes_digest area (last_nodes_of area)
    written =
        let size : length (preview_of area out).digest ≡ length out = rw (preview-accepted area out z) (length-digest_out area out (omega arith)) in
        sym (take_all (digest_bytes (params_of area).d) (preview_of area out).digest (omega arith)) ∙ preview-writes area out e

    there : (close_of area figure log).number ≡ 0 → (2 * length (last_nodes_of area) ≤ length log) × (figure ≡ (preview_of area out).digest)
    there c = let p = close_passed area figure log (sym (close-number area figure log) ∙ c) in (p.room, sym p.is_figure ∙ sym written)

    back : (2 * length (last_nodes_of area) ≤ length log) × (figure ≡ (preview_of area out).digest) → (close_of area figure log).number ≡ 0
    back h =
        let tests : List (Bool × ℕ) = log_test (length (last_nodes_of area)) log ∷ [] in
        let open-and-room : first_refusal (open_tests area ++ tests) ≡ 0 = open_tests_lem (preview-passed area out z).opened tests ∙ rw (le-ltb (length log) (2 * length (last_nodes_of area)) h.0) refl in
        (close_iff area figure log).1 (open-and-room, h.1 ∙ written)

-- "ends the area, with log and count as end does": an accepted close leaves area, log and count as an end that has room for the digest,
-- and that end writes the figure
pub close_as_end : (area figure out log : List ℕ) → (close_of area figure log).number ≡ 0 → length figure ≤ length out → end_of area out log ≡
    (let c : AreaLog = close_of area figure log in
    record { number = 0; count = c.count; area = c.area; digest = figure ++ drop (length figure) out; log = c.log })
unfolding end_number digest_out
close_as_end area figure out log e h =
    let z : close_number area figure log ≡ 0 = sym (close-number area figure log) ∙ e in
    let p = close_passed area figure log z in
    let size : length figure ≡ digest_bytes (params_of area).d = ap length (sym p.is_figure) ∙ length-nodes_digest area in
    let n : end_number area out log ≡ 0 =
    open_tests_lem p.opened (end_tests (params_of area).d (length (last_nodes_of area)) out log)
    ∙ rw (le-ltb (length out) (digest_bytes (params_of area).d) (omega arith), le-ltb (length log) (2 * length (last_nodes_of area)) p.room) refl in
    rw (end-accepted area out log n, close-accepted area figure log z, size, p.is_figure) refl

-- so what holds of the area after an end holds of it after a close
pub close-same : (area figure log : List ℕ) → (close_of area figure log).number ≡ 0
    → ((end_of area figure log).number ≡ 0) × ((close_of area figure log).area ≡ (end_of area figure log).area)
close-same area figure log e = let f = close_as_end area figure figure log e (omega arith) in rw f (refl, refl)
