-- Laws: the numbers that refuse calls on an area, test by test: first those of the area, and then the rest for an open area.
use Rattle.std.specs.Prelude.{◌≡◌, refl, Bool, true, false, not, cond, List, [], ◌∷◌, ◌++◌, ℕ, zero, suc, ◌+◌, ◌-◌, ◌*◌, ◌/◌, ◌^◌, ◌<◌, eqb, ltb, length, replicate}
use Rattle.std.proofs.Common.{sym, ◌∙◌, arith, ltb-true, ltb-false, lt-ltb, le-ltb}
use Rattle.lists.specs.Same.{same}
use Rattle.bits.specs.Piece.{Piece, piece_bits, refused_bits}
use Rattle.tree.specs.Tree.{digest_bytes}
use Rattle.refusals.specs.Refusals.{first_refusal, output_test, log_test}
use Rattle.refusals.specs.RefusalLaws.{without, passed, first_part, second-part}
use Rattle.calls.specs.Area.{own_words, phase_of, total_of, params_of}
use Rattle.calls.specs.Calls.{fed_bits, last_nodes_of, feed_number, end_number, log_words_number, area_tests, open_tests, total_test, feed_tests, end_tests, preview_number, nodes_digest, close_tests, close_number}
use Rattle.calls.proofs.CallLaws.{OpenArea, open_area, open_tests_lem, total-passed}
use Rattle.calls.proofs.LogWords.{piece-nodes}
use Rattle.area.specs.SoundLaws.{LongSound}

-- ---- a part of the tests, for which its number stands

pub part-number : (xs ys : List (Bool × ℕ)) → without 0 xs ≡ true → first_refusal ((ltb 0 (first_refusal xs), first_refusal xs) ∷ ys) ≡ first_refusal (xs ++ ys)
part-number xs ys w = by (first_refusal xs) refl
  where
    by : (n : ℕ) → first_refusal xs ≡ n → first_refusal ((ltb 0 n, n) ∷ ys) ≡ first_refusal (xs ++ ys)
    by zero e = sym (second-part xs ys (passed xs w e))
    by (suc n) e = rw (lt-ltb 0 (suc n) (omega arith)) (sym e ∙ first_part xs ys (λ z. omega (arith, e, z)))

-- ---- the area's number, or that of the later tests for an open area

-- 7, or 10 if the area is long enough and sound
pub area-refused : {n : ℕ} (area : List ℕ) → n ≡ first_refusal (area_tests area) → (n ≡ 0 → ⊥) → n ≡ first_refusal (open_tests area)
area-refused area e h = e ∙ first_part (area_tests area) ((eqb (phase_of area) 2, 10) ∷ []) (λ z. h (e ∙ z))

pub area-phase : {b : Bool} (area : List ℕ) → LongSound area → eqb (phase_of area) 2 ≡ b → cond b 10 0 ≡ first_refusal (open_tests area)
area-phase area s p = rw (le-ltb (length area) (own_words area) s.long, s.is_sound, p)

-- the area's number is 0
pub area-passed : {n : ℕ} (area : List ℕ) → n ≡ first_refusal (open_tests area) → n ≡ 0 → OpenArea area
area-passed area e z = open_area area (passed (open_tests area) refl (sym e ∙ z))

-- n, the area's number, decides a call's; if it is 0, the later tests do
pub record Decided (area : List ℕ) (n later whole : ℕ) : Type 0 where
  pub opened : n ≡ 0 → OpenArea area
  pub by-area : (n ≡ 0 → ⊥) → n ≡ whole
  pub by-later : n ≡ 0 → later ≡ whole

decided : {n : ℕ} (area : List ℕ) (later : List (Bool × ℕ)) → n ≡ first_refusal (open_tests area)
    → Decided area n (first_refusal later) (first_refusal (open_tests area ++ later))
decided area later e = record {
  opened = area-passed area e;
  by-area = λ h. e ∙ first_part (open_tests area) later (λ z. h (e ∙ z));
  by-later = λ z. sym (open_tests_lem (area-passed area e z) later);
}

-- ---- the total's number

-- it is 0
pub total-fits : {n : ℕ} (total bits : ℕ) → n ≡ first_refusal (total_test total bits ∷ []) → n ≡ 0 → total + bits < 2 ^ 64
total-fits total bits e z = total-passed total bits (passed (total_test total bits ∷ []) refl (sym e ∙ z) 0)

-- ---- log words told

pub log_words-decided : {n : ℕ} (area : List ℕ) (bits : ℕ) → n ≡ first_refusal (open_tests area)
    → Decided area n (first_refusal (total_test (total_of area) bits ∷ [])) (log_words_number area bits)
unfolding log_words_number
log_words-decided area bits = decided area (total_test (total_of area) bits ∷ [])

-- ---- a feed

abbrev pub open_feed_number : List ℕ → Piece → List ℕ → ℕ
open_feed_number area piece log = first_refusal (feed_tests (total_of area) (length (fed_bits area (piece_bits piece)).nodes) piece log)

pub feed-decided : {n : ℕ} (area : List ℕ) (piece : Piece) (log : List ℕ) → n ≡ first_refusal (open_tests area)
    → Decided area n (open_feed_number area piece log) (feed_number area piece log)
unfolding feed_number
feed-decided area piece log = decided area (feed_tests (total_of area) (length (fed_bits area (piece_bits piece)).nodes) piece log)

-- the ways that the code takes with an open area
module _ (area : List ℕ) (piece : Piece) (log : List ℕ) where
  pub feed-over : refused_bits piece ≡ true → 5 ≡ open_feed_number area piece log
  feed-over b = rw b

  module _ {n : ℕ} (b : refused_bits piece ≡ false) (e : n ≡ first_refusal (total_test (total_of area) piece.count ∷ [])) where
    pub feed-past : (n ≡ 0 → ⊥) → n ≡ open_feed_number area piece log
    feed-past h =
        let made : ℕ = length (fed_bits area (piece_bits piece)).nodes in
        e ∙ first_part (total_test (total_of area) piece.count ∷ []) (log_test made log ∷ []) (λ z. h (e ∙ z)) ∙ rw b

    -- the nodes that the feed would make
    pub feed-log : {nodes : ℕ} → n ≡ 0 → nodes ≡ length (fed_bits area (replicate piece.count false)).nodes
        → first_refusal (log_test nodes log ∷ []) ≡ open_feed_number area piece log
    feed-log z m =
        let t = total-fits (total_of area) piece.count e z in
        rw (m ∙ sym (piece-nodes area piece b), b, le-ltb (2 ^ 64 - 1) (total_of area + piece.count) (omega arith))

-- ---- the log

-- half a log's words are fewer than the nodes exactly if its words are fewer than two a node
pub half-short : (words nodes : ℕ) → ltb (words / 2) nodes ≡ ltb words (2 * nodes)
half-short words nodes = by (ltb words (2 * nodes)) refl
  where
    by : (b : Bool) → ltb words (2 * nodes) ≡ b → ltb (words / 2) nodes ≡ b
    by true e = lt-ltb (words / 2) nodes (omega (arith, ltb-true words (2 * nodes) e))
    by false e = le-ltb (words / 2) nodes (omega (arith, ltb-false words (2 * nodes) e))

-- ---- an end

abbrev pub open_end_number : List ℕ → List ℕ → List ℕ → ℕ
open_end_number area out log = first_refusal (end_tests (params_of area).d (length (last_nodes_of area)) out log)

pub end-decided : {n : ℕ} (area out log : List ℕ) → n ≡ first_refusal (open_tests area) → Decided area n (open_end_number area out log) (end_number area out log)
unfolding end_number
end-decided area out log = decided area (end_tests (params_of area).d (length (last_nodes_of area)) out log)

-- the ways that the code takes with an open area
module _ {n : ℕ} (area out log : List ℕ) (e : n ≡ first_refusal (output_test (digest_bytes (params_of area).d) out ∷ [])) where
  pub end-output : (n ≡ 0 → ⊥) → n ≡ open_end_number area out log
  end-output h =
      e ∙ first_part (output_test (digest_bytes (params_of area).d) out ∷ []) (log_test (length (last_nodes_of area)) log ∷ []) (λ z. h (e ∙ z))

  pub end-log : {nodes : ℕ} → n ≡ 0 → nodes ≡ length (last_nodes_of area) → first_refusal (log_test nodes log ∷ []) ≡ open_end_number area out log
  end-log z q =
      let output : List (Bool × ℕ) = output_test (digest_bytes (params_of area).d) out ∷ [] in
      rw q (sym (second-part output (log_test (length (last_nodes_of area)) log ∷ []) (passed output refl (sym e ∙ z))))

-- ---- a preview and a close

pub preview-decided : {n : ℕ} (area out : List ℕ) → n ≡ first_refusal (open_tests area)
    → Decided area n (first_refusal (output_test (digest_bytes (params_of area).d) out ∷ [])) (preview_number area out)
unfolding preview_number
preview-decided area out = decided area (output_test (digest_bytes (params_of area).d) out ∷ [])

abbrev pub open_close_number : List ℕ → List ℕ → List ℕ → ℕ
open_close_number area figure log = first_refusal (close_tests (length (last_nodes_of area)) (nodes_digest area (last_nodes_of area)) figure log)

pub close-decided : {n : ℕ} (area figure log : List ℕ) → n ≡ first_refusal (open_tests area) → Decided area n (open_close_number area figure log) (close_number area figure log)
unfolding close_number
close-decided area figure log = decided area (close_tests (length (last_nodes_of area)) (nodes_digest area (last_nodes_of area)) figure log)

-- the way that the code takes with an open area: whether the log is short, and whether the digest is the figure
pub close-numbers : {n nodes : ℕ} {short equal : Bool} {digest : List ℕ} (area figure log : List ℕ) → short ≡ (log_test nodes log).0 → nodes ≡ length (last_nodes_of area)
    → equal ≡ same digest figure → digest ≡ nodes_digest area (last_nodes_of area) → n ≡ first_refusal ((short, 8) ∷ (not equal, 14) ∷ [])
    → n ≡ open_close_number area figure log
close-numbers area figure log s m q d e = e ∙ rw (s, m, q, d) refl
