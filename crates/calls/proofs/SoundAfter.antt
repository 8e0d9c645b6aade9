-- Laws: every accepted call leaves a sound area of the length that it had. Read's law: ReadLeaves of `texts`.
use Rattle.std.specs.Prelude.{◌≡◌, refl, true, List, [], ℕ, ◌^◌, eqb, length}
use Rattle.std.proofs.Common.{sym, ◌∙◌, eq-eqb}
use Rattle.lists.specs.Below.{Below}
use Rattle.bits.specs.BitsLaws.{length-numbers}
use Rattle.bits.specs.Piece.{Piece}
use Rattle.tree.specs.Tree.{Params}
use Rattle.refusals.specs.Refusals.{first_refusal, param_tests}
use Rattle.refusals.specs.RefusalLaws.{in_range}
use Rattle.calls.specs.Area.{total_of, key_bytes_of, params_of, empty_levels, open_count, sound_params, sound, area_levels}
use Rattle.calls.specs.Calls.{open_number, opened_area, open_of, feed_number, feed_of, end_number, end_of, close_of}
use Rattle.calls.proofs.Machine
use Rattle.calls.proofs.Counts
use Rattle.calls.proofs.AreaLaws.{key-clean}
use Rattle.calls.proofs.Sound.{state-sound}
use Rattle.calls.proofs.CallLaws.{open_number_lem, open_accepted, open_passed, feed-number, feed-accepted, feed-passed, end-number, end-accepted, end-passed}
use Rattle.calls.proofs.Stands.{opened-size, opened-levels, opened-key, opened_14, opened_15, opened_0}
use Rattle.calls.proofs.Moved.{tests-sound}
use Rattle.calls.proofs.Tails.{feed-changed, end-changed}
use Rattle.calls.proofs.StaysSound.{feed_keeps, end_keeps}
use Rattle.calls.proofs.Previews.{close-same}
use Rattle.calls.specs.Vocabulary.{LeavesSound}

-- ---- open: of any area, whatever it held, and any key

opened-words : (area : List ℕ) (P : Params) →
    (total_of (opened_area area P) ≡ 0) × (key_bytes_of (opened_area area P) ≡ length P.key) × ((params_of (opened_area area P)).limit ≡ P.limit)
unfolding opened_area params_of
opened-words area P = (refl, refl, refl)

-- the ranges are tests of the key's length, d, L and r alone
opened-params : (area : List ℕ) (P : Params) → sound_params (opened_area area P) ≡ eqb (first_refusal (param_tests P)) 0
unfolding opened_area params_of
opened-params area P = rw (length-numbers 8 (length P.key) _) refl

opened-sound : (area : List ℕ) (P : Params) → first_refusal (param_tests P) ≡ 0 → sound (opened_area area P) ≡ true
opened-sound area P e =
    let w = opened-words area P in
    tests-sound (opened_area area P) record {
      phase = rw (opened_0 area P) refl;
      params = opened-params area P ∙ rw e refl;
      key = rw (opened-key area P, w.1) (key-clean P.key (in_range (length P.key) P.d P.limit P.rounds e).key_high);
      count = rw (opened_14 area P, opened_0 area P, w.0, w.2) (eq-eqb 0 (open_count P.limit 0) (sym (Counts.open_count_none P.limit)));
      last = rw (opened_15 area P) refl;
      levels = rw (opened_0 area P, opened-levels area P, w.0, w.2) (state-sound P P.limit [] (empty_levels (area_levels P.limit)) [] (Machine.state_open P P.limit));
    }

pub open_leaves-sound : (area : List ℕ) (P : Params) → (open_of area P).number ≡ 0 → LeavesSound area (open_of area P).area
open_leaves-sound area P e =
    let z : open_number area P ≡ 0 = sym (open_number_lem area P) ∙ e in
    let p = open_passed area P z in
    let s : length (open_of area P).area ≡ length area = rw (open_accepted area P z) (opened-size area P p.0) in
    record { size = s; long = rw (s, open_accepted area P z, (opened-words area P).2) p.0; is_sound = rw (open_accepted area P z) (opened-sound area P p.1) }

-- ---- feed, end and close: of any area of 64-bit words

pub feed-leaves-sound : (area : List ℕ) (piece : Piece) (log : List ℕ) → Below (2 ^ 64) area → (feed_of area piece log).number ≡ 0 →
    LeavesSound area (feed_of area piece log).area
feed-leaves-sound area piece log b e =
    let z : feed_number area piece log ≡ 0 = sym (feed-number area piece log) ∙ e in
    let s : length (feed_of area piece log).area ≡ length area = rw (feed-accepted area piece log z) (feed-changed area piece log z).size in
    record { size = s; long = rw (s, feed-accepted area piece log z, (feed-changed area piece log z).params) (feed-passed area piece log z).opened.long; is_sound = feed_keeps area piece log b e }

pub end-leaves-sound : (area out log : List ℕ) → Below (2 ^ 64) area → (end_of area out log).number ≡ 0 → LeavesSound area (end_of area out log).area
end-leaves-sound area out log b e =
    let z : end_number area out log ≡ 0 = sym (end-number area out log) ∙ e in
    let s : length (end_of area out log).area ≡ length area = rw (end-accepted area out log z) (end-changed area out log z).size in
    record { size = s; long = rw (s, end-accepted area out log z, (end-changed area out log z).params) (end-passed area out log z).opened.long; is_sound = end_keeps area out log b e }

pub close-leaves-sound : (area figure log : List ℕ) → Below (2 ^ 64) area → (close_of area figure log).number ≡ 0
    → LeavesSound area (close_of area figure log).area
close-leaves-sound area figure log b e =
    let f = close-same area figure log e in
    rw f.1 (end-leaves-sound area figure log b f.0)
