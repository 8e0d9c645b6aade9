-- Laws: what no call changes: the words past the length that L gives, which is the argument's L for open and the area's own for the
-- others, of every area, sound or not, short or long; "Feeding 0 bits changes nothing." What a read leaves: ReadLeaves of `text`.
use Rattle.std.specs.Prelude.{◌≡◌, refl, List, [], ℕ, ◌+◌, length, drop, replicate}
use Rattle.std.proofs.Common.{sym, ◌∙◌, arith}
use Rattle.std.proofs.lemmas.List.{length-replicate}
use Rattle.bits.specs.Piece.{Piece, piece_of, piece_bits}
use Rattle.tree.specs.Tree.{Params, logged}
use Rattle.calls.specs.Area.{area_words, own_levels, own_words, total_of, compressions_of, params_of, levels_of, empty_level, empty_levels}
use Rattle.calls.specs.Calls.{Made, Opened, AreaLog, Finished, feed_bits, open_number, open_of, fed_bits, feed_number, fed_area, feed_of, last_nodes_of, end_number, ended_area, end_of, close_of}
use Rattle.calls.proofs.Machine
use Rattle.calls.proofs.AreaLaws.{Changed, changed}
use Rattle.calls.proofs.Sound.{empty-widths}
use Rattle.refusals.specs.RefusalLaws.{answered-by}
use Rattle.calls.proofs.CallLaws.{feed-passed, end-number, end-passed, close-number}
use Rattle.calls.proofs.Stands.{opened-tail}
use Rattle.calls.proofs.Previews.{close-same}
use Rattle.calls.proofs.FeedLaws.{feed-nothing}
use Rattle.calls.proofs.Widths.{Wide, wide-levels, wide-bits}

-- ---- what an accepted feed and an accepted end change: word 1 or 0, word 14 and the levels

pub feed-changed : (area : List ℕ) (piece : Piece) (log : List ℕ) → feed_number area piece log ≡ 0 →
    (let made : Made = fed_bits area (piece_bits piece) in
    Changed area 1 (total_of area + piece.count) (compressions_of area + length made.nodes) made.levels (fed_area area piece.count made))
unfolding fed_area fed_bits
feed-changed area piece log e =
    let made : Made = feed_bits (params_of area) (total_of area) (piece_bits piece) (levels_of area) in
    let q = feed-passed area piece log e in
    let w : Wide (params_of area).limit made.levels = wide-bits (params_of area) (params_of area).limit (total_of area) (piece_bits piece) (levels_of area) (wide-levels area q.opened.long) in
    changed area 1 (total_of area + piece.count) (compressions_of area + length made.nodes) made.levels q.opened.long (omega arith) w.widths w.size

pub end-changed : (area out log : List ℕ) → end_number area out log ≡ 0 →
    Changed area 0 2 (compressions_of area + length (last_nodes_of area)) (empty_levels (own_levels area)) (ended_area area (last_nodes_of area))
unfolding ended_area empty_levels
end-changed area out log e =
    changed area 0 2 (compressions_of area + length (last_nodes_of area)) (replicate (own_levels area) empty_level) (end-passed area out log e).opened.long (omega arith) (empty-widths (own_levels area))
    (length-replicate (own_levels area) empty_level)

-- ---- "the untouched tail"

pub open_tail : (area : List ℕ) (P : Params) → drop (area_words P.limit) (open_of area P).area ≡ drop (area_words P.limit) area
unfolding open_of
open_tail area P =
    answered-by (λ (x : Opened). drop (area_words P.limit) x.area ≡ drop (area_words P.limit) area) (λ (e : open_number area P ≡ 0). opened-tail area P) (λ k. refl)

pub feed-tail : (area : List ℕ) (piece : Piece) (log : List ℕ) → drop (own_words area) (feed_of area piece log).area ≡ drop (own_words area) area
unfolding feed_of
feed-tail area piece log =
    answered-by (λ (x : AreaLog). drop (own_words area) x.area ≡ drop (own_words area) area) (λ e. (feed-changed area piece log e).tail) (λ k. refl)

pub end-tail : (area out log : List ℕ) → drop (own_words area) (end_of area out log).area ≡ drop (own_words area) area
unfolding end_of
end-tail area out log =
    answered-by (λ (x : Finished). drop (own_words area) x.area ≡ drop (own_words area) area) (λ e. (end-changed area out log e).tail) (λ k. refl)

pub close-tail : (area figure log : List ℕ) → drop (own_words area) (close_of area figure log).area ≡ drop (own_words area) area
unfolding close_of
close-tail area figure log =
    answered-by (λ (x : AreaLog). drop (own_words area) x.area ≡ drop (own_words area) area)
    (λ e. let s = close-same area figure log (close-number area figure log ∙ e) in (end-changed area figure log (sym (end-number area figure log) ∙ s.0)).tail)
    (λ k. refl)

-- ---- "Feeding 0 bits changes nothing."

none_made : (area : List ℕ) → (fed_bits area []).nodes ≡ []
unfolding fed_bits
none_made area = rw (Machine.feed_bits_none (params_of area) (total_of area) (levels_of area)) refl

nothing-fed : (area bytes : List ℕ) (start : ℕ) (log : List ℕ) → (let made : Made = fed_bits area (piece_bits (piece_of bytes start 0)) in
    (fed_area area 0 made ≡ area) × (logged made.nodes log ≡ log) × (length made.nodes ≡ 0))
nothing-fed area bytes start log = rw (feed-nothing area, none_made area) (refl, refl, refl)

pub feed_none : (area bytes : List ℕ) (start : ℕ) (log : List ℕ) →
    (let f : AreaLog = feed_of area (piece_of bytes start 0) log in (f.area ≡ area) × (f.log ≡ log) × (f.count ≡ 0))
unfolding feed_of
feed_none area bytes start log =
    answered-by (λ (f : AreaLog). (f.area ≡ area) × (f.log ≡ log) × (f.count ≡ 0))
    (λ (e : feed_number area (piece_of bytes start 0) log ≡ 0). nothing-fed area bytes start log) (λ k. (refl, refl, refl))
