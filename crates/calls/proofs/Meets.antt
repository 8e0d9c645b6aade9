-- Laws: one accepted open, feed, end, preview or close meets the tree: what a feed logs are U and V of the nodes that no longer reach the
-- last bit, in order; what an end or a close logs, of those that are left; and the digest is the tree's.
use Rattle.std.specs.Prelude.{◌≡◌, refl, Bool, List, [], ◌++◌, ℕ, ◌+◌, ◌*◌, length, take, drop}
use Rattle.std.proofs.Common.{sym, ap, ◌∙◌, arith, length-append}
use Rattle.std.proofs.lemmas.List.{length-map}
use Rattle.lists.specs.Below.{Below}
use Rattle.bits.specs.Piece.{Piece, piece_bits}
use Rattle.tree.specs.Tree.{Params, Mark, order, digest, digest_bytes, node_log}
use Rattle.tree.proofs.OutputLaws.{node_log-append, logged-front}
use Rattle.calls.specs.Area.{own_words}
use Rattle.calls.specs.Calls.{Made, AreaLog, Finished, open_number, open_of, fed_bits, feed_number, fed_area, feed_of, last_nodes_of, end_number, ended_area, digest_out, end_of, preview_of, close_of}
use Rattle.calls.specs.Marks.{all_nodes, settled}
use Rattle.calls.proofs.CallLaws.{open_number_lem, open_accepted, feed-number, feed-accepted, end-number, end-accepted, preview-number, preview-accepted, close-number, close_passed}
use Rattle.calls.proofs.Stands.{Stands, HasEnded, open_stands, FeedDone, feed-stands, EndDone, end-done, stands-digest}
use Rattle.calls.proofs.Previews.{close_as_end}

-- ---- a feed

pub record FedOnce (P : Params) (M Y : List Bool) (area : List ℕ) (f : AreaLog) : Type 0 where
  pub stands : Stands P (M ++ Y) f.area
  pub log : node_log (settled (order P (M ++ Y))) ≡ node_log (settled (order P M)) ++ take (2 * f.count) f.log
  pub count : length (settled (order P (M ++ Y))) ≡ length (settled (order P M)) + f.count
  pub size : length f.area ≡ length area
  pub tail : drop (own_words area) f.area ≡ drop (own_words area) area

pub feed-one : (P : Params) (M : List Bool) (area : List ℕ) (piece : Piece) (log : List ℕ) → Stands P M area → (feed_of area piece log).number ≡ 0 →
    FedOnce P M (piece_bits piece) area (feed_of area piece log)
feed-one P M area piece log s e = rw (feed-accepted area piece log z) record {
  stands = d.stands;
  log = ap node_log d.added ∙ node_log-append (settled (order P M)) made.nodes ∙ rw (logged-front made.nodes log);
  count = ap length d.added ∙ length-append (settled (order P M)) made.nodes;
  size = d.size;
  tail = d.tail;
}
  where
    z : feed_number area piece log ≡ 0
    z = sym (feed-number area piece log) ∙ e

    made : Made
    made = fed_bits area (piece_bits piece)

    d : FeedDone P M (piece_bits piece) area (fed_bits area (piece_bits piece)) (fed_area area piece.count (fed_bits area (piece_bits piece)))
    d = feed-stands P M area piece log s z

-- ---- an end

pub record EndedOnce (P : Params) (M : List Bool) (area out : List ℕ) (e : Finished) : Type 0 where
  pub ended : HasEnded P M e.area
  pub log : node_log (all_nodes (order P M)) ≡ node_log (settled (order P M)) ++ take (2 * e.count) e.log
  pub count : length (order P M) ≡ length (settled (order P M)) + e.count
  pub digest : e.digest ≡ digest P M ++ drop (digest_bytes P.d) out
  pub size : length e.area ≡ length area
  pub tail : drop (own_words area) e.area ≡ drop (own_words area) area

pub end-one : (P : Params) (M : List Bool) (area out log : List ℕ) → Stands P M area → (end_of area out log).number ≡ 0 →
    EndedOnce P M area out (end_of area out log)
end-one P M area out log s e = rw (end-accepted area out log z) record {
  ended = d.ended;
  log = ap node_log d.all ∙ node_log-append (settled (order P M)) (last_nodes_of area) ∙ rw (logged-front (last_nodes_of area) log);
  count = sym (length-map (order P M) (λ (m : Mark). m.node)) ∙ ap length d.all ∙ length-append (settled (order P M)) (last_nodes_of area);
  digest = d.digest;
  size = d.size;
  tail = d.tail;
}
  where
    z : end_number area out log ≡ 0
    z = sym (end-number area out log) ∙ e

    d : EndDone P M area out (last_nodes_of area) (ended_area area (last_nodes_of area)) (digest_out area (last_nodes_of area) out)
    d = end-done P M area out s

-- ---- a preview and a close

pub preview-one : (P : Params) (M : List Bool) (area out : List ℕ) → Stands P M area → (preview_of area out).number ≡ 0 →
    (preview_of area out).digest ≡ digest P M ++ drop (digest_bytes P.d) out
preview-one P M area out s e =
    rw (preview-accepted area out (sym (preview-number area out) ∙ e)) (end-done P M area out s).digest

-- a close is an end that has room for the figure, which is the message's digest
pub record ClosedOnce (P : Params) (M : List Bool) (figure : List ℕ) (c : AreaLog) : Type 0 where
  pub ended : HasEnded P M c.area
  pub log : node_log (all_nodes (order P M)) ≡ node_log (settled (order P M)) ++ take (2 * c.count) c.log
  pub count : length (order P M) ≡ length (settled (order P M)) + c.count
  pub digest : figure ≡ digest P M

pub close-one : (P : Params) (M : List Bool) (area figure log : List ℕ) → Stands P M area → (close_of area figure log).number ≡ 0 →
    ClosedOnce P M figure (close_of area figure log)
close-one P M area figure log s e =
    let f = close_as_end area figure figure log e (omega arith) in
    let o = end-one P M area figure log s (rw f refl) in
    let p = close_passed area figure log (sym (close-number area figure log) ∙ e) in
    record {
      ended = rw f at o.ended;
      log = rw f at o.log;
      count = rw f at o.count;
      digest = sym p.is_figure ∙ stands-digest s;
    }

-- ---- an open

pub open_one : (area : List ℕ) (P : Params) → Below 256 P.key → (open_of area P).number ≡ 0 → Stands P [] (open_of area P).area
open_one area P key e =
    let z : open_number area P ≡ 0 = sym (open_number_lem area P) ∙ e in
    rw (open_accepted area P z) (open_stands area P key z)
