-- Laws: an area stands for a message: what each accepted call makes of this, and that the area is sound.
use Rattle.std.specs.Prelude.{◌≡◌, Bool, true, false, ℕ, ◌+◌, ◌*◌, ◌^◌, ◌<◌, ◌≤◌}
use Rattle.std.proofs.Math.Path.{refl, ap}
use Rattle.std.proofs.Common.{sym, ◌∙◌, arith, eq-eqb, drop_at}
use mathlib.Core.List.{List, [], ◌∷◌, ◌++◌, append_assoc, flatten}
use lib.ListN.{length, take, drop, get_or, set, replicate, length-append, length-replicate}
use Rattle.std.proofs.Math.Seq.{take_at, get_or_at, get_or-append-add}
use Rattle.lists.specs.Append.{cons_eq}
use Rattle.lists.specs.Below.{Below}
use Rattle.tree.specs.Tree.{Params, Valid, Node, key_words, order, root, last_or, no_node, digest, digest_bytes}
use Rattle.tree.proofs.TreeLaws.{length-key_words}
use Rattle.refusals.specs.Refusals.{first_refusal, param_tests}
use Rattle.tree.specs.Sizes.{tree_nodes}
use Rattle.calls.specs.Area.{area_words, phase_of, total_of, key_bytes_of, k_of, compressions_of, params_of, levels_of, with_levels, empty_level, empty_levels, open_count, sound_phase, sound_params, sound_key, sound_count, sound_last, sound_levels, sound, area_levels, own_levels, own_words, block_words, Long}
use Rattle.calls.specs.Calls.{Made, feed_bits, last_nodes, open_number, opened_area, fed_bits, feed_number, fed_area, last_nodes_of, ended_area, nodes_digest, digest_out}
use Rattle.calls.specs.Marks.{all_nodes, settled}
use Rattle.calls.proofs.Rows.{length-flatten}
use Rattle.calls.proofs.Receive.{marked}
use Rattle.calls.proofs.Machine
use Rattle.calls.proofs.Counts
use Rattle.calls.proofs.AreaLaws.{Changed, changed, levels_of-at, key_back, key-clean}
use Rattle.lists.specs.And.{and_intro}
use Rattle.bits.specs.Piece.{Piece, piece_bits}
use Rattle.bits.specs.PieceLaws.{length-piece_bits}
use Rattle.calls.proofs.Sound.{clean-empty, empty-widths, state-widths, state-size, state-sound}
use Rattle.refusals.specs.RefusalLaws.{params-valid, valid-params}
use Rattle.calls.proofs.CallLaws.{open_passed, FeedPassed, feed-passed}

-- ---- the nodes made are those of the tree's listing

all_nodes-marked : (b : Bool) (xs : List Node) → all_nodes (marked b xs) ≡ xs
all_nodes-marked b [] = refl
all_nodes-marked b (x ∷ xs) = cons_eq refl (all_nodes-marked b xs)

all_nodes-both : (xs ys : List Node) → all_nodes (marked false xs ++ marked true ys) ≡ xs ++ ys
all_nodes-both [] ys = all_nodes-marked true ys
all_nodes-both (x ∷ xs) ys = cons_eq refl (all_nodes-both xs ys)

settled_none : (ys : List Node) → settled (marked true ys) ≡ []
settled_none [] = refl
settled_none (y ∷ ys) = settled_none ys

settled-both : (xs ys : List Node) → settled (marked false xs ++ marked true ys) ≡ xs
settled-both [] ys = settled_none ys
settled-both (x ∷ xs) ys = cons_eq refl (settled-both xs ys)

module _ (P : Params) (M : List Bool) (st : List (List ℕ)) (log : List Node) (short : length M < 2 ^ 64) (v : Machine.State P P.limit M st log) where
  pub state-settled : settled (order P M) ≡ log
  state-settled = ap settled (Machine.state-done P P.limit M st log short v).listed ∙ settled-both log (last_nodes P P.limit (length M) st)

  pub state-all : all_nodes (order P M) ≡ log ++ last_nodes P P.limit (length M) st
  state-all = ap all_nodes (Machine.state-done P P.limit M st log short v).listed ∙ all_nodes-both log (last_nodes P P.limit (length M) st)

  state-root : root P M ≡ last_or no_node (last_nodes P P.limit (length M) st)
  state-root = (Machine.state-done P P.limit M st log short v).root no_node

-- the empty message has no node that does not reach its last bit
pub settled-opened : (P : Params) → settled (order P []) ≡ []
settled-opened P = state-settled P [] (empty_levels (area_levels P.limit)) [] (omega arith) (Machine.state_open P P.limit)

-- ---- an area and a message

-- what stays until the area is opened again
pub record Head (P : Params) (M : List Bool) (area : List ℕ) : Type 0 where
  pub valid : Valid P
  pub short : length M < 2 ^ 64
  pub long : Long area
  pub total : total_of area ≡ length M
  pub params : params_of area ≡ P
  pub key_bytes : key_bytes_of area ≡ length P.key
  pub key : k_of area ≡ key_words P.key
  pub last : get_or area 15 0 ≡ 0

-- an open area that stands for the message M
pub record Stands (P : Params) (M : List Bool) (area : List ℕ) : Type 0 where
  pub head : Head P M area
  pub phase : phase_of area ≡ 1
  pub count : compressions_of area ≡ open_count P.limit (length M)
  pub state : Machine.State P P.limit M (levels_of area) (settled (order P M))

-- an area that ended after the message M
pub record HasEnded (P : Params) (M : List Bool) (area : List ℕ) : Type 0 where
  pub head : Head P M area
  pub phase : phase_of area ≡ 2
  pub count : compressions_of area ≡ tree_nodes P.limit (length M)
  pub levels : levels_of area ≡ empty_levels (area_levels P.limit)

-- ---- they are sound

params-sound : {P : Params} {M : List Bool} {area : List ℕ} → Head P M area → sound_params area ≡ true
params-sound {P} {M} {area} h = rw (h.params, valid-params P h.valid) refl

key-sound : {P : Params} {M : List Bool} {area : List ℕ} → Head P M area → sound_key area ≡ true
key-sound {P} {M} {area} h = rw (h.key_bytes, h.key) (key-clean P.key h.valid.key_bytes)

last-sound : {P : Params} {M : List Bool} {area : List ℕ} → Head P M area → sound_last area ≡ true
last-sound h = rw h.last refl

-- the other tests of soundness
head-sound : {P : Params} {M : List Bool} {area : List ℕ} → Head P M area → sound_phase area ≡ true → sound_count area ≡ true → sound_levels area ≡ true → sound area ≡ true
unfolding sound
head-sound h phase count levels =
    and_intro phase (and_intro (params-sound h) (and_intro (key-sound h) (and_intro count (and_intro (last-sound h) levels))))

pub stands-sound : {P : Params} {M : List Bool} {area : List ℕ} → Stands P M area → sound area ≡ true
stands-sound {P} {M} {area} s =
    head-sound s.head (rw s.phase refl)
    (rw (s.phase, s.head.params, s.head.total) (eq-eqb (compressions_of area) (open_count P.limit (length M)) s.count))
    (rw (s.phase, s.head.params, s.head.total) (state-sound P P.limit M (levels_of area) (settled (order P M)) s.state))

pub ended-sound : {P : Params} {M : List Bool} {area : List ℕ} → HasEnded P M area → sound area ≡ true
unfolding empty_levels
ended-sound {P} {M} {area} s =
    head-sound s.head (rw s.phase refl)
    (rw (s.phase, s.head.params, s.head.total) (eq-eqb (compressions_of area) (tree_nodes P.limit (length M)) s.count))
    (rw (s.phase, s.head.params, s.levels) (clean-empty (area_levels P.limit)))

-- ---- open

module _ (area : List ℕ) (P : Params) where
  front : List ℕ
  front = 1 ∷ 0 ∷ length P.key ∷ P.d ∷ P.limit ∷ P.rounds ∷ (key_words P.key ++ (0 ∷ 0 ∷ []))

  opened_is : opened_area area P ≡ front ++ (flatten (empty_levels (area_levels P.limit)) ++ drop (area_words P.limit) area)
  unfolding opened_area front
  opened_is = rw (append_assoc (key_words P.key) (0 ∷ 0 ∷ []) (flatten (empty_levels (area_levels P.limit)) ++ drop (area_words P.limit) area)) refl

  front_length : length front ≡ 16
  unfolding front
  front_length = rw (length-append (key_words P.key) (0 ∷ 0 ∷ []), length-key_words P.key) refl

  empty-width : length (flatten (empty_levels (area_levels P.limit))) ≡ block_words * area_levels P.limit
  unfolding empty_levels
  empty-width = length-flatten 64 (replicate (area_levels P.limit) empty_level) (empty-widths (area_levels P.limit)) ∙ rw (length-replicate (area_levels P.limit) empty_level) (omega arith)

  pub opened-size : area_words P.limit ≤ length area → length (opened_area area P) ≡ length area
  opened-size h =
      rw (opened_is, length-append front (flatten (empty_levels (area_levels P.limit)) ++ drop (area_words P.limit) area), front_length, length-append (flatten (empty_levels (area_levels P.limit))) (drop (area_words P.limit) area), empty-width, lib.ListN.length-drop (area_words P.limit) area)
      (omega arith)

  opened-front : take (area_words P.limit) (opened_area area P) ≡ front ++ flatten (empty_levels (area_levels P.limit))
  opened-front =
      rw (opened_is, ← append_assoc front (flatten (empty_levels (area_levels P.limit))) (drop (area_words P.limit) area))
      (take_at (front ++ flatten (empty_levels (area_levels P.limit))) (drop (area_words P.limit) area) (area_words P.limit) (rw (length-append front (flatten (empty_levels (area_levels P.limit))), front_length, empty-width) (omega arith)))

  pub opened-tail : drop (area_words P.limit) (opened_area area P) ≡ drop (area_words P.limit) area
  opened-tail =
      rw (opened_is, ← append_assoc front (flatten (empty_levels (area_levels P.limit))) (drop (area_words P.limit) area))
      (drop_at (front ++ flatten (empty_levels (area_levels P.limit))) (drop (area_words P.limit) area) (area_words P.limit) (rw (length-append front (flatten (empty_levels (area_levels P.limit))), front_length, empty-width) (omega arith)))

  pub opened-limit : (params_of (opened_area area P)).limit ≡ P.limit
  unfolding opened_area params_of
  opened-limit = refl

  pub opened-levels : levels_of (opened_area area P) ≡ empty_levels (area_levels P.limit)
  unfolding empty_levels
  opened-levels =
      rw opened_is
      (levels_of-at front (replicate (area_levels P.limit) empty_level) (drop (area_words P.limit) area) front_length (empty-widths (area_levels P.limit))
      (length-replicate (area_levels P.limit) empty_level ∙ rw (← opened_is, opened-limit)))

  pub opened-key : k_of (opened_area area P) ≡ key_words P.key
  unfolding opened_area
  opened-key = take_at (key_words P.key) (0 ∷ 0 ∷ (flatten (empty_levels (area_levels P.limit)) ++ drop (area_words P.limit) area)) 8 (length-key_words P.key)

  pub opened_14 : compressions_of (opened_area area P) ≡ 0
  unfolding opened_area
  opened_14 = get_or_at (key_words P.key) 0 (0 ∷ (flatten (empty_levels (area_levels P.limit)) ++ drop (area_words P.limit) area)) 0 8 (length-key_words P.key)

  pub opened_15 : get_or (opened_area area P) 15 0 ≡ 0
  unfolding opened_area
  opened_15 =
      ap (λ (k : ℕ). get_or (key_words P.key ++ (0 ∷ 0 ∷ (flatten (empty_levels (area_levels P.limit)) ++ drop (area_words P.limit) area))) (k + 1) 0) (sym (length-key_words P.key))
      ∙ get_or-append-add (key_words P.key) (0 ∷ 0 ∷ (flatten (empty_levels (area_levels P.limit)) ++ drop (area_words P.limit) area)) 1 0

  pub opened_0 : phase_of (opened_area area P) ≡ 1
  unfolding opened_area
  opened_0 = refl

  opened-params : Valid P → params_of (opened_area area P) ≡ P
  unfolding opened_area params_of
  opened-params v = rw (opened_key', key_back P.key v.bytes v.key_bytes) refl
    where
      opened_key' : take 8 (key_words P.key ++ (0 ∷ 0 ∷ (flatten (empty_levels (area_levels P.limit)) ++ drop (area_words P.limit) area))) ≡ key_words P.key
      opened_key' = take_at (key_words P.key) (0 ∷ 0 ∷ (flatten (empty_levels (area_levels P.limit)) ++ drop (area_words P.limit) area)) 8 (length-key_words P.key)

  opened-head : Valid P → area_words P.limit ≤ length area → Head P [] (opened_area area P)
  unfolding opened_area
  opened-head v h = record {
    valid = v;
    short = omega arith;
    long = rw (opened-size h, opened-limit) h;
    total = refl;
    params = opened-params v;
    key_bytes = refl;
    key = opened-key;
    last = opened_15;
  }

  -- an accepted open
  pub open_stands : Below 256 P.key → open_number area P ≡ 0 → Stands P [] (opened_area area P)
  open_stands b e = record {
    head = opened-head v a.0;
    phase = opened_0;
    count = opened_14 ∙ sym (Counts.open_count_none P.limit);
    state = rw (opened-levels, settled-opened P) (Machine.state_open P P.limit);
  }
    where
      a : (area_words P.limit ≤ length area) × (first_refusal (param_tests P) ≡ 0)
      a = open_passed area P e

      v : Valid P
      v = params-valid P b a.1

-- whatever the area held before
pub opened-alike : (x y : List ℕ) (P : Params) → take (area_words P.limit) (opened_area x P) ≡ take (area_words P.limit) (opened_area y P)
unfolding front
opened-alike x y P = opened-front x P ∙ sym (opened-front y P)

-- ---- feed

-- what an accepted feed of the bits Y makes of an area
pub record FeedDone (P : Params) (M Y : List Bool) (area : List ℕ) (made : Made) (to : List ℕ) : Type 0 where
  pub stands : Stands P (M ++ Y) to
  pub added : settled (order P (M ++ Y)) ≡ settled (order P M) ++ made.nodes
  pub size : length to ≡ length area
  pub tail : drop (own_words area) to ≡ drop (own_words area) area

pub feed-stands : (P : Params) (M : List Bool) (area : List ℕ) (piece : Piece) (log : List ℕ) → Stands P M area → feed_number area piece log ≡ 0 →
    (let Y : List Bool = piece_bits piece in FeedDone P M Y area (fed_bits area Y) (fed_area area piece.count (fed_bits area Y)))
unfolding fed_bits fed_area
feed-stands P M area piece log s e = record {
  stands = record {
    head = record {
      valid = s.head.valid;
      short = rw len small;
      long = rw (c.size, c.params) s.head.long;
      total = c.set ∙ omega (arith, s.head.total, size, len);
      params = c.params ∙ s.head.params;
      key_bytes = c.same 2 (omega arith) (omega arith) (omega arith) ∙ s.head.key_bytes;
      key = c.key ∙ s.head.key;
      last = c.same 15 (omega arith) (omega arith) (omega arith) ∙ s.head.last;
    };
    phase = c.same 0 (omega arith) (omega arith) (omega arith) ∙ s.phase;
    count = c.count ∙ rw (len, s.count) counted;
    state = rw (c.levels, added) state;
  };
  added = added;
  size = c.size;
  tail = c.tail;
}
  where
    Y : List Bool
    Y = piece_bits piece

    p : FeedPassed area piece log
    p = feed-passed area piece log e

    size : piece.count ≡ length Y
    size = sym (length-piece_bits piece p.bits)

    len : length (M ++ Y) ≡ length M + length Y
    len = length-append M Y

    small : length M + length Y < 2 ^ 64
    small = omega (arith, p.total, s.head.total, size)

    made : Made
    made = feed_bits (params_of area) (total_of area) Y (levels_of area)

    is : made ≡ feed_bits P (length M) Y (levels_of area)
    is = rw (s.head.params, s.head.total) refl

    state : Machine.State P P.limit (M ++ Y) made.levels (settled (order P M) ++ made.nodes)
    state = rw is (Machine.state-fed P M Y (levels_of area) (settled (order P M)) small s.state)

    added : settled (order P (M ++ Y)) ≡ settled (order P M) ++ made.nodes
    added = state-settled P (M ++ Y) made.levels (settled (order P M) ++ made.nodes) (rw len small) state

    c : Changed area 1 (total_of area + piece.count) (compressions_of area + length made.nodes) made.levels
        (with_levels (set (set area 1 (total_of area + piece.count)) 14 (compressions_of area + length made.nodes)) made.levels)
    c = changed area 1 (total_of area + piece.count) (compressions_of area + length made.nodes) made.levels s.head.long (omega arith)
        (state-widths P P.limit (M ++ Y) made.levels (settled (order P M) ++ made.nodes) state)
        (state-size P P.limit (M ++ Y) made.levels (settled (order P M) ++ made.nodes) state ∙ rw s.head.params)

    counted : open_count P.limit (length M) + length made.nodes ≡ open_count P.limit (length M + length Y)
    counted = rw is (omega (arith, Counts.feed_bits-count P (length M) Y (levels_of area) (state-size P P.limit M (levels_of area) (settled (order P M)) s.state) small))

-- ---- end

-- what an accepted end makes of an area
pub record EndDone (P : Params) (M : List Bool) (area out : List ℕ) (nodes : List Node) (to given : List ℕ) : Type 0 where
  pub ended : HasEnded P M to
  pub all : all_nodes (order P M) ≡ settled (order P M) ++ nodes
  pub digest : given ≡ digest P M ++ drop (digest_bytes P.d) out
  pub size : length to ≡ length area
  pub tail : drop (own_words area) to ≡ drop (own_words area) area

-- the digest of an area that stands for a message is the message's
pub stands-digest : {P : Params} {M : List Bool} {area : List ℕ} → Stands P M area → nodes_digest area (last_nodes_of area) ≡ digest P M
unfolding last_nodes_of
stands-digest {P} {M} {area} s =
    rw (s.head.params, s.head.total, ← state-root P M (levels_of area) (settled (order P M)) s.head.short s.state) refl

pub end-done : (P : Params) (M : List Bool) (area out : List ℕ) → Stands P M area →
    EndDone P M area out (last_nodes_of area) (ended_area area (last_nodes_of area)) (digest_out area (last_nodes_of area) out)
unfolding last_nodes_of ended_area digest_out empty_levels
end-done P M area out s = record {
  ended = record {
    head = record {
      valid = s.head.valid;
      short = s.head.short;
      long = rw (c.size, c.params) s.head.long;
      total = c.same 1 (omega arith) (omega arith) (omega arith) ∙ s.head.total;
      params = c.params ∙ s.head.params;
      key_bytes = c.same 2 (omega arith) (omega arith) (omega arith) ∙ s.head.key_bytes;
      key = c.key ∙ s.head.key;
      last = c.same 15 (omega arith) (omega arith) (omega arith) ∙ s.head.last;
    };
    phase = c.set;
    count = c.count ∙ rw s.count counted;
    levels = c.levels ∙ rw s.head.params;
  };
  all = rw is (state-all P M (levels_of area) (settled (order P M)) s.head.short s.state);
  digest = rw (← stands-digest s, s.head.params) refl;
  size = c.size;
  tail = c.tail;
}
  where
    nodes : List Node
    nodes = last_nodes (params_of area) (params_of area).limit (total_of area) (levels_of area)

    is : nodes ≡ last_nodes P P.limit (length M) (levels_of area)
    is = rw (s.head.params, s.head.total) refl

    c : Changed area 0 2 (compressions_of area + length nodes) (replicate (own_levels area) empty_level) (with_levels (set (set area 0 2) 14 (compressions_of area + length nodes)) (replicate (own_levels area) empty_level))
    c = changed area 0 2 (compressions_of area + length nodes) (replicate (own_levels area) empty_level) s.head.long (omega arith) (empty-widths (own_levels area))
        (length-replicate (own_levels area) empty_level)

    counted : open_count P.limit (length M) + length nodes ≡ tree_nodes P.limit (length M)
    counted = rw is (omega (arith, Counts.last_nodes-count P P.limit (length M) (levels_of area) (state-size P P.limit M (levels_of area) (settled (order P M)) s.state) s.head.short))
