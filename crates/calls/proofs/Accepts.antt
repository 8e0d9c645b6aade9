-- Laws: which calls are accepted on an area that stands for a message, and how many nodes a feed and an end make of any area.
use Rattle.std.specs.Prelude.{◌≡◌, refl, Bool, true, false, ◌&&◌, ◌⊎◌, List, [], ◌++◌, ◌∷◌, ℕ, ◌+◌, ◌^◌, ◌≤◌, ◌<◌, leb, length}
use Rattle.std.proofs.Common.{ap, ◌∙◌, inl, inr, zero-add, arith, le-ltb, le-leb, length-append}
use Rattle.std.proofs.Math.Bool.{and-false}
use Rattle.std.proofs.lemmas.Bool.{lt-leb}
use Rattle.tree.specs.Tree.{Params, order, digest_bytes, digest}
use Rattle.refusals.specs.Refusals.{first_refusal, output_test}
use Rattle.tree.specs.Sizes.{tree_nodes}
use Rattle.calls.specs.Area.{area_levels, own_levels, own_words, total_of, params_of, level_words, levels_of, empty_levels, open_count, sound, Long}
use Rattle.calls.specs.Calls.{feed_bits, fed_bits, feed_number, last_nodes_of, end_number, nodes_digest, preview_number, close_tests, close_number, log_words_number, shown, level_of, open_tests, total_test, feed_tests, end_tests}
use Rattle.calls.proofs.CallLaws.{OpenArea, open_tests_lem}
use Rattle.calls.specs.Marks.{all_nodes, settled}
use Rattle.calls.proofs.Machine
use Rattle.calls.proofs.Counts
use Rattle.lists.specs.And.{and_intro}
use Rattle.bits.specs.Piece.{Piece, piece_bits}
use Rattle.calls.proofs.AreaLaws.{length-levels_of}
use Rattle.calls.proofs.Sound.{state-size}
use Rattle.calls.proofs.Stands.{state-settled, state-all, Stands, HasEnded, stands-sound, ended-sound, stands-digest}

-- ---- the count of word 14 is a number of nodes

module _ (P : Params) (M : List Bool) (short : length M < 2 ^ 64) where
  fed : Machine.State P P.limit M (feed_bits P 0 M (empty_levels (area_levels P.limit))).levels (feed_bits P 0 M (empty_levels (area_levels P.limit))).nodes
  fed = Machine.state-fed P [] M (empty_levels (area_levels P.limit)) [] (omega arith) (Machine.state_open P P.limit)

  -- open: the nodes that do not reach the last bit
  pub open_count-nodes : open_count P.limit (length M) ≡ length (settled (order P M))
  open_count-nodes =
      let c = Counts.feed_bits-count P 0 M (empty_levels (area_levels P.limit)) (state-size P P.limit [] (empty_levels (area_levels P.limit)) [] (Machine.state_open P P.limit)) (omega arith) in
      let z : open_count P.limit (0 + length M) ≡ open_count P.limit (length M) = ap (open_count P.limit) (zero-add (length M)) in
      let s = ap length (state-settled P M (feed_bits P 0 M (empty_levels (area_levels P.limit))).levels (feed_bits P 0 M (empty_levels (area_levels P.limit))).nodes short fed) in
      omega (arith, c, z, s, Counts.open_count_none P.limit)

-- ---- an area that stands for a message

module _ {P : Params} {M : List Bool} {area : List ℕ} (s : Stands P M area) where
  opened : OpenArea area
  opened = record { long = s.head.long; sound = stands-sound s; phase = omega (arith, s.phase) }

  -- a feed is neither refused by 7 nor by 10
  pub feed-tests : (piece : Piece) (log : List ℕ) →
      feed_number area piece log ≡ first_refusal (feed_tests (length M) (length (fed_bits area (piece_bits piece)).nodes) piece log)
  unfolding feed_number
  feed-tests piece log = open_tests_lem opened (feed_tests (total_of area) (length (fed_bits area (piece_bits piece)).nodes) piece log) ∙ rw s.head.total

  -- an end neither
  pub end-tests : (out log : List ℕ) → end_number area out log ≡ first_refusal (end_tests P.d (length (last_nodes_of area)) out log)
  unfolding end_number
  end-tests out log = open_tests_lem opened (end_tests (params_of area).d (length (last_nodes_of area)) out log) ∙ rw s.head.params

  -- nor a preview or a close
  pub preview-tests : (out : List ℕ) → preview_number area out ≡ first_refusal (output_test (digest_bytes P.d) out ∷ [])
  unfolding preview_number
  preview-tests out = open_tests_lem opened (output_test (digest_bytes (params_of area).d) out ∷ []) ∙ rw s.head.params

  pub close-tests : (figure log : List ℕ) → close_number area figure log ≡ first_refusal (close_tests (length (last_nodes_of area)) (digest P M) figure log)
  unfolding close_number
  close-tests figure log =
      open_tests_lem opened (close_tests (length (last_nodes_of area)) (nodes_digest area (last_nodes_of area)) figure log) ∙ rw (stands-digest s)

  -- nor telling log words
  pub log_words-tests : (n : ℕ) → log_words_number area n ≡ first_refusal (total_test (length M) n ∷ [])
  unfolding log_words_number
  log_words-tests n = open_tests_lem opened (total_test (total_of area) n ∷ []) ∙ rw s.head.total

  -- the nodes that a feed of Y would make
  pub feed-nodes : (Y : List Bool) → length M + length Y < 2 ^ 64 → settled (order P (M ++ Y)) ≡ settled (order P M) ++ (fed_bits area Y).nodes
  unfolding fed_bits
  feed-nodes Y h =
      rw (s.head.params, s.head.total)
      (state-settled P (M ++ Y) (feed_bits P (length M) Y (levels_of area)).levels (settled (order P M) ++ (feed_bits P (length M) Y (levels_of area)).nodes)
      (rw (length-append M Y) h) (Machine.state-fed P M Y (levels_of area) (settled (order P M)) h s.state))

  -- and those that an end would make
  pub end-nodes : all_nodes (order P M) ≡ settled (order P M) ++ last_nodes_of area
  unfolding last_nodes_of
  end-nodes = rw (s.head.params, s.head.total) (state-all P M (levels_of area) (settled (order P M)) s.head.short s.state)

-- ---- an area that ended

module _ {P : Params} {M : List Bool} {area : List ℕ} (s : HasEnded P M area) where
  -- 10, whatever would be tested later
  ended-tests : (later : List (Bool × ℕ)) → first_refusal (open_tests area ++ later) ≡ 10
  ended-tests later = rw (le-ltb (length area) (own_words area) s.head.long, ended-sound s, s.phase) refl

  pub feed-ended : (piece : Piece) (log : List ℕ) → feed_number area piece log ≡ 10
  unfolding feed_number
  feed-ended piece log = ended-tests (feed_tests (total_of area) (length (fed_bits area (piece_bits piece)).nodes) piece log)

  pub end-ended : (out log : List ℕ) → end_number area out log ≡ 10
  unfolding end_number
  end-ended out log = ended-tests (end_tests (params_of area).d (length (last_nodes_of area)) out log)

  pub preview-ended : (out : List ℕ) → preview_number area out ≡ 10
  unfolding preview_number
  preview-ended out = ended-tests (output_test (digest_bytes (params_of area).d) out ∷ [])

  pub close-ended : (figure log : List ℕ) → close_number area figure log ≡ 10
  unfolding close_number
  close-ended figure log = ended-tests (close_tests (length (last_nodes_of area)) (nodes_digest area (last_nodes_of area)) figure log)

  pub log_words-ended : (n : ℕ) → log_words_number area n ≡ 10
  unfolding log_words_number
  log_words-ended n = ended-tests (total_test (total_of area) n ∷ [])

-- ---- a level shown

shown-all : (area : List ℕ) (level : ℕ) → leb (own_words area) (length area) ≡ true → sound area ≡ true → leb 1 level ≡ true →
    leb level (own_levels area) ≡ true → shown area level ≡ true
unfolding shown
shown-all area level a b c d = and_intro a (and_intro b (and_intro c d))

pub level-shown : (area : List ℕ) (level : ℕ) → Long area → sound area ≡ true → 1 ≤ level → level ≤ own_levels area →
    level_of area level ≡ level_words area level
unfolding level_of
level-shown area level h e l m = rw (yes-shown, level_of) refl
  where
    yes-shown : shown area level ≡ true
    yes-shown = shown-all area level (le-leb (own_words area) (length area) h) e (le-leb 1 level l) (le-leb level (own_levels area) m)

-- M-109: "Showing a level that the area lacks gives the empty part", of every area
last_fails : (a b c d : Bool) → (c ≡ false) ⊎ (d ≡ false) → (a && (b && (c && d))) ≡ false
last_fails a b c d (inl e) = rw (e, and-false b, and-false a) refl
last_fails a b c d (inr e) = rw (e, and-false c, and-false b, and-false a) refl

not-shown : (area : List ℕ) (level : ℕ) → (leb 1 level ≡ false) ⊎ (leb level (own_levels area) ≡ false) → shown area level ≡ false
unfolding shown
not-shown area level = last_fails (leb (own_words area) (length area)) (sound area) (leb 1 level) (leb level (own_levels area))

pub level_none : (area : List ℕ) (level : ℕ) → level < 1 ⊎ own_levels area < level → level_of area level ≡ []
unfolding level_of
level_none area level (inl low) = rw (not-shown area level (inl (lt-leb 1 level low)), level_of) refl
level_none area level (inr high) = rw (not-shown area level (inr (lt-leb level (own_levels area) high)), level_of) refl

-- ---- how many nodes a feed and an end make, for any area

pub fed-count : (area : List ℕ) (Y : List Bool) → total_of area + length Y < 2 ^ 64 →
    length (fed_bits area Y).nodes + open_count (params_of area).limit (total_of area) ≡ open_count (params_of area).limit (total_of area + length Y)
unfolding fed_bits
fed-count area Y h = Counts.feed_bits-count (params_of area) (total_of area) Y (levels_of area) (length-levels_of area) h

pub last-count : (area : List ℕ) → total_of area < 2 ^ 64 →
    length (last_nodes_of area) + open_count (params_of area).limit (total_of area) ≡ tree_nodes (params_of area).limit (total_of area)
unfolding last_nodes_of
last-count area h = Counts.last_nodes-count (params_of area) (params_of area).limit (total_of area) (levels_of area) (length-levels_of area) h
