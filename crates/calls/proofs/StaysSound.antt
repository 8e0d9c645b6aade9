-- Laws: an accepted feed and an accepted end leave any sound area sound, whatever it holds.
use Rattle.std.specs.Prelude.{◌≡◌, refl, Bool, true, false, ◌||◌, List, ℕ, zero, suc, ◌+◌, ◌-◌, ◌*◌, ◌^◌, eqb, length, set, replicate}
use Rattle.std.proofs.Common.{sym, ◌∙◌, subst, arith, eqb-true, eq-eqb, ne_eqb}
use Rattle.lists.specs.Below.{Below}
use Rattle.lists.specs.BelowLaws.{below_at, below-take, below-drop}
use Rattle.bits.specs.Piece.{Piece, piece_bits}
use Rattle.bits.specs.PieceLaws.{length-piece_bits}
use Rattle.tree.specs.Sizes.{tree_nodes}
use Rattle.calls.specs.Area.{phase_of, total_of, key_bytes_of, k_of, compressions_of, params_of, levels_from, levels_of, with_levels, empty_level, empty_levels, holds_for, open_count, count_for, clean_all, sound_params, sound_key, sound_count, sound, own_levels, Long}
use Rattle.calls.specs.Calls.{Made, feed_bits, fed_bits, feed_number, fed_area, feed_of, last_nodes_of, end_number, ended_area, end_of}
use Rattle.calls.proofs.Counts
use Rattle.calls.proofs.AreaLaws.{length-levels_of, Changed}
use Rattle.calls.proofs.Sound.{clean-empty}
use Rattle.calls.proofs.CallLaws.{OpenArea, FeedPassed, feed-passed, feed-number, feed-accepted, EndPassed, end-passed, end-number, end-accepted}
use Rattle.calls.proofs.Accepts.{last-count}
use Rattle.calls.proofs.WriteLaws.{levels_of-widths}
use Rattle.calls.proofs.Moved.{Tests, sound-tests, tests-sound, Words, nil, cons}
use Rattle.calls.proofs.Tails.{feed-changed, end-changed}
use Rattle.calls.proofs.SoundLevels.{HeldOpen, open_held, open_clean, held-feed_bits}

levels-words : (area : List ℕ) (n k : ℕ) → Below (2 ^ 64) area → Words (levels_from area n k)
levels-words area zero k b = nil
levels-words area (suc n) k b = cons (below-take 64 (below-drop (16 + 64 * (k - 1)) b)) (levels-words area n (suc k) b)

pub levels_of-words : (area : List ℕ) → Below (2 ^ 64) area → Words (levels_of area)
unfolding levels_of
levels_of-words area b = levels-words area (own_levels area) 1 b

-- an area that is sound and has not ended is open
open_phase : (area : List ℕ) → sound area ≡ true → (phase_of area ≡ 2 → ⊥) → phase_of area ≡ 1
open_phase area s n = eqb-true (phase_of area) 1 (go (eqb (phase_of area) 1) (eqb (phase_of area) 2) (sound-tests area s).phase (ne_eqb (phase_of area) 2 n))
  where
    go : (a b : Bool) → a || b ≡ true → b ≡ false → a ≡ true
    go true b e f = refl
    go false b e f = sym f ∙ e

-- what the levels of a sound open area hold
sound-held : (area : List ℕ) → Long area → Below (2 ^ 64) area → sound area ≡ true → phase_of area ≡ 1 →
    HeldOpen (params_of area).limit (total_of area) (levels_of area)
sound-held area long b s p =
    open_held (params_of area).limit (total_of area) (levels_of area) (levels_of-words area b) (levels_of-widths area long)
    (rw (length-levels_of area) (subst (λ (k : ℕ). clean_all (holds_for (own_levels area) k (params_of area).limit (total_of area)) (levels_of area) ≡ true) p (sound-tests area s).levels))

-- tests that look at what neither a feed nor an end changes
same-params_test : (x y : List ℕ) → params_of y ≡ params_of x → sound_params x ≡ true → sound_params y ≡ true
same-params_test x y e t = rw e t

same-key_test : (x y : List ℕ) → k_of y ≡ k_of x → key_bytes_of y ≡ key_bytes_of x → sound_key x ≡ true → sound_key y ≡ true
same-key_test x y e f t = rw (e, f) t

-- what a feed and an end know of the area that they are given, which is sound and open
module _ (area : List ℕ) (o : OpenArea area) where
  tests : Tests area
  tests = sound-tests area o.sound

  phase : phase_of area ≡ 1
  phase = open_phase area o.sound o.phase

  counted_so_far : compressions_of area ≡ open_count (params_of area).limit (total_of area)
  counted_so_far = eqb-true (compressions_of area) (open_count (params_of area).limit (total_of area))
      (subst (λ (k : ℕ). eqb (compressions_of area) (count_for k (params_of area).limit (total_of area)) ≡ true) phase tests.count)

pub feed_keeps : (area : List ℕ) (piece : Piece) (log : List ℕ) → Below (2 ^ 64) area → (feed_of area piece log).number ≡ 0 →
    sound (feed_of area piece log).area ≡ true
unfolding fed_area fed_bits
feed_keeps area piece log b e = rw (feed-accepted area piece log z) (tests-sound to record {
  phase = rw (c.same 0 (omega arith) (omega arith) (omega arith), p) refl;
  params = same-params_test area to c.params t.params;
  key = same-key_test area to c.key (c.same 2 (omega arith) (omega arith) (omega arith)) t.key;
  count = count;
  last = rw (c.same 15 (omega arith) (omega arith) (omega arith)) t.last;
  levels = rw (c.same 0 (omega arith) (omega arith) (omega arith), p, c.params, c.set, c.levels) (rw size at (open_clean (params_of area).limit (total_of area + piece.count) made.levels held));
})
  where
    z : feed_number area piece log ≡ 0
    z = sym (feed-number area piece log) ∙ e

    q : FeedPassed area piece log
    q = feed-passed area piece log z

    t : Tests area
    t = tests area q.opened

    p : phase_of area ≡ 1
    p = phase area q.opened

    Y : List Bool
    Y = piece_bits piece

    len : length Y ≡ piece.count
    len = length-piece_bits piece q.bits

    made : Made
    made = feed_bits (params_of area) (total_of area) Y (levels_of area)

    held : HeldOpen (params_of area).limit (total_of area + piece.count) made.levels
    held = rw len at (held-feed_bits (params_of area) (total_of area) Y (levels_of area) (rw (length-levels_of area) (omega arith)) (sound-held area q.opened.long b q.opened.sound p))

    size : length made.levels ≡ own_levels area
    size = Counts.feed_bits-size (params_of area) (total_of area) Y (levels_of area) (rw (length-levels_of area) (omega arith)) ∙ length-levels_of area

    to : List ℕ
    to = with_levels (set (set area 1 (total_of area + piece.count)) 14 (compressions_of area + length made.nodes)) made.levels

    c : Changed area 1 (total_of area + piece.count) (compressions_of area + length made.nodes) made.levels to
    c = feed-changed area piece log z

    counted : compressions_of area + length made.nodes ≡ open_count (params_of area).limit (total_of area + piece.count)
    counted = omega (arith, counted_so_far area q.opened, rw len at (Counts.feed_bits-count (params_of area) (total_of area) Y (levels_of area) (length-levels_of area) (rw len q.total)))

    count : sound_count to ≡ true
    count = rw (c.same 0 (omega arith) (omega arith) (omega arith), p, c.params, c.set, c.count) (eq-eqb (compressions_of area + length made.nodes) (open_count (params_of area).limit (total_of area + piece.count)) counted)

pub end_keeps : (area out log : List ℕ) → Below (2 ^ 64) area → (end_of area out log).number ≡ 0 → sound (end_of area out log).area ≡ true
unfolding ended_area empty_levels
end_keeps area out log b e = rw (end-accepted area out log z) (tests-sound to record {
  phase = rw c.set refl;
  params = same-params_test area to c.params t.params;
  key = same-key_test area to c.key (c.same 2 (omega arith) (omega arith) (omega arith)) t.key;
  count = rw (c.set, c.params, c.same 1 (omega arith) (omega arith) (omega arith), c.count) (eq-eqb (compressions_of area + length (last_nodes_of area)) (tree_nodes (params_of area).limit (total_of area)) counted);
  last = rw (c.same 15 (omega arith) (omega arith) (omega arith)) t.last;
  levels = rw (c.set, c.params, c.levels) (clean-empty (own_levels area));
})
  where
    z : end_number area out log ≡ 0
    z = sym (end-number area out log) ∙ e

    q : EndPassed area out log
    q = end-passed area out log z

    t : Tests area
    t = tests area q.opened

    to : List ℕ
    to = with_levels (set (set area 0 2) 14 (compressions_of area + length (last_nodes_of area))) (replicate (own_levels area) empty_level)

    c : Changed area 0 2 (compressions_of area + length (last_nodes_of area)) (replicate (own_levels area) empty_level) to
    c = end-changed area out log z

    counted : compressions_of area + length (last_nodes_of area) ≡ tree_nodes (params_of area).limit (total_of area)
    counted = omega (arith, counted_so_far area q.opened, last-count area (below_at b 1 (omega (arith, q.opened.long))))
