-- Laws: what an area stands for goes by the words that its L gives, which are words of 64 bits.
use Rattle.std.specs.Prelude.{◌≡◌, refl, Bool, true, false, ◌||◌, ℕ, zero, suc, ◌+◌, ◌-◌, ◌*◌, ◌/◌, ◌^◌, ◌≤◌, ◌<◌, eqb, ltb, length, take, drop, replicate}
use Rattle.std.proofs.Common.{sym, ◌∙◌, arith, ltb-true, ltb-false, eqb-true, length-take, length-drop, take-take, get_or-take, get_or-drop, length-take-le, take-add}
use Rattle.std.proofs.Math.Path.{ap}
use mathlib.Core.List.{List, [], ◌∷◌, ◌++◌, flatten}
use Rattle.std.proofs.Math.ListN.{get_or}
use Rattle.lists.specs.Append.{cons_eq}
use Rattle.lists.specs.Below.{Below, none}
use Rattle.lists.specs.BelowLaws.{below-append, below_all, below_at, below-take, below-drop, below-zeros}
use Rattle.lists.specs.And.{and_intro, and_parts}
use Rattle.lists.specs.Take.{take-drop-take}
use Rattle.bits.specs.Bits.{bits_of}
use Rattle.bits.specs.BitsLaws.{length-numbers, numbers-below}
use Rattle.tree.specs.Tree.{most_levels, Params, Valid, Node, Mark, Subtree, key_words, order, block_bits}
use Rattle.tree.proofs.TreeLaws.{key_words-below, length-key_words}
use Rattle.refusals.specs.Refusals.{first_refusal, param_tests}
use Rattle.tree.proofs.Count.{tree_nodes_bound}
use Rattle.calls.specs.Area.{head_words, phase_of, total_of, key_bytes_of, k_of, compressions_of, params_of, levels_from, levels_of, empty_level, empty_levels, open_above, open_count, count_for, sound_phase, sound_params, sound_key, sound_count, sound_last, sound_levels, holds_for, clean_all, sound, area_levels, own_levels, own_words, level_start, block_words, Long}
use Rattle.calls.specs.Marks.{settled}
use Rattle.calls.proofs.Block.{block_of-below}
use Rattle.calls.proofs.Rows.{over}
use Rattle.calls.proofs.Receive
use Rattle.calls.proofs.Machine
use Rattle.calls.proofs.AreaLaws.{same_word, same_key, same_head, key-words}
use Rattle.refusals.specs.RefusalLaws.{params-valid}
use Rattle.calls.proofs.FeedLaws.{flatten-from}
use Rattle.calls.proofs.Stands.{Head, Stands, HasEnded}
use Rattle.calls.specs.Vocabulary.{SameFront}

-- ---- the tests of soundness

pub record Tests (area : List ℕ) : Type 0 where
  pub phase : sound_phase area ≡ true
  pub params : sound_params area ≡ true
  pub key : sound_key area ≡ true
  pub count : sound_count area ≡ true
  pub last : sound_last area ≡ true
  pub levels : sound_levels area ≡ true

pub sound-tests : (area : List ℕ) → sound area ≡ true → Tests area
unfolding sound
sound-tests area e =
    let a = and_parts (sound_phase area) _ e in
    let b = and_parts (sound_params area) _ a.1 in
    let c = and_parts (sound_key area) _ b.1 in
    let d = and_parts (sound_count area) _ c.1 in
    let f = and_parts (sound_last area) _ d.1 in
    record { phase = a.0; params = b.0; key = c.0; count = d.0; last = f.0; levels = f.1 }

pub tests-sound : (area : List ℕ) → Tests area → sound area ≡ true
unfolding sound
tests-sound area t =
    and_intro t.phase (and_intro t.params (and_intro t.key (and_intro t.count (and_intro t.last t.levels))))

pub length-key : (area : List ℕ) → length (params_of area).key ≡ key_bytes_of area
unfolding params_of
length-key area = length-numbers 8 (key_bytes_of area) (bits_of 64 (k_of area))

-- the parameters of a sound area are in range
pub sound-valid : (area : List ℕ) → sound area ≡ true → Valid (params_of area)
unfolding params_of
sound-valid area e =
    params-valid (params_of area) (numbers-below 8 (key_bytes_of area) (bits_of 64 (k_of area))) (eqb-true (first_refusal (param_tests (params_of area))) 0 (sound-tests area e).params)

-- K of a sound area is K of the key that it stands for
pub sound-key : (area : List ℕ) → Long area → Below (2 ^ 64) area → sound area ≡ true → key_words (params_of area).key ≡ k_of area
unfolding params_of
sound-key area h b e =
    let v = sound-valid area e in
    key-words (k_of area) (key_bytes_of area) (below-take 8 (below-drop 6 b)) (length-take-le 8 (drop 6 area) (rw (length-drop 6 area) (omega arith)))
    (omega (arith, v.key_bytes, length-key area)) (sound-tests area e).key

-- ---- the words that L gives

levels-front : (area : List ℕ) (m n k : ℕ) → 0 < k → n + k ≤ m + 1 → levels_from (take (head_words + block_words * m) area) n k ≡ levels_from area n k
levels-front area m zero k p h = refl
levels-front area m (suc n) k p h =
    cons_eq (take-drop-take (head_words + block_words * m) (level_start k) block_words area (omega arith)) (levels-front area m n (suc k) (omega arith) (omega arith))

-- two areas that are alike in those of the first, of which the first has all
pub front_long : (x y : List ℕ) → Long x → SameFront (params_of x).limit x y → own_words x ≤ length y
front_long x y h e = omega (arith, sym (length-take-le (own_words x) x h) ∙ ap length e ∙ length-take (own_words x) y)

pub front-params : (x y : List ℕ) → Long x → SameFront (params_of x).limit x y → params_of x ≡ params_of y
front-params x y h e =
    same_head x y (omega (arith, h)) (omega (arith, front_long x y h e))
    (sym (take-take head_words (own_words x) x (omega arith)) ∙ ap (take head_words) e ∙ take-take head_words (own_words x) y (omega arith))

-- then the second has them too, and there are no more
pub alike-long : (x y : List ℕ) → Long x → SameFront (params_of x).limit x y → Long y
alike-long x y h e = rw (← front-params x y h e) (front_long x y h e)

pub record SameParts (x y : List ℕ) : Type 0 where
  pub word : (i : ℕ) → i < head_words → get_or x i 0 ≡ get_or y i 0
  pub key : k_of x ≡ k_of y
  pub params : params_of x ≡ params_of y
  pub levels : levels_of x ≡ levels_of y

pub same-front : (x y : List ℕ) → Long x → SameFront (params_of x).limit x y → SameParts x y
unfolding levels_of
same-front x y h e =
    let t : take head_words x ≡ take head_words y =
    sym (take-take head_words (own_words x) x (omega arith)) ∙ ap (take head_words) e ∙ take-take head_words (own_words x) y (omega arith) in
    let p = front-params x y h e in
    let f : (z : List ℕ) → levels_from (take (own_words x) z) (own_levels x) 1 ≡ levels_from z (own_levels x) 1 =
    λ z. levels-front z (own_levels x) (own_levels x) 1 (omega arith) (omega arith) in
    record {
      word = same_word x y t;
      key = same_key x y (omega (arith, h)) (omega (arith, front_long x y h e)) t;
      params = p;
      levels = sym (f x) ∙ ap (λ (z : List ℕ). levels_from z (own_levels x) 1) e ∙ f y ∙ rw p;
    }

pub same-sound : (x y : List ℕ) → SameParts x y → sound x ≡ sound y
unfolding sound
same-sound x y s =
    let w0 = s.word 0 (omega arith) in
    let w1 = s.word 1 (omega arith) in
    let w2 = s.word 2 (omega arith) in
    let w14 = s.word 14 (omega arith) in
    let phase : sound_phase x ≡ sound_phase y = ap (λ (p : ℕ). eqb p 1 || eqb p 2) w0 in
    let params : sound_params x ≡ sound_params y = ap (λ (P : Params). eqb (first_refusal (param_tests P)) 0) s.params in
    let key : sound_key x ≡ sound_key y = rw (s.key, w2) refl in
    let count : sound_count x ≡ sound_count y =
    ap (λ (c : ℕ). eqb c (count_for (phase_of x) (params_of x).limit (total_of x))) w14
    ∙ ap (λ (p : ℕ). eqb (compressions_of y) (count_for p (params_of x).limit (total_of x))) w0
    ∙ ap (λ (P : Params). eqb (compressions_of y) (count_for (phase_of y) P.limit (total_of x))) s.params
    ∙ ap (λ (T : ℕ). eqb (compressions_of y) (count_for (phase_of y) (params_of y).limit T)) w1 in
    let last : sound_last x ≡ sound_last y = ap (λ (w : ℕ). eqb w 0) (s.word 15 (omega arith)) in
    let levels : sound_levels x ≡ sound_levels y =
    ap (λ (p : ℕ). clean_all (holds_for (own_levels x) p (params_of x).limit (total_of x)) (levels_of x)) w0
    ∙ ap (λ (P : Params). clean_all (holds_for (area_levels P.limit) (phase_of y) P.limit (total_of x)) (levels_of x)) s.params
    ∙ ap (λ (T : ℕ). clean_all (holds_for (own_levels y) (phase_of y) (params_of y).limit T) (levels_of x)) w1
    ∙ ap (clean_all (holds_for (own_levels y) (phase_of y) (params_of y).limit (total_of y))) s.levels in
    rw (phase, params, key, count, last, levels) refl

-- ---- an area moved to another place

head-moved : (P : Params) (M : List Bool) (x y : List ℕ) → Long y → SameParts x y → Head P M x → Head P M y
head-moved P M x y hy s h = record {
  valid = h.valid;
  short = h.short;
  long = hy;
  total = sym (s.word 1 (omega arith)) ∙ h.total;
  params = sym s.params ∙ h.params;
  key_bytes = sym (s.word 2 (omega arith)) ∙ h.key_bytes;
  key = sym s.key ∙ h.key;
  last = sym (s.word 15 (omega arith)) ∙ h.last;
}

pub stands-moved : (P : Params) (M : List Bool) (x y : List ℕ) → SameFront (params_of x).limit x y → Stands P M x → Stands P M y
stands-moved P M x y e t =
    let s = same-front x y t.head.long e in
    record {
      head = head-moved P M x y (alike-long x y t.head.long e) s t.head;
      phase = sym (s.word 0 (omega arith)) ∙ t.phase;
      count = sym (s.word 14 (omega arith)) ∙ t.count;
      state = rw s.levels at t.state;
    }

pub ended-moved : (P : Params) (M : List Bool) (x y : List ℕ) → SameFront (params_of x).limit x y → HasEnded P M x → HasEnded P M y
ended-moved P M x y e t =
    let s = same-front x y t.head.long e in
    record {
      head = head-moved P M x y (alike-long x y t.head.long e) s t.head;
      phase = sym (s.word 0 (omega arith)) ∙ t.phase;
      count = sym (s.word 14 (omega arith)) ∙ t.count;
      levels = sym s.levels ∙ t.levels;
    }

-- ---- words of 64 bits

pub data Words : List (List ℕ) → Type 0 where
  nil : Words []
  cons : {ws : List ℕ} {st : List (List ℕ)} → Below (2 ^ 64) ws → Words st → Words (ws ∷ st)

flatten-below : {st : List (List ℕ)} → Words st → Below (2 ^ 64) (flatten st)
unfolding flatten
flatten-below nil = none
flatten-below (cons b w) = below-append b (flatten-below w)

empty-words : (n : ℕ) → Words (replicate n empty_level)
unfolding empty_level
empty-words zero = nil
empty-words (suc n) = cons (below-zeros (2 ^ 64) 64 (omega arith)) (empty-words n)

module _ (P : Params) where
  inv-words : (n level : ℕ) (X : List Subtree) (st : List (List ℕ)) (lg : List Mark) → Receive.Inv P n level X st lg → Words st
  inv-words n level X [] lg v = nil
  inv-words zero level X (ws ∷ up) lg v = cons {ws = ws} {st = up} (rw v.is (block_of-below (Receive.chain_over P level v.G ++ Receive.outs P v.r))) (rw v.empty (empty-words (length up)))
  inv-words (suc n) level X (ws ∷ up) lg v = cons {ws = ws} {st = up} (rw v.is (block_of-below (Receive.outs P v.r))) (inv-words n (suc level) (over v.G (Receive.par_row P level v.G)) up v.lg' v.up)

  state-words : (limit : ℕ) (M : List Bool) (st : List (List ℕ)) (log : List Node) → Machine.State P limit M st log → Words st
  state-words zero M st log v = rw v.is (cons {st = v.up} (block_of-below (Rattle.calls.proofs.Rows.chain P 1 v.B ++ v.l)) (rw v.empty (empty-words (length v.up))))
  state-words (suc n) M st log v = rw v.is (cons (block_of-below v.l) (inv-words n 2 _ v.up _ v.inv))

open_above-most : (n i : ℕ) → open_above n i ≤ i
open_above-most zero i = omega arith
open_above-most (suc n) i = omega (arith, open_above-most n (i / 4))

open_count-small : (limit T : ℕ) → T < 2 ^ 64 → open_count limit T + most_levels < 2 ^ 64
open_count-small zero T h = omega arith
open_count-small (suc n) T h = omega (arith, open_above-most n ((T - 1) / block_bits))

-- the first 16 words
module _ (P : Params) (M : List Bool) (area : List ℕ) (h : Head P M area) where
  k-words : (j : ℕ) → j < 8 → get_or area (6 + j) 0 < 2 ^ 64
  k-words j l =
      let b : get_or (k_of area) j 0 < 2 ^ 64 = below_at {ws = k_of area} (rw h.key (key_words-below P.key)) j (rw (h.key, length-key_words P.key) l) in
      rw (get_or-take 8 (drop 6 area) j 0 l, get_or-drop 6 area j 0) at b

  numbers-small : (get_or area 3 0 < 2 ^ 64) × (get_or area 4 0 < 2 ^ 64) × (get_or area 5 0 < 2 ^ 64)
  unfolding params_of
  numbers-small =
      let d : get_or area 3 0 ≡ P.d = ap (λ (Q : Params). Q.d) h.params in
      let m : get_or area 4 0 ≡ P.limit = ap (λ (Q : Params). Q.limit) h.params in
      let r : get_or area 5 0 ≡ P.rounds = ap (λ (Q : Params). Q.rounds) h.params in
      (omega (arith, h.valid.d_high), omega (arith, h.valid.limit_high), omega (arith, h.valid.rounds_high))

  head-word : phase_of area < 2 ^ 64 → compressions_of area < 2 ^ 64 → (i : ℕ) → i < 16 → get_or area i 0 < 2 ^ 64
  head-word p c zero l = p
  head-word p c (suc zero) l = omega (arith, h.total, h.short)
  head-word p c (suc (suc zero)) l = omega (arith, h.key_bytes, h.valid.key_bytes)
  head-word p c (suc (suc (suc zero))) l = numbers-small.0
  head-word p c (suc (suc (suc (suc zero)))) l = numbers-small.1
  head-word p c (suc (suc (suc (suc (suc zero))))) l = numbers-small.2
  head-word p c (suc (suc (suc (suc (suc (suc j)))))) l = go (ltb j 8) refl
    where
      go : (t : Bool) → ltb j 8 ≡ t → get_or area (suc (suc (suc (suc (suc (suc j)))))) 0 < 2 ^ 64
      go true e =
          let z : 6 + j ≡ suc (suc (suc (suc (suc (suc j))))) = omega arith in
          rw z at (k-words j (ltb-true j 8 e))
      go false e = high (ltb (suc j) 10) refl
        where
          high : (t : Bool) → ltb (suc j) 10 ≡ t → get_or area (suc (suc (suc (suc (suc (suc j)))))) 0 < 2 ^ 64
          high true f = let z : suc (suc (suc (suc (suc (suc j))))) ≡ 14 = omega (arith, ltb-false j 8 e, ltb-true (suc j) 10 f) in rw z c
          high false f =
              let z : suc (suc (suc (suc (suc (suc j))))) ≡ 15 = omega (arith, ltb-false (suc j) 10 f) in
              rw (z, h.last) (omega arith)

  head-below : phase_of area < 2 ^ 64 → compressions_of area < 2 ^ 64 → Below (2 ^ 64) (take head_words area)
  head-below p c =
      let e : length (take head_words area) ≡ 16 = length-take-le 16 area (omega (arith, h.long)) in
      below_all (take head_words area) (λ i l. rw (get_or-take 16 area i 0 (omega arith)) (head-word p c i (omega arith)))

-- the words that L gives are the head and the levels
pub area-front : (area : List ℕ) → take (own_words area) area ≡ take head_words area ++ flatten (levels_of area)
unfolding levels_of
area-front area = take-add head_words (block_words * own_levels area) area ∙ rw (flatten-from area (own_levels area) 1 (omega arith)) refl

pub stands-below : {P : Params} {M : List Bool} {area : List ℕ} → Stands P M area → Below (2 ^ 64) (take (own_words area) area)
stands-below {P} {M} {area} s =
    rw (area-front area)
    (below-append
    (head-below P M area s.head (omega (arith, s.phase)) (omega (arith, s.count, open_count-small P.limit (length M) s.head.short)))
    (flatten-below (state-words P P.limit M (levels_of area) (settled (order P M)) s.state)))

pub ended-below : {P : Params} {M : List Bool} {area : List ℕ} → HasEnded P M area → Below (2 ^ 64) (take (own_words area) area)
unfolding empty_levels
ended-below {P} {M} {area} s =
    rw (area-front area)
    (below-append
    (head-below P M area s.head (omega (arith, s.phase)) (omega (arith, s.count, tree_nodes_bound P.limit (length M) s.head.short)))
    (rw s.levels (flatten-below (empty-words (area_levels P.limit)))))
