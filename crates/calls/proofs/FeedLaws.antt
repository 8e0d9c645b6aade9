-- Laws: many bits at once: bits that fit into level 1 fill it and make no node; bits fed in two parts; no bits change nothing.
use Rattle.std.specs.Prelude.{◌≡◌, refl, Bool, ℕ, zero, suc, ◌+◌, ◌*◌, ◌^◌, ◌≤◌, ◌<◌, length, take, drop, set}
use Rattle.std.proofs.Common.{sym, ap, ◌∙◌, arith, ne_eqb, length-drop, take-append-drop, length-take-le, take-take, take-add, take-suc-set, drop-set-lt, drop-drop}
use mathlib.Core.List.{List, [], ◌∷◌, ◌++◌, append_assoc, flatten}
use Rattle.std.proofs.Math.Seq.{paste, paste-zero}
use Rattle.std.proofs.lemmas.List.{set-get_or}
use Rattle.lists.specs.Below.{Below}
use Rattle.bits.specs.Bits.{bits_of, filled}
use Rattle.bits.specs.BitsLaws.{length-bits_of, bits_of_inj}
use Rattle.bits.specs.FilledLaws.{length-filled, filled-below, bits_of-filled}
use Rattle.tree.specs.Tree.{Params, output_bits, sequential_bits, block_bits}
use Rattle.calls.specs.Area.{head_words, total_of, compressions_of, params_of, levels_from, levels_of, with_levels, held_bits, block_words, level_start, own_levels}
use Rattle.calls.specs.Calls.{Made, with_bit, feed_bit, feed_bits, fed_bits, fed_area}
use Rattle.calls.proofs.Block.{length-with_bit, bits_of-with_bit, with_bit-below}
use Rattle.calls.proofs.Machine
use Rattle.calls.proofs.Blocks.{held_next}

-- ---- two parts

module _ (P : Params) where
  pub feed_bits-append : (T : ℕ) (xs ys : List Bool) (st : List (List ℕ)) → feed_bits P T (xs ++ ys) st ≡
      (let one : Made = feed_bits P T xs st in
      let two : Made = feed_bits P (T + length xs) ys one.levels in record { levels = two.levels; nodes = one.nodes ++ two.nodes })
  feed_bits-append T [] ys st = let e : T + 0 ≡ T = omega arith in rw (Machine.feed_bits_none P T st, e) refl
  feed_bits-append T (x ∷ xs) ys st =
      let s : List (List ℕ) = (feed_bit P P.limit T x st).levels in
      let e : T + suc (length xs) ≡ suc T + length xs = omega arith in
      rw (Machine.feed_bits-more P T x (xs ++ ys) st, Machine.feed_bits-more P T x xs st, feed_bits-append (suc T) xs ys s, e) (simp append_assoc)

-- ---- bits that fit

-- the words after bits, one after the other, from bit h on
abbrev pub with_bits : ℕ → List Bool → List ℕ → List ℕ
with_bits h [] ws = ws
with_bits h (b ∷ bs) ws = with_bits (suc h) bs (with_bit h b ws)

length-with_bits : (h : ℕ) (bs : List Bool) (ws : List ℕ) → length (with_bits h bs ws) ≡ length ws
length-with_bits h [] ws = refl
length-with_bits h (b ∷ bs) ws = length-with_bits (suc h) bs (with_bit h b ws) ∙ length-with_bit h b ws

with_bits-below : (h : ℕ) (bs : List Bool) (ws : List ℕ) → Below (2 ^ 64) ws → Below (2 ^ 64) (with_bits h bs ws)
with_bits-below h [] ws b = b
with_bits-below h (x ∷ bs) ws b = with_bits-below (suc h) bs (with_bit h x ws) (with_bit-below h x ws b)

paste-set : (d : List Bool) (h : ℕ) (b : Bool) (Y : List Bool) (n : ℕ) → h < length d → paste (set d h b) (suc h) Y n ≡ paste d h (b ∷ Y) (suc n)
paste-set d h b Y n l =
    let e : h + suc n ≡ suc h + n = omega arith in
    rw (take-suc-set d h b l, drop-set-lt (suc h + n) d h b (omega arith), e) (simp append_assoc)

bits_of-with_bits : (h : ℕ) (bs : List Bool) (ws : List ℕ) → h + length bs ≤ length ws * 64 →
    bits_of 64 (with_bits h bs ws) ≡ paste (bits_of 64 ws) h bs (length bs)
bits_of-with_bits h [] ws l = paste-zero (bits_of 64 ws) h []
bits_of-with_bits h (b ∷ bs) ws l =
    bits_of-with_bits (suc h) bs (with_bit h b ws) (rw (length-with_bit h b ws) (omega arith))
    ∙ rw (bits_of-with_bit h b ws (omega arith)) (paste-set (bits_of 64 ws) h b bs (length bs) (rw (length-bits_of 64 ws) (omega arith)))

-- the filler of `bits` does the same with bits of bytes
pub with_bits-filled : (ws : List ℕ) (at : ℕ) (bytes : List ℕ) (start count : ℕ) → Below (2 ^ 64) ws → at + count ≤ 64 * length ws →
    start + count ≤ 8 * length bytes →
    with_bits at (take count (drop start (bits_of 8 bytes))) ws ≡ filled ws at bytes start count
with_bits-filled ws at bytes start count b h g =
    let s : List Bool = drop start (bits_of 8 bytes) in
    let Y : List Bool = take count s in
    let l : length Y ≡ count = length-take-le count s (rw (length-drop start (bits_of 8 bytes), length-bits_of 8 bytes) (omega arith)) in
    bits_of_inj 64 (with_bits-below at Y ws b) (filled-below ws at bytes start count) (length-with_bits at Y ws ∙ sym (length-filled ws at bytes start count))
    (bits_of-with_bits at Y ws (rw l (omega arith)) ∙ rw (l, take-take count count s (omega arith)) (sym (bits_of-filled ws at bytes start count h g)))

module _ (P : Params) where
  fits-parallel : (n T : ℕ) (bs : List Bool) (ws : List ℕ) (up : List (List ℕ)) → P.limit ≡ suc n → held_bits block_bits T + length bs ≤ block_bits →
      feed_bits P T bs (ws ∷ up) ≡ record { levels = with_bits (held_bits block_bits T) bs ws ∷ up; nodes = [] }
  fits-parallel n T [] ws up e h = Machine.feed_bits_none P T (ws ∷ up)
  fits-parallel n T (b ∷ bs) ws up e h =
      let i = held_next block_bits (omega arith) T (omega arith) in
      let f : feed_bit P P.limit T b (ws ∷ up) ≡ record { levels = with_bit (held_bits block_bits T) b ws ∷ up; nodes = [] } =
      ap (λ (k : ℕ). feed_bit P k T b (ws ∷ up)) e ∙ Machine.feed-par-no P n T b ws up (ne_eqb (held_bits block_bits T) block_bits (λ z. omega arith)) in
      let r = fits-parallel n (suc T) bs (with_bit (held_bits block_bits T) b ws) up e (omega arith) in
      rw (Machine.feed_bits-more P T b bs (ws ∷ up), f, r) (ap (λ (k : ℕ). record { levels = with_bits k bs (with_bit (held_bits block_bits T) b ws) ∷ up; nodes = [] }) i)

  fits-sequential : (T : ℕ) (bs : List Bool) (ws : List ℕ) (up : List (List ℕ)) → P.limit ≡ 0 → held_bits sequential_bits T + length bs ≤ sequential_bits →
      feed_bits P T bs (ws ∷ up) ≡ record { levels = with_bits (output_bits + held_bits sequential_bits T) bs ws ∷ up; nodes = [] }
  fits-sequential T [] ws up e h = Machine.feed_bits_none P T (ws ∷ up)
  fits-sequential T (b ∷ bs) ws up e h =
      let i : output_bits + held_bits sequential_bits (suc T) ≡ suc (output_bits + held_bits sequential_bits T) = rw (held_next sequential_bits (omega arith) T (omega arith)) (omega arith) in
      let f : feed_bit P P.limit T b (ws ∷ up) ≡ record { levels = with_bit (output_bits + held_bits sequential_bits T) b ws ∷ up; nodes = [] } =
      ap (λ (k : ℕ). feed_bit P k T b (ws ∷ up)) e ∙ Machine.feed-seq-no P T b ws up (ne_eqb (held_bits sequential_bits T) sequential_bits (λ z. omega arith)) in
      let r = fits-sequential (suc T) bs (with_bit (output_bits + held_bits sequential_bits T) b ws) up e (rw (held_next sequential_bits (omega arith) T (omega arith)) (omega arith)) in
      rw (Machine.feed_bits-more P T b bs (ws ∷ up), f, r)
      (ap (λ (k : ℕ). record { levels = with_bits k bs (with_bit (output_bits + held_bits sequential_bits T) b ws) ∷ up; nodes = [] }) i)

  -- bits of a piece that fit into level 1
  pub fill_parallel : (n T : ℕ) (ws : List ℕ) (up : List (List ℕ)) (bytes : List ℕ) (start count : ℕ) → P.limit ≡ suc n → Below (2 ^ 64) ws →
      length ws ≡ 64 →
      held_bits block_bits T + count ≤ block_bits → start + count ≤ 8 * length bytes →
      feed_bits P T (take count (drop start (bits_of 8 bytes))) (ws ∷ up) ≡ record { levels = filled ws (held_bits block_bits T) bytes start count ∷ up; nodes = [] }
  fill_parallel n T ws up bytes start count e b w h g =
      let s : List Bool = drop start (bits_of 8 bytes) in
      let l : length (take count s) ≡ count = length-take-le count s (rw (length-drop start (bits_of 8 bytes), length-bits_of 8 bytes) (omega arith)) in
      fits-parallel n T (take count s) ws up e (rw l h) ∙ rw (with_bits-filled ws (held_bits block_bits T) bytes start count b (rw w h) g) refl

  pub fill_sequential : (T : ℕ) (ws : List ℕ) (up : List (List ℕ)) (bytes : List ℕ) (start count : ℕ) → P.limit ≡ 0 → Below (2 ^ 64) ws →
      length ws ≡ 64 →
      held_bits sequential_bits T + count ≤ sequential_bits → start + count ≤ 8 * length bytes →
      feed_bits P T (take count (drop start (bits_of 8 bytes))) (ws ∷ up) ≡ record { levels = filled ws (output_bits + held_bits sequential_bits T) bytes start count ∷ up; nodes = [] }
  fill_sequential T ws up bytes start count e b w h g =
      let s : List Bool = drop start (bits_of 8 bytes) in
      let l : length (take count s) ≡ count = length-take-le count s (rw (length-drop start (bits_of 8 bytes), length-bits_of 8 bytes) (omega arith)) in
      fits-sequential T (take count s) ws up e (rw l h) ∙ rw (with_bits-filled ws (output_bits + held_bits sequential_bits T) bytes start count b (rw w (omega arith)) g) refl

-- ---- the levels of an area, read and written back

pub flatten-from : (area : List ℕ) (n k : ℕ) → 0 < k → flatten (levels_from area n k) ≡ take (block_words * n) (drop (level_start k) area)
unfolding flatten
flatten-from area zero k h = refl
flatten-from area (suc n) k h =
    let e : block_words * suc n ≡ block_words + block_words * n = omega arith in
    let a : level_start (suc k) ≡ level_start k + block_words = omega arith in
    rw (flatten-from area n (suc k) (omega arith), e, a, take-add block_words (block_words * n) (drop (level_start k) area), drop-drop block_words (level_start k) area) refl

pub with_levels-same : (area : List ℕ) → with_levels area (levels_of area) ≡ area
unfolding with_levels levels_of
with_levels-same area =
    let n : ℕ = block_words * own_levels area in
    rw (flatten-from area (own_levels area) 1 (omega arith))
    (ap (λ (l : List ℕ). take head_words area ++ (take n (drop head_words area) ++ l)) (sym (drop-drop n head_words area))
    ∙ rw (take-append-drop n (drop head_words area)) (take-append-drop head_words area))

-- "Feeding 0 bits changes nothing."
pub feed-nothing : (area : List ℕ) → fed_area area 0 (fed_bits area []) ≡ area
unfolding fed_area fed_bits
feed-nothing area =
    let t : total_of area + 0 ≡ total_of area = omega arith in
    let c : compressions_of area + 0 ≡ compressions_of area = omega arith in
    rw (Machine.feed_bits_none (params_of area) (total_of area) (levels_of area), t, set-get_or area 1 0, c, set-get_or area 14 0) (with_levels-same area)
