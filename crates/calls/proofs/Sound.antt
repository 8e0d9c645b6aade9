-- Laws: the levels that a message leaves are sound: what is not held is zero.
use Rattle.std.specs.Prelude.{◌≡◌, refl, Bool, true, false, ◌||◌, List, [], ◌∷◌, ◌++◌, map, ℕ, zero, suc, ◌+◌, ◌-◌, ◌*◌, ◌/◌, ◌%◌, ◌≤◌, ltb, length, replicate}
use Rattle.std.proofs.Common.{sym, ap, ◌∙◌, append_assoc, arith, ltb-false, length-append, take_at, drop_at}
use Rattle.std.proofs.lemmas.List.{length-replicate}
use Rattle.lists.specs.And.{and_intro}
use Rattle.tree.specs.Tree.{Params, Node, Mark, Subtree, block_bits, sequential_bits, output_bits, no_chain}
use Rattle.calls.specs.Area.{empty_level, done_blocks, held_bits, parallel_hold, sequential_hold, holds_above, open_holds, all_false, clean, clean_all, area_levels}
use Rattle.calls.proofs.Block.{block_of, length-block_of, bits_of-block_of, block_of_none}
use Rattle.calls.proofs.Rows.{AllLen, cut-last, cut-held, length_over, over}
use Rattle.calls.proofs.Rows
use Rattle.calls.proofs.Receive
use Rattle.calls.proofs.Machine
use Rattle.calls.proofs.AreaLaws.{all_false-replicate}

-- a block that holds what its level holds
pub clean-parallel : (n : ℕ) (Y : List Bool) → length Y ≤ block_bits → length Y ≡ n → clean (parallel_hold n) (block_of Y) ≡ true
clean-parallel n Y h e =
    rw (bits_of-block_of Y h, drop_at Y (replicate (block_bits - length Y) false) (0 + n) (omega arith)) (all_false-replicate (block_bits - length Y))

empty-level : clean (parallel_hold 0) empty_level ≡ true
empty-level = rw (← block_of_none) (clean-parallel 0 [] (omega arith) refl)

pub clean-empty : (n : ℕ) → clean_all (replicate n (parallel_hold 0)) (replicate n empty_level) ≡ true
clean-empty zero = refl
clean-empty (suc n) = and_intro empty-level (clean-empty n)

pub empty-widths : (n : ℕ) → AllLen 64 (replicate n empty_level)
unfolding empty_level
empty-widths zero = tt
empty-widths (suc n) = (refl, empty-widths n)

no_chain-empty : all_false no_chain ≡ true
unfolding no_chain
no_chain-empty = all_false-replicate output_bits

pub clean-sequential : (n held : ℕ) (c X : List Bool) → length c ≡ output_bits → length X ≤ sequential_bits → length X ≡ held → (n ≡ 0 → c ≡ no_chain) →
    clean (sequential_hold n held) (block_of (c ++ X)) ≡ true
clean-sequential n held c X hc hX e z =
    rw (bits_of-block_of (c ++ X) fits, drop_at (c ++ X) Z (output_bits + held) (rw (length-append c X) (omega arith)), append_assoc c X Z, take_at c (X ++ Z) output_bits hc)
    (and_intro (go (ltb 0 n) refl) (all_false-replicate (block_bits - length (c ++ X))))
  where
    fits : length (c ++ X) ≤ block_bits
    fits = rw (length-append c X) (omega arith)

    Z : List Bool
    Z = replicate (block_bits - length (c ++ X)) false

    go : (t : Bool) → ltb 0 n ≡ t → t || all_false c ≡ true
    go true q = refl
    go false q = rw (z (omega (arith, ltb-false 0 n q))) no_chain-empty

module _ (P : Params) where
  none_chain : (level : ℕ) (B : List (List Bool)) → length B ≡ 0 → Rows.chain P level B ≡ no_chain
  none_chain level [] e = Rows.chain_none P level
  none_chain level (b ∷ B) e = absurd (omega arith)

  inv-sound : (n level : ℕ) (X : List Subtree) (st : List (List ℕ)) (lg : List Mark) → Receive.Inv P n level X st lg →
      clean_all (holds_above (length st) n (length X)) st ≡ true
  inv-sound n level X [] lg v = refl
  inv-sound zero level X (ws ∷ up) lg v =
      rw (v.is, v.empty, length-replicate (length up) empty_level)
      (and_intro (clean-sequential (length X / 3) (output_bits * (length X % 3)) (Receive.chain_over P level v.G) (Receive.outs P v.r)
      (Rows.length-chain P level (map (Receive.outs P) v.G)) (omega (arith, long, v.sp.few)) (omega (arith, long, Receive.seq-rest P v))
      (λ e. none_chain level (map (Receive.outs P) v.G) (Receive.length-groups P v.G ∙ omega (arith, Receive.seq-at P v))))
      (clean-empty (length up)))
    where
      long : length (Receive.outs P v.r) ≡ length v.r * output_bits
      long = Receive.length-outs P v.r (Receive.split_rest P v.sp)
  inv-sound (suc n) level X (ws ∷ up) lg v =
      rw v.is
      (and_intro (clean-parallel (output_bits * (length X % 4)) (Receive.outs P v.r) (omega (arith, long, v.sp.few)) (omega (arith, long, Receive.par-rest P v)))
      (rw (size, ← Receive.par-at P v) at (inv-sound n (suc level) (over v.G (Receive.par_row P level v.G)) up v.lg' v.up)))
    where
      long : length (Receive.outs P v.r) ≡ length v.r * output_bits
      long = Receive.length-outs P v.r (Receive.split_rest P v.sp)

      size : length (over v.G (Receive.par_row P level v.G)) ≡ length v.G
      size = length_over v.G (Receive.par_row P level v.G) (Receive.length-par_row P level v.G)

  inv-widths : (n level : ℕ) (X : List Subtree) (st : List (List ℕ)) (lg : List Mark) → Receive.Inv P n level X st lg → AllLen 64 st
  inv-widths n level X [] lg v = tt
  inv-widths zero level X (ws ∷ up) lg v = (ap length v.is ∙ length-block_of (Receive.chain_over P level v.G ++ Receive.outs P v.r), rw v.empty (empty-widths (length up)))
  inv-widths (suc n) level X (ws ∷ up) lg v =
      (ap length v.is ∙ length-block_of (Receive.outs P v.r), inv-widths n (suc level) (over v.G (Receive.par_row P level v.G)) up v.lg' v.up)

  pub state-widths : (limit : ℕ) (M : List Bool) (st : List (List ℕ)) (log : List Node) → Machine.State P limit M st log → AllLen 64 st
  state-widths zero M st log v = rw v.is (length-block_of (Rows.chain P 1 v.B ++ v.l), rw v.empty (empty-widths (length v.up)))
  state-widths (suc n) M st log v = rw v.is (length-block_of v.l, inv-widths n 2 _ v.up _ v.inv)

  pub state-size : (limit : ℕ) (M : List Bool) (st : List (List ℕ)) (log : List Node) → Machine.State P limit M st log → length st ≡ area_levels limit
  state-size zero M st log v = rw v.is (ap suc v.size)
  state-size (suc n) M st log v = rw v.is (omega (arith, v.size))

  state-clean : (limit : ℕ) (M : List Bool) (st : List (List ℕ)) (log : List Node) → Machine.State P limit M st log →
      clean_all (open_holds (length st) limit (length M)) st ≡ true
  state-clean zero M st log v =
      rw v.is
      (and_intro (clean-sequential (done_blocks sequential_bits (length M)) (held_bits sequential_bits (length M)) (Rows.chain P 1 v.B) v.l (Rows.length-chain P 1 v.B) v.cut.fits
      (sym (cut-held v.cut)) (λ e. none_chain 1 v.B (sym (cut-last v.cut) ∙ e)))
      (rw (v.empty, length-replicate (length v.up) empty_level) (clean-empty (length v.up))))
  state-clean (suc n) M st log v =
      rw v.is
      (and_intro (clean-parallel (held_bits block_bits (length M)) v.l v.cut.fits (sym (cut-held v.cut)))
      (rw (Machine.length-par_nodes P v.B, ← cut-last v.cut) at (inv-sound n 2 _ v.up _ v.inv)))

  pub state-sound : (limit : ℕ) (M : List Bool) (st : List (List ℕ)) (log : List Node) → Machine.State P limit M st log →
      clean_all (open_holds (area_levels limit) limit (length M)) st ≡ true
  state-sound limit M st log v = rw (state-size limit M st log v) at (state-clean limit M st log v)
