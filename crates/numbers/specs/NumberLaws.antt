-- Laws: the nodes that the calls on an area make, which the code counts by the totals: word 14 tells how many were made already.
use Rattle.std.specs.Prelude.{◌≡◌, false, List, ℕ, ◌+◌, ◌*◌, ◌^◌, ◌≤◌, ◌<◌, length, get_or, replicate}
use Rattle.std.proofs.Common.{ap, ◌∙◌, refl, arith}
use Rattle.std.proofs.lemmas.List.{length-replicate}
use Rattle.tree.specs.Tree.{digest_bytes}
use Rattle.tree.specs.Sizes.{tree_nodes}
use Rattle.refusals.specs.declared.Refusal.{Refusal}
use Rattle.refusals.specs.declared.Refusal.TheVariants as refusal
use Rattle.refusals.specs.Refusals.{answer_of, refusal_number}
use Rattle.calls.specs.Area.{total_of, compressions_of, open_count, params_of}
use Rattle.calls.specs.Calls.{fed_bits, last_nodes_of}
use Rattle.calls.proofs.CallLaws.{OpenArea, LogWordsPassed}
use Rattle.calls.proofs.Accepts.{last-count}
use Rattle.calls.proofs.AreaLaws.{limit-word}
use Rattle.climb.specs.OpenArea.{open_done, open_range, size-read}
use Rattle.piece.specs.PieceLaws.{made-count, open_count_le}

-- ---- what a call answers that is refused

pub answer_of_refusal : {A : Type 0} (why : Refusal) (accepted : A) (refused : ℕ → A) → answer_of (refusal_number why) accepted refused ≡ refused (refusal_number why)
answer_of_refusal refusal.DigestSize accepted refused = refl
answer_of_refusal refusal.KeyLength accepted refused = refl
answer_of_refusal refusal.Limit accepted refused = refl
answer_of_refusal refusal.Rounds accepted refused = refl
answer_of_refusal refusal.Bits accepted refused = refl
answer_of_refusal refusal.Total accepted refused = refl
answer_of_refusal refusal.Area accepted refused = refl
answer_of_refusal refusal.Log accepted refused = refl
answer_of_refusal refusal.Output accepted refused = refl
answer_of_refusal refusal.Ended accepted refused = refl
answer_of_refusal refusal.Text accepted refused = refl
answer_of_refusal refusal.Figure accepted refused = refl

-- ---- a feed

module _ {area : List ℕ} {bits : ℕ} (p : LogWordsPassed area bits) where
  -- the nodes that a feed would make, and those that were made
  pub count-made : length (fed_bits area (replicate bits false)).nodes + compressions_of area ≡ open_count (get_or area 4 0) (total_of area + bits)
  count-made = made-count p.opened bits (replicate bits false) (length-replicate bits false) p.total

  -- two words for each of them can be counted
  pub words-fit : 2 * length (fed_bits area (replicate bits false)).nodes < 2 ^ 64
  words-fit = omega (arith, count-made, open_count_le (get_or area 4 0) (total_of area + bits), p.total)

-- ---- an end

-- the nodes that an end would make: those of the whole tree, without those that were made
pub count_left : {area : List ℕ} → OpenArea area → total_of area < 2 ^ 64 → length (last_nodes_of area) + compressions_of area ≡ tree_nodes (get_or area 4 0) (total_of area)
count_left {area} o h = ap (λ (x : ℕ). length (last_nodes_of area) + x) (open_done o) ∙ rw (limit-word area) at (last-count area h)

-- a digest has 64 bytes at most
pub digest-small : {area : List ℕ} → OpenArea area → digest_bytes (params_of area).d ≤ 64
digest-small {area} o = rw (size-read area) (omega (arith, (open_range o).d_high))
