-- Laws: of the counts in Area and of soundness as the code tests it: how they go on, and what the phase and the head decide.
use Rattle.std.specs.Prelude.{◌≡◌, true, false, ◌||◌, ◌&&◌, List, ℕ, zero, suc, ◌+◌, ◌-◌, ◌*◌, ◌≤◌, eqb, get_or}
use Rattle.std.proofs.Common.{ap, ◌∙◌, arith, eq-eqb, ne_eqb}
use Rattle.std.proofs.Math.Nat.{mul-div-le}
use Rattle.lists.specs.And.{and_first, and_second}
use Rattle.tree.specs.Tree.{block_bits}
use Rattle.tree.specs.Sizes.{tree_nodes}
use Rattle.calls.specs.Area.{Hold, clean_all, levels_of, done_blocks, params_of, count_for, open_above, open_count, open_holds, holds_for, sound_phase, sound_params, sound_key, sound_count, sound_last, sound_levels, own_levels}
use Rattle.calls.proofs.SoundParts.{sound_head}
use Rattle.area.specs.LevelTests.{clean_open, sound_open}

-- ---- counts

pub done_le : (size T : ℕ) → size * done_blocks size T ≤ T
done_le size T = omega (arith, mul-div-le (T - 1) size)

pub open_count-more : (limit T : ℕ) → 1 ≤ limit → open_count limit T ≡ done_blocks block_bits T + open_above (limit - 1) (done_blocks block_bits T)
open_count-more zero T h = absurd (omega arith)
open_count-more (suc n) T h = let e : suc n - 1 ≡ n = omega arith in rw e

pub count-ended : (p limit T : ℕ) → p ≡ 2 → count_for p limit T ≡ tree_nodes limit T
count-ended p limit T e = rw (eq-eqb p 2 e, count_for)

-- ---- the levels of an area that has not ended

pub holds_not_ended : (k phase limit T : ℕ) → (phase ≡ 2 → ⊥) → holds_for k phase limit T ≡ open_holds k limit T
holds_not_ended k phase limit T h = rw (ne_eqb phase 2 h, holds_for)

pub levels_not_ended : (area : List ℕ) → (get_or area 0 0 ≡ 2 → ⊥) → sound_levels area ≡ sound_open (get_or area 4 0) (get_or area 1 0) (levels_of area)
unfolding params_of levels_of
levels_not_ended area h =
    ap (λ (hs : List Hold). clean_all hs (levels_of area)) (holds_not_ended (own_levels area) (get_or area 0 0) (params_of area).limit (get_or area 1 0) h)
    ∙ clean_open area (own_levels area) (get_or area 4 0) (get_or area 1 0) 1

-- ---- the words before the levels

pub phase_open : (p : ℕ) → p ≡ 1 → (eqb p 1 || eqb p 2) ≡ true
phase_open p e = rw (eq-eqb p 1 e)

pub phase-other : (p : ℕ) → (p ≡ 1 → ⊥) → (eqb p 1 || eqb p 2) ≡ eqb p 2
phase-other p h = rw (ne_eqb p 1 h)

pub head-phase : (area : List ℕ) → sound_phase area ≡ false → sound_head area ≡ false
unfolding sound_head
head-phase area p = and_first (sound_phase area) (sound_params area && (sound_key area && (sound_count area && sound_last area))) p

head-rest : (area : List ℕ) → sound_phase area ≡ true → sound_head area ≡ (sound_params area && (sound_key area && (sound_count area && sound_last area)))
unfolding sound_head
head-rest area p = and_second (sound_phase area) (sound_params area && (sound_key area && (sound_count area && sound_last area))) p

pub head-params : (area : List ℕ) → sound_phase area ≡ true → sound_params area ≡ false → sound_head area ≡ false
head-params area p q = head-rest area p ∙ and_first (sound_params area) (sound_key area && (sound_count area && sound_last area)) q

pub head_more : (area : List ℕ) → sound_phase area ≡ true → sound_params area ≡ true → sound_head area ≡ (sound_key area && (sound_count area && sound_last area))
head_more area p q = head-rest area p ∙ and_second (sound_params area) (sound_key area && (sound_count area && sound_last area)) q
