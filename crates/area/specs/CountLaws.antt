-- Laws: of the counts in Area: where they end, how they go on, and that they fit.
use Rattle.std.specs.Prelude.{◌≡◌, refl, ℕ, zero, suc, ◌+◌, ◌-◌, ◌/◌, ◌^◌, ◌≤◌, ◌<◌}
use Rattle.std.proofs.Math.Nat.{zero-div}
use Rattle.std.proofs.Common.{arith}
use Rattle.tree.specs.Tree.{block_bits, sequential_bits}
use Rattle.calls.specs.Area.{done_blocks, open_above, open_count}

-- ---- level 1

pub done_none : (size T : ℕ) → T < 1 → done_blocks size T ≡ 0
done_none size T h = let e : T - 1 ≡ 0 = omega arith in rw e (zero-div size)

-- ---- the open area

pub open_above_le : (n i : ℕ) → open_above n i ≤ i
open_above_le zero i = omega arith
open_above_le (suc n) i = omega (arith, open_above_le n (i / 4))

pub open_above-last : (n i : ℕ) → n < 1 → open_above n i ≡ i / 3
open_above-last zero i h = refl
open_above-last (suc n) i h = absurd (omega arith)

pub open_above-more : (n i : ℕ) → 1 ≤ n → open_above n i ≡ i / 4 + open_above (n - 1) (i / 4)
open_above-more zero i h = absurd (omega arith)
open_above-more (suc n) i h = let e : suc n - 1 ≡ n = omega arith in rw e

pub open_count_none : (limit T : ℕ) → limit < 1 → open_count limit T ≡ done_blocks sequential_bits T
open_count_none zero T h = refl
open_count_none (suc n) T h = absurd (omega arith)

-- ---- they fit

pub done-fits : (T : ℕ) → T < 2 ^ 64 → (done_blocks block_bits T < 2 ^ 56) × (done_blocks sequential_bits T < 2 ^ 56)
done-fits T h = (omega arith, omega arith)
