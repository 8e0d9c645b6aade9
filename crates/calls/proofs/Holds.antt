-- Laws: what each level of an open area holds. "So level 1 holds 1 to 4,096 bits once the total is above 0 (1 to 3,072 if
-- L = 0); a higher level holds 0 to 3 outputs (0 to 2 if sequential)."
use Rattle.std.specs.Prelude.{◌≡◌, refl, ℕ, zero, suc, ◌+◌, ◌-◌, ◌/◌, ◌%◌, ◌≤◌, ◌<◌, get_or, replicate}
use Rattle.std.proofs.Common.{arith}
use Rattle.tree.specs.Tree.{block_bits}
use Rattle.calls.specs.Area.{parallel_hold, done_blocks, holds_above, area_levels}
use Rattle.calls.proofs.Machine.{one_more}
use Rattle.calls.specs.Vocabulary.{bits_at, most_first, HoldsOutputs}

pub first_holds : (limit T : ℕ) → 0 < T → (1 ≤ bits_at limit T 1) × (bits_at limit T 1 ≤ most_first limit)
first_holds zero T h = (omega arith, omega arith)
first_holds (suc n) T h = rw (bits_at, one_more (suc n)) (omega arith, omega arith)

no-outputs : (limit level bits : ℕ) → bits ≡ 0 → HoldsOutputs limit level bits
no-outputs limit level bits e = record { outputs = 0; whole = omega arith; parallel = omega arith; sequential = λ h. omega arith }

none_held : (k j : ℕ) → (get_or (replicate k (parallel_hold 0)) j (parallel_hold 0)).bits ≡ 0
none_held zero j = refl
none_held (suc k) zero = refl
none_held (suc k) (suc j) = none_held k j

-- the level at place j of k levels, to the first of which i outputs came; n of them may be parallel
holds-above : (k n i j : ℕ) → HoldsOutputs n (j + 1) (get_or (holds_above k n i) j (parallel_hold 0)).bits
holds-above zero n i j = no-outputs n (j + 1) 0 refl
holds-above (suc k) zero i zero = record { outputs = i % 3; whole = refl; parallel = omega arith; sequential = λ h. omega arith }
holds-above (suc k) zero i (suc j) = no-outputs 0 (suc j + 1) _ (none_held k j)
holds-above (suc k) (suc n) i zero = record { outputs = i % 4; whole = refl; parallel = omega arith; sequential = λ h. absurd (omega arith) }
holds-above (suc k) (suc n) i (suc j) =
    let r = holds-above k n (i / 4) j in
    record { outputs = r.outputs; whole = r.whole; parallel = r.parallel; sequential = λ h. r.sequential (omega arith) }

pub higher-holds : (limit T level : ℕ) → 2 ≤ level → HoldsOutputs limit level (bits_at limit T level)
higher-holds limit T zero h = absurd (omega arith)
higher-holds limit T (suc zero) h = absurd (omega arith)
higher-holds zero T (suc (suc j)) h =
    let e : suc (suc j) - 1 ≡ suc j = omega arith in
    rw (bits_at, e) (no-outputs 0 (suc (suc j)) _ (none_held 0 j))
higher-holds (suc n) T (suc (suc j)) h =
    let e : suc (suc j) - 1 ≡ suc j = omega arith in
    let r = holds-above (area_levels (suc n) - 1) n (done_blocks block_bits T) j in
    rw (bits_at, e, one_more (suc n)) record { outputs = r.outputs; whole = r.whole; parallel = r.parallel; sequential = λ q. r.sequential (omega arith) }
