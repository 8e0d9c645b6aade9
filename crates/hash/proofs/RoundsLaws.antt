-- Laws: of the default rounds.
use Rattle.std.specs.Prelude.{◌≡◌, refl, Bool, true, false, ℕ, ◌≤◌, ◌<◌, max, ltb}
use Rattle.std.proofs.Common.{arith, ltb-false, lt-ltb}
use Rattle.tree.specs.Tree.{most_rounds, most_digest_bits}
use Rattle.refusals.specs.Refusals.{first_refusal, size_tests}
use Rattle.refusals.specs.RefusalLaws.{passed}
use Rattle.hash.specs.Hash.{unkeyed_rounds, least_keyed_rounds, rounds_by_default}

-- "the larger of 80 and 40 + d/4 if the key has any byte", and otherwise 40 + d/4
pub keyed-rounds : (d key_bytes : ℕ) → 1 ≤ key_bytes → rounds_by_default d key_bytes ≡ max least_keyed_rounds (unkeyed_rounds d)
keyed-rounds d key_bytes h = rw (lt-ltb 0 key_bytes h)

pub unkeyed_rounds_lem : (d key_bytes : ℕ) → key_bytes ≡ 0 → rounds_by_default d key_bytes ≡ unkeyed_rounds d
unkeyed_rounds_lem d key_bytes e = rw e

-- "The report gives a keyed digest at least 80 rounds"
pub keyed-least : (d key_bytes : ℕ) → 1 ≤ key_bytes → least_keyed_rounds ≤ rounds_by_default d key_bytes
keyed-least d key_bytes h = rw (keyed-rounds d key_bytes h) (omega arith)

-- what holds of both cases holds of the default
either : (C : ℕ → Type 0) (d key_bytes : ℕ) → C (unkeyed_rounds d) → C (max least_keyed_rounds (unkeyed_rounds d))
    → C (rounds_by_default d key_bytes)
either C d key_bytes u k = by (ltb 0 key_bytes) refl
  where
    by : (t : Bool) → ltb 0 key_bytes ≡ t → C (rounds_by_default d key_bytes)
    by true e = rw e k
    by false e = rw e u

-- a key makes no difference from a digest size of 160 on, and below that it always makes one
pub keyed-same : (d key_bytes : ℕ) → 160 ≤ d → rounds_by_default d key_bytes ≡ rounds_by_default d 0
keyed-same d key_bytes h = either (λ r. r ≡ unkeyed_rounds d) d key_bytes refl (omega arith)

pub keyed-more : (d key_bytes : ℕ) → d < 160 → 1 ≤ key_bytes → rounds_by_default d 0 < rounds_by_default d key_bytes
keyed-more d key_bytes h k = rw (keyed-rounds d key_bytes k) (omega arith)

-- rounds that are told are in range: no call that is given them refuses them by 4
pub default_in_range : (d key_bytes : ℕ) → first_refusal (size_tests d key_bytes) ≡ 0 → rounds_by_default d key_bytes ≤ most_rounds
default_in_range d key_bytes e =
    let h = ltb-false most_digest_bits d (passed (size_tests d key_bytes) refl e 1) in
    either (λ r. r ≤ most_rounds) d key_bytes (omega arith) (omega arith)
