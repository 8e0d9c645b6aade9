-- Which level has a line, level by level, without going through those below it.
use mathlib.Core.Path.{◌≡◌, refl, sym, ap, ◌∙◌}
use mathlib.Core.Bool.{Bool, true, false, not, ◌||◌}
use mathlib.Core.List.{List, map}
use Prim.Native.Nat.{ℕ, zero, suc, ◌+◌, ◌-◌, ◌*◌, ◌/◌, ◌%◌, ◌^◌, ◌≤◌, ◌<◌}
use native.Mathlib.Omega.{arith}
use borrow.Author.Tests.{ne_eqb, eqb-true, eqb-false, ltb-true, ltb-false}
use lib.Dec.{eqb, ltb}
use lib.Pow.{shr-shr}
use lib.ListN.{get_or, replicate}
use Rattle.tree.specs.Tree.{block_bits, sequential_bits, output_bits}
use Rattle.calls.specs.Area.{phase_of, total_of, params_of, own_levels, done_blocks, held_bits, parallel_hold, holds_above, open_holds}
use Rattle.calls.proofs.AreaLaws.{limit-word}
use Rattle.texts.specs.Text.{has_line, held_levels}
use Rattle.writing.specs.Lines.{has_line_at}

-- a test that is false for zero alone
some_held : (c b T : ℕ) → (T ≡ 0 → (c ≡ 0) × (b ≡ 0)) → ((T ≡ 0 → ⊥) → (c ≡ 0) × (b ≡ 0) → ⊥) → (ltb 0 c || not (eqb b 0)) ≡ not (eqb T 0)
some_held c b T f g = by (ltb 0 c) (eqb b 0) (eqb T 0) refl refl refl
  where
    by : (s t u : Bool) → ltb 0 c ≡ s → eqb b 0 ≡ t → eqb T 0 ≡ u → (s || not t) ≡ not u
    by true t true p q r = absurd (omega (arith, ltb-true 0 c p, (f (eqb-true T 0 r)).0))
    by true t false p q r = refl
    by false true true p q r = refl
    by false true false p q r = absurd (g (eqb-false T 0 r) (omega (arith, ltb-false 0 c p), eqb-true b 0 q))
    by false false true p q r = absurd (eqb-false b 0 q (f (eqb-true T 0 r)).1)
    by false false false p q r = refl

none_held : (b T : ℕ) → (T ≡ 0 → b ≡ 0) → ((T ≡ 0 → ⊥) → b ≡ 0 → ⊥) → has_line (parallel_hold b) ≡ not (eqb T 0)
none_held b T f g = by (eqb b 0) (eqb T 0) refl refl
  where
    by : (t u : Bool) → eqb b 0 ≡ t → eqb T 0 ≡ u → not t ≡ not u
    by true true q r = refl
    by true false q r = absurd (g (eqb-false T 0 r) (eqb-true b 0 q))
    by false true q r = absurd (eqb-false b 0 q (f (eqb-true T 0 r)))
    by false false q r = refl

shift_none : (i : ℕ) → i / 2 ^ (2 * 0) ≡ i
shift_none i = omega arith

shift_next : (i j : ℕ) → i / 4 / 2 ^ (2 * j) ≡ i / 2 ^ (2 * suc j)
shift_next i j =
    let e : 2 * suc j ≡ 2 + 2 * j = omega arith in
    rw e (shr-shr i 2 (2 * j))

bare : (k j : ℕ) → get_or (map has_line (replicate k (parallel_hold 0))) j false ≡ false
bare zero j = refl
bare (suc k) zero = refl
bare (suc k) (suc j) = bare k j

-- ---- the levels above level 1

above : ℕ → ℕ → ℕ → ℕ → Bool
above k n i j = get_or (map has_line (holds_above k n i)) j false

above-parallel : (k n i j : ℕ) → j < k → j < n → above k n i j ≡ not (eqb (i / 2 ^ (2 * j) % 4) 0)
unfolding above
above-parallel zero n i j h g = absurd (omega arith)
above-parallel (suc k) zero i j h g = absurd (omega arith)
above-parallel (suc k) (suc n) i zero h g =
    none_held (output_bits * (i % 4)) (i % 4) (λ e. omega arith) (λ f e. f (omega arith)) ∙ ap (λ (x : ℕ). not (eqb (x % 4) 0)) (sym (shift_none i))
above-parallel (suc k) (suc n) i (suc j) h g =
    above-parallel k n (i / 4) j (omega arith) (omega arith) ∙ ap (λ (x : ℕ). not (eqb (x % 4) 0)) (shift_next i j)

above-sequential : (k n i : ℕ) → n < k → above k n i n ≡ not (eqb (i / 2 ^ (2 * n)) 0)
unfolding above
above-sequential zero n i h = absurd (omega arith)
above-sequential (suc k) zero i h =
    some_held (i / 3) (output_bits * (i % 3)) i (λ e. (omega arith, omega arith)) (λ f p. f (omega (arith, p.0, p.1)))
    ∙ ap (λ (x : ℕ). not (eqb x 0)) (sym (shift_none i))
above-sequential (suc k) (suc n) i h = above-sequential k n (i / 4) (omega arith) ∙ ap (λ (x : ℕ). not (eqb x 0)) (shift_next i n)

-- ---- m levels of an open area

line_open : ℕ → ℕ → ℕ → ℕ → Bool
line_open m limit T j = get_or (map has_line (open_holds m limit T)) j false

open_first : (m limit T : ℕ) → 1 ≤ m → line_open m limit T 0 ≡ not (eqb T 0)
unfolding line_open
open_first zero limit T h = absurd (omega arith)
open_first (suc m) zero T h = some_held (done_blocks sequential_bits T) (held_bits sequential_bits T) T (λ e. (omega arith, omega arith)) (λ f p. f (omega (arith, p.0, p.1)))
open_first (suc m) (suc n) T h = none_held (held_bits block_bits T) T (λ e. omega arith) (λ f e. f (omega arith))

-- the levels above level 1, of which j stand below
open_sequential : (m limit T j : ℕ) → suc j ≡ limit → suc j < m → line_open m limit T (suc j) ≡ not (eqb (done_blocks block_bits T / 2 ^ (2 * j)) 0)
unfolding line_open above
open_sequential zero limit T j g h = absurd (omega arith)
open_sequential (suc m) zero T j g h = absurd (omega arith)
open_sequential (suc m) (suc n) T j g h =
    let e : j ≡ n = omega arith in
    rw e (above-sequential m n (done_blocks block_bits T) (omega arith))

open_parallel : (m limit T j : ℕ) → suc j < limit → suc j < m → line_open m limit T (suc j) ≡ not (eqb (done_blocks block_bits T / 2 ^ (2 * j) % 4) 0)
unfolding line_open above
open_parallel zero limit T j g h = absurd (omega arith)
open_parallel (suc m) zero T j g h = absurd (omega arith)
open_parallel (suc m) (suc n) T j g h = above-parallel m n (done_blocks block_bits T) j (omega arith) (omega arith)

-- ---- as the code asks

module _ (area : List ℕ) (level : ℕ) where
  abbrev own : ℕ → Bool
  own j = line_open (own_levels area) (params_of area).limit (total_of area) j

  held_open : (phase_of area ≡ 2 → ⊥) → has_line_at area level ≡ own (level - 1)
  unfolding has_line_at line_open
  held_open p =
      let n : ℕ = own_levels area in
      ap (λ (b : Bool). get_or (map has_line (elim b [ true ↦ replicate n (parallel_hold 0) | false ↦ open_holds n (params_of area).limit (total_of area) ])) (level - 1) false)
      (ne_eqb (phase_of area) 2 p)

  pub held-ended : phase_of area ≡ 2 → false ≡ has_line_at area level
  unfolding has_line_at
  held-ended e = sym (ap (λ (p : ℕ). get_or (held_levels p (params_of area).limit (total_of area)) (level - 1) false) e ∙ bare (own_levels area) (level - 1))

  -- level 1 holds bits once there are some
  pub held_first : (phase_of area ≡ 2 → ⊥) → level ≡ 1 → not (eqb (total_of area) 0) ≡ has_line_at area level
  held_first p e =
      let k : level - 1 ≡ 0 = omega arith in
      sym (held_open p ∙ ap own k ∙ open_first (own_levels area) (params_of area).limit (total_of area) (omega arith))

  module _ (p : phase_of area ≡ 2 → ⊥) (lo : 2 ≤ level) (hi : level ≤ own_levels area) where
    at_level : has_line_at area level ≡ own (suc (level - 2))
    at_level =
        let k : level - 1 ≡ suc (level - 2) = omega arith in
        held_open p ∙ ap own k

    -- the sequential level, which is the last
    pub held-sequential : get_or area 4 0 < level → not (eqb (done_blocks block_bits (total_of area) / 2 ^ (2 * (level - 2))) 0) ≡ has_line_at area level
    held-sequential g =
        let l = limit-word area in
        sym (at_level ∙ open_sequential (own_levels area) (params_of area).limit (total_of area) (level - 2) (omega arith) (omega arith))

    -- a parallel level
    pub held-parallel : level ≤ get_or area 4 0 → not (eqb (done_blocks block_bits (total_of area) / 2 ^ (2 * (level - 2)) % 4) 0) ≡ has_line_at area level
    held-parallel g =
        let l = limit-word area in
        sym (at_level ∙ open_parallel (own_levels area) (params_of area).limit (total_of area) (level - 2) (omega arith) (omega arith))
