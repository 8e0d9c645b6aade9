-- Laws: bits in blocks of a size: how many blocks are done and how many bits are held, and what one bit more makes of both.
use Rattle.std.specs.Prelude.{◌≡◌, refl, ℕ, zero, suc, ◌+◌, ◌-◌, ◌*◌, ◌/◌, ◌≤◌, ◌<◌}
use Rattle.std.proofs.Common.{ap, ◌∙◌, mod-lt, div-add-mod', mul_comm, mul-suc, suc-mul, arith}
use Rattle.std.proofs.Math.Nat.{add-div_right, div-eq_of_lt, zero-div}
use Rattle.std.proofs.Math.Arith.{digits_div}
use Rattle.tree.specs.Tree.{blocks}
use Rattle.calls.specs.Area.{done_blocks, held_bits}

module _ (size : ℕ) (some : 0 < size) where
  -- n blocks and l bits more, which are at most a block
  pub done_is : (n l T : ℕ) → T ≡ n * size + l → 0 < l → l ≤ size → done_blocks size T ≡ n
  done_is n l T e p h =
      let f : T - 1 ≡ n * size + (l - 1) = omega arith in
      ap (λ (x : ℕ). x / size) f ∙ digits_div n (omega arith)

  -- the last block is not done
  pub blocks-done : (T : ℕ) → blocks size T ≡ suc (done_blocks size T)
  blocks-done zero = rw (div-eq_of_lt {n = 0 + (size - 1)} {m = size} (omega arith), zero-div size) refl
  blocks-done (suc T) =
      let e : suc T + (size - 1) ≡ (suc T - 1) + size = omega arith in
      let f : (suc T + (size - 1)) / size ≡ done_blocks size (suc T) + 1 = ap (λ (x : ℕ). x / size) e ∙ add-div_right (suc T - 1) some in
      omega arith

  parts : (T : ℕ) → 0 < T → (T ≡ done_blocks size T * size + held_bits size T) × (0 < held_bits size T) × (held_bits size T ≤ size)
  parts T h =
      let e = div-add-mod' (T - 1) size in
      let c = mul_comm size (done_blocks size T) in
      let m = mod-lt (T - 1) some in
      (omega arith, omega arith, omega arith)

  pub held-most : (T : ℕ) → held_bits size T ≤ size
  held-most zero = omega arith
  held-most (suc T) = (parts (suc T) (omega arith)).2

  -- one bit more, where there is room for it
  pub done_less : (T : ℕ) → (held_bits size T ≡ size → ⊥) → done_blocks size (suc T) ≡ done_blocks size T
  done_less zero h = refl
  done_less (suc T) h =
      let p = parts (suc T) (omega arith) in
      done_is (done_blocks size (suc T)) (suc (held_bits size (suc T))) (suc (suc T)) (omega (arith, p.0)) (omega arith) (omega (arith, p.2))

  pub held_next : (T : ℕ) → held_bits size T < size → held_bits size (suc T) ≡ suc (held_bits size T)
  held_next zero h = rw (zero-div size) (omega arith)
  held_next (suc T) h = rw (done_less (suc T) (λ e. omega arith)) (omega (arith, (parts (suc T) (omega arith)).1))

  -- and where the block is full
  pub done_full : (T : ℕ) → held_bits size T ≡ size → done_blocks size (suc T) ≡ suc (done_blocks size T)
  done_full zero h = absurd (omega arith)
  done_full (suc T) h =
      let q = suc-mul (done_blocks size (suc T)) size in
      done_is (suc (done_blocks size (suc T))) 1 (suc (suc T)) (omega (arith, (parts (suc T) (omega arith)).0)) (omega arith) (omega arith)

  pub held_first : (T : ℕ) → held_bits size T ≡ size → held_bits size (suc T) ≡ 1
  held_first T h = rw (done_full T h) (omega (arith, mul-suc size (done_blocks size T)))
