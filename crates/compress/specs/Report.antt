-- Definitions: a step as the report prints it: figure 2.10, lines 1 to 4 of its loop. Beside the report's names those of document 01:
-- A[i-n] is A[i-89]; A[i-t0] to A[i-t4] are A[i-17], A[i-18], A[i-21], A[i-31] and A[i-67]; r is R and l is T.
use Rattle.std.specs.Prelude.{List, ℕ, ◌-◌, ◌%◌, get_or}
use Rattle.std.specs.Int.Bits.{bit_and, bit_xor}
use Rattle.compress.specs.Compress.{shifts_r, shifts_t, right_shifted, left_shifted}

-- line 1: "x = S[i-n] xor A[i-n] xor A[i-t0]"
abbrev pub linear_terms : ℕ → ℕ → ℕ → ℕ
linear_terms s an a0 = bit_xor (bit_xor s an) a0

-- line 2: "x = x xor (A[i-t1] and A[i-t2]) xor (A[i-t3] and A[i-t4])"
abbrev pub quadratic_terms : ℕ → ℕ → ℕ → ℕ → ℕ → ℕ
quadratic_terms x a1 a2 a3 a4 = bit_xor (bit_xor x (bit_and a1 a2)) (bit_and a3 a4)

-- the four lines, one after the other; lines 3 and 4, which document 01 has in the same form, are "x = x xor (x >> r[i-n])" and
-- "A[i] = x xor (x << l[i-n])"
unfoldable pub report_step : ℕ → ℕ → ℕ → ℕ → ℕ → ℕ → ℕ → ℕ → ℕ → ℕ
report_step s an a0 a1 a2 a3 a4 r l =
    let x₁ : ℕ = linear_terms s an a0 in
    let x₂ : ℕ = quadratic_terms x₁ a1 a2 a3 a4 in
    let x₃ : ℕ = right_shifted x₂ r in
    left_shifted x₃ l

-- word i of A by these lines, from the words before it and a constant s
unfoldable pub report_word : ℕ → ℕ → List ℕ → ℕ
report_word s i A =
    report_step s
    (get_or A (i - 89) 0)
    (get_or A (i - 17) 0)
    (get_or A (i - 18) 0)
    (get_or A (i - 21) 0)
    (get_or A (i - 31) 0)
    (get_or A (i - 67) 0)
    (get_or shifts_r ((i - 89) % 16) 0)
    (get_or shifts_t ((i - 89) % 16) 0)
