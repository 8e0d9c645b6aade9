-- What the shifts of the filler come to, in sums and quotients. `x << s` is `x * 2 ^ s % 2 ^ 64`, and `x >> s` is `x / 2 ^ s`.
use mathlib.Core.Path.{◌≡◌, ap, ◌∙◌}
use Prim.Native.Nat.{ℕ, ◌+◌, ◌-◌, ◌*◌, ◌/◌, ◌%◌, ◌^◌, ◌≤◌, ◌<◌}
use native.Mathlib.Nat.{add-mul, suc-mul, mul_assoc, mul-le-mul_right, mod-lt, mul-mod_left, mul-add-div_right, one-mul}
use native.Mathlib.Omega.{arith}
use lib.Bits.{bit_or, bit_and, or_shifted, and_mask}
use lib.Pow.{pow-add, pow_pos, shl_exact, shl-shr, shr-shr, shr_lt, split, high, low, mod-pow-add}

-- m bits of a number of m bits and one of u bits after it, from bit b on: k is u - b
pub shifted_in : (m u w n b k : ℕ) → b ≤ m → b + k ≡ u → n < 2 ^ u → bit_or (w * 2 ^ b % 2 ^ m) (n / 2 ^ k) ≡ (w * 2 ^ u + n) / 2 ^ k % 2 ^ m
shifted_in m u w n b k l e h =
    let q : ℕ = n / 2 ^ k in
    let j : ℕ = m - b in
    let s : m ≡ j + b = omega arith in
    let lq : q < 2 ^ b = shr_lt b k (rw e h) in
    let whole : (w * 2 ^ u + n) / 2 ^ k ≡ w * 2 ^ b + q =
    rw (← e, pow-add 2 b k, ← mul_assoc w (2 ^ b) (2 ^ k)) (mul-add-div_right (pow_pos k) (w * 2 ^ b) n) in
    let left : w * 2 ^ b % 2 ^ (j + b) ≡ w % 2 ^ j * 2 ^ b =
    mod-pow-add (w * 2 ^ b) j b ∙ rw (shl-shr w b, mul-mod_left w (2 ^ b)) (omega arith) in
    let right : (w * 2 ^ b + q) % 2 ^ (j + b) ≡ w % 2 ^ j * 2 ^ b + q =
    mod-pow-add (w * 2 ^ b + q) j b ∙ rw (high w b lq, low w b lq) in
    rw (whole, s, left, right) (or_shifted (w % 2 ^ j) b q lq)

-- two numbers side by side
beside_lt : (s n : ℕ) {x v : ℕ} → x < 2 ^ s → v < 2 ^ n → x * 2 ^ n + v < 2 ^ (s + n)
beside_lt s n {x} {v} hx hv = rw (pow-add 2 s n) (omega (arith, mul-le-mul_right (2 ^ n) hx, suc-mul x (2 ^ n)))

-- the mask of n bits
pub mask_eq : (n : ℕ) → n < 64 → 1 * 2 ^ n % 2 ^ 64 ≡ 2 ^ n
mask_eq n h = shl_exact {a = 1} 1 n 64 (omega arith) (omega arith) ∙ one-mul (2 ^ n)

module _ (w n t : ℕ) (ht : n + t ≤ 64) (hn : n < 64) where
  -- the n bits above the low t ones
  pub old_eq : bit_and (w / 2 ^ t) (1 * 2 ^ n % 2 ^ 64 - 1) * 2 ^ t % 2 ^ 64 ≡ w / 2 ^ t % 2 ^ n * 2 ^ t
  old_eq = rw (mask_eq n hn, and_mask (w / 2 ^ t) n) (shl_exact n t 64 (mod-lt (w / 2 ^ t) (pow_pos n)) ht)

  -- the word is what lies above them, they, and what lies below
  pub three-parts : w ≡ w / 2 ^ (n + t) * 2 ^ n * 2 ^ t + w / 2 ^ t % 2 ^ n * 2 ^ t + w % 2 ^ t
  three-parts =
      let c : n + t ≡ t + n = omega arith in
      let e : (w / 2 ^ (n + t) * 2 ^ n + w / 2 ^ t % 2 ^ n) * 2 ^ t ≡ w / 2 ^ t * 2 ^ t =
      ap (λ (x : ℕ). x * 2 ^ t) (rw (c, ← shr-shr w t n) (split (w / 2 ^ t) n)) in
      omega (arith, e, add-mul (w / 2 ^ (n + t) * 2 ^ n) (w / 2 ^ t % 2 ^ n) (2 ^ t), split w t)

-- `word - (old << t) + (v << t)`
pub put_eq : (w n t v : ℕ) → n + t ≤ 64 → n < 64 → v < 2 ^ n
    → w - bit_and (w / 2 ^ t) (1 * 2 ^ n % 2 ^ 64 - 1) * 2 ^ t % 2 ^ 64 + v * 2 ^ t % 2 ^ 64 ≡ (w / 2 ^ (n + t) * 2 ^ n + v) * 2 ^ t + w % 2 ^ t
put_eq w n t v ht hn hv =
    rw (old_eq w n t ht hn, shl_exact {a = v} n t 64 hv ht, add-mul (w / 2 ^ (n + t) * 2 ^ n) v (2 ^ t)) (omega (arith, three-parts w n t ht hn))

-- the word with another number in the place of the n bits above its low t ones
pub replaced_lt : (m w n t v : ℕ) → n + t ≤ m → w < 2 ^ m → v < 2 ^ n → (w / 2 ^ (n + t) * 2 ^ n + v) * 2 ^ t + w % 2 ^ t < 2 ^ m
replaced_lt m w n t v h hw hv =
    let s : ℕ = m - (n + t) in
    let e : m ≡ s + (n + t) = omega arith in
    let f : s + (n + t) ≡ s + n + t = omega arith in
    let hi : w / 2 ^ (n + t) < 2 ^ s = shr_lt s (n + t) (rw e at hw) in
    rw (e, f) (beside_lt (s + n) t (beside_lt s n hi hv) (mod-lt w (pow_pos t)))
