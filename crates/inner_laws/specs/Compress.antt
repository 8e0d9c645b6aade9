-- Laws: of exclusive or by binary digits, from which it follows that two words are taken into one in either order.
use Rattle.std.specs.Prelude.{◌≡◌, refl, ℕ, zero, suc, ◌+◌, ◌*◌, ◌/◌, ◌%◌, ◌<◌}
use Rattle.std.proofs.Common.{◌∙◌, arith}
use Rattle.std.specs.Int.Bits.{differ, bit_xor, xor_step}

-- of binary digits
pub swap_digits : (p q r : ℕ) → p < 2 → q < 2 → r < 2 → differ (differ p q) r ≡ differ (differ p r) q
swap_digits zero zero zero _ _ _ = refl
swap_digits zero zero (suc zero) _ _ _ = refl
swap_digits zero (suc zero) zero _ _ _ = refl
swap_digits zero (suc zero) (suc zero) _ _ _ = refl
swap_digits (suc zero) zero zero _ _ _ = refl
swap_digits (suc zero) zero (suc zero) _ _ _ = refl
swap_digits (suc zero) (suc zero) zero _ _ _ = refl
swap_digits (suc zero) (suc zero) (suc zero) _ _ _ = refl
swap_digits (suc (suc p)) q r h _ _ = absurd (omega arith)
swap_digits zero (suc (suc q)) r _ h _ = absurd (omega arith)
swap_digits (suc zero) (suc (suc q)) r _ h _ = absurd (omega arith)
swap_digits zero zero (suc (suc r)) _ _ h = absurd (omega arith)
swap_digits zero (suc zero) (suc (suc r)) _ _ h = absurd (omega arith)
swap_digits (suc zero) zero (suc (suc r)) _ _ h = absurd (omega arith)
swap_digits (suc zero) (suc zero) (suc (suc r)) _ _ h = absurd (omega arith)

pub differ_lt : (p q : ℕ) → p < 2 → q < 2 → differ p q < 2
differ_lt zero q _ h = h
differ_lt (suc zero) zero h _ = h
differ_lt (suc zero) (suc zero) _ _ = omega arith
differ_lt (suc zero) (suc (suc q)) _ h = absurd (omega arith)
differ_lt (suc (suc p)) q h _ = absurd (omega arith)

-- the digits of an exclusive or
module _ (a b : ℕ) where
  pub digit : differ (a % 2) (b % 2) < 2
  digit = differ_lt (a % 2) (b % 2) (omega arith) (omega arith)

  pub xor-half : bit_xor a b / 2 ≡ bit_xor (a / 2) (b / 2)
  xor-half = omega (arith, xor_step a b, digit)

  pub xor_odd : bit_xor a b % 2 ≡ differ (a % 2) (b % 2)
  xor_odd = omega (arith, xor_step a b, digit)

  -- and of one more
  pub xor-more : (c : ℕ) → bit_xor (bit_xor a b) c ≡ bit_xor (bit_xor (a / 2) (b / 2)) (c / 2) * 2 + differ (differ (a % 2) (b % 2)) (c % 2)
  xor-more c = xor_step (bit_xor a b) c ∙ rw (xor-half, xor_odd)
