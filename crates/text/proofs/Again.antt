-- The text of an area, written again into the first bytes of a longer part.
use mathlib.Core.Path.{◌≡◌}
use mathlib.Core.List.{List}
use Prim.Native.Nat.{ℕ, ◌≤◌}
use native.Mathlib.Omega.{arith}
use lib.ListN.{length, replicate, length-replicate}
use Rattle.calls.specs.Area.{Long}
use Rattle.texts.specs.Text.{rounds_bytes, text_with}
use Rattle.texts.proofs.LengthLaws.{most_text, text-most}

pub again_room : (w : ℕ) (area text : List ℕ) → w ≤ rounds_bytes → Long area → length text ≡ length (text_with w area) → length text ≤ length {A = ℕ} (replicate most_text 0)
again_room w area text b h e = rw (length-replicate {A = ℕ} most_text 0) (omega (arith, text-most w area h))
