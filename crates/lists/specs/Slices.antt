-- Laws: what a slice's rule says of its elements, as a list below a bound: `bytes_below xs c.shared-slice-known.given`.
use Rattle.std.specs.Prelude.{List, ℕ, ◌^◌, get_or}
use Rattle.std.specs.Int.{w8, w64}
use Rattle.std.proofs.Common.{Fits}
use Rattle.lists.specs.Below.{Below}
use Rattle.lists.specs.BelowLaws.{below_all}

pub bytes_below : (xs : List ℕ) → ((i : ℕ) → Fits w8 (get_or xs i 0)) → Below (2 ^ 8) xs
bytes_below xs f = below_all xs (λ i h. (f i).fits)

pub words-below : (xs : List ℕ) → ((i : ℕ) → Fits w64 (get_or xs i 0)) → Below (2 ^ 64) xs
words-below xs f = below_all xs (λ i h. (f i).fits)
