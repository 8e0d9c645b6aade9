-- Laws: of lists of numbers that are all below a bound.
use Rattle.std.specs.Prelude.{List, [], ◌∷◌, ◌++◌, ℕ, zero, suc, ◌<◌, length, take, drop, get_or, replicate}
use Rattle.std.proofs.Common.{le_of_suc-le-suc, not-suc-le-zero, arith}
use Rattle.lists.specs.Below.{Below, none, more}

pub below-append : {b : ℕ} {ws vs : List ℕ} → Below b ws → Below b vs → Below b (ws ++ vs)
below-append none q = q
below-append (more h hs) q = more h (below-append hs q)

pub below-zeros : (b n : ℕ) → 0 < b → Below b (replicate n 0)
below-zeros b zero h = none
below-zeros b (suc n) h = more h (below-zeros b n h)

pub below-drop : {b : ℕ} (n : ℕ) {ws : List ℕ} → Below b ws → Below b (drop n ws)
below-drop zero hs = hs
below-drop (suc n) none = none
below-drop (suc n) (more h hs) = below-drop n hs

pub below-take : {b : ℕ} (n : ℕ) {ws : List ℕ} → Below b ws → Below b (take n ws)
below-take zero hs = none
below-take (suc n) none = none
below-take (suc n) (more h hs) = more h (below-take n hs)

-- each number of the list, by its index
pub below_at : {b : ℕ} {ws : List ℕ} → Below b ws → (i : ℕ) → i < length ws → get_or ws i 0 < b
below_at none i h = absurd (not-suc-le-zero h)
below_at (more g gs) zero h = g
below_at (more g gs) (suc i) h = below_at gs i (le_of_suc-le-suc h)

-- and back: what a slice's rule says of each index
pub below_all : {b : ℕ} (ws : List ℕ) → ((i : ℕ) → i < length ws → get_or ws i 0 < b) → Below b ws
below_all [] f = none
below_all (w ∷ ws) f = more (f 0 (omega arith)) (below_all ws (λ i h. f (suc i) (omega arith)))
