-- Laws: two tests at once.
use Rattle.std.specs.Prelude.{◌≡◌, refl, Bool, true, false, ◌&&◌, ◌||◌, ℕ, T}
use Rattle.std.proofs.Common.{sym, arith}

pub and_left : (a b : Bool) → T (a && b) → T a
and_left true b t = tt
and_left false b t = t

pub and_right : (a b : Bool) → T (a && b) → T b
and_right true b t = t
and_right false b t = absurd t

pub and_intro : {a b : Bool} → a ≡ true → b ≡ true → (a && b) ≡ true
and_intro p q = rw (p, q) refl

pub and_parts : (a b : Bool) → (a && b) ≡ true → (a ≡ true) × (b ≡ true)
and_parts true b e = (refl, e)
and_parts false b e = (e, cc)

pub or_parts : (a b : Bool) → (a || b) ≡ false → (a ≡ false) × (b ≡ false)
or_parts true b e = (e, cc)
or_parts false b e = (refl, e)

true-not-false : true ≡ false → ⊥
true-not-false e = let z : ◌≡◌ {A = ℕ} 0 1 = cc in omega arith

pub and_first : (a b : Bool) → a ≡ false → (a && b) ≡ false
and_first true b e = absurd (true-not-false e)
and_first false b e = refl

pub and_second : (a b : Bool) → a ≡ true → (a && b) ≡ b
and_second true b e = refl
and_second false b e = absurd (true-not-false (sym e))
