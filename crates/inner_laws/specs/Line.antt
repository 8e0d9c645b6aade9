-- Laws: of the first line: the test for a decimal digit, rounds that are given or not, and one byte more of the fold.
use Rattle.std.specs.Prelude.{Option, Some, None, option_map, ◌≡◌, refl, Bool, true, false, cond, List, [], ◌∷◌, ◌++◌, ℕ, ◌≤◌, ◌<◌}
use Rattle.std.proofs.lemmas.Bool.{lt-leb}
use Rattle.std.proofs.Common.{arith, le-leb}
use Rattle.line.specs.Line.{is_dash, is_decimal, number_of, rounds_of}
use Rattle.line.specs.Fold.{step_of, fold_of}
use Rattle.line.specs.declared.State.{State}

pub decimal-yes : (b : ℕ) → 48 ≤ b → b < 58 → is_decimal b ≡ true
decimal-yes b h g = rw (le-leb 48 b h, le-leb b 57 (omega arith))

pub decimal_low : (b : ℕ) → b < 48 → is_decimal b ≡ false
decimal_low b h = rw (lt-leb 48 b h)

pub decimal_high : (b : ℕ) → 58 ≤ b → is_decimal b ≡ false
decimal_high b h = rw (le-leb 48 b (omega arith), lt-leb b 57 (omega arith))

-- ---- rounds

-- those of a line: the default ones, or a number
pub data Rounds : Type 0 where
  Default : Rounds
  Given : (r : ℕ) → Rounds

-- "r may be - for the default"
abbrev pub given : Option ℕ → Option Rounds
given None = None
given (Some r) = Some (Given r)

-- a number in place of none or some
abbrev pub rounds_as : Option ℕ → Rounds
rounds_as None = Default
rounds_as (Some r) = Given r

pub rounds-given : (f : List ℕ) → option_map rounds_as (rounds_of f) ≡ cond (is_dash f) (Some Default) (given (number_of f))
rounds-given f = by (is_dash f) (number_of f)
  where
    by : (t : Bool) (o : Option ℕ) → option_map rounds_as (cond t (Some None) (option_map (λ (r : ℕ). Some r) o)) ≡ cond t (Some Default) (given o)
    by true o = refl
    by false None = refl
    by false (Some r) = refl

-- ---- the fold

-- one byte more of a line
pub fold_snoc : (line : List ℕ) (s : State) (b : ℕ) → fold_of s (line ++ (b ∷ [])) ≡ step_of (fold_of s line) b
fold_snoc [] s b = refl
fold_snoc (c ∷ line) s b = fold_snoc line (step_of s c) b
