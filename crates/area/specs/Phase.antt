-- Definitions: the phases of a stream, and the words that say them.
use Rattle.std.specs.Prelude.{◌≡◌, false, ◌||◌, ℕ, eqb, Result, MatchResult}
use Rattle.area.specs.declared.Phase.{Phase}
use Rattle.area.specs.declared.Phase.TheVariants.{Open, Ended}
use Rattle.area.specs.declared.NoPhase.{NoPhase}

abbrev pub phase_word : Phase → ℕ
phase_word Open = 1
phase_word Ended = 2

-- what is read of a word: the phase that it says, or that it says none
abbrev pub ReadsPhase : ℕ → Result Phase NoPhase → Type 0
ReadsPhase word r = MatchResult r (λ phase. phase_word phase ≡ word) (λ e. (e.0 ≡ word) × ((eqb word 1 || eqb word 2) ≡ false))
