-- `digits::spell_words` spells words, 16 digits at a time, until a byte is refused.
use Rattle.std.proofs.Common.{◌≡◌, length, map, take, Some}
use Rattle.digits.specs.Digits.{spelt_words}
use Rattle.digits.proofs.spell_words.Given as goal

abbrev pub invariant-loop-i : goal.invariant-loop-i
invariant-loop-i l = take l.i (spelt_words (length l.initial.words) l.part) ≡ map Some (take l.i l.words)
