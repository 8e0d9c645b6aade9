-- `text::spell::spell_levels`: the loop keeps `Spelling`, until a byte is refused.
use Rattle.text.proofs.SpellLevels.{Spelling}
use Rattle.text.proofs.spell.spell_levels.Given as goal

abbrev pub invariant-loop-level : goal.invariant-loop-level
invariant-loop-level l = Spelling l.initial.area l.text l.area l.rest l.level
