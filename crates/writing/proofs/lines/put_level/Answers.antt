-- `writing::lines::put_level` writes a level's number, its words and the end of the line.
use mathlib.Core.Path.{ap, ◌∙◌}
use Rattle.digits.specs.Digits.{word_digits}
use Rattle.writing.proofs.LineStores.{level-stored}
use native.Mathlib.Omega.{arith}
use Rattle.writing.proofs.lines.put_level.Goals as goal

pub returns : goal.returns
returns c =
    let a = c.args in
    level-stored a.part.now a.area.now c.put_digits.new.part c.put_words.new.part a.level (omega arith) (omega arith) (omega arith) c.put_digits.ensures
    (c.put_words.ensures ∙ ap word_digits c.level-words.ensures.level_part.words)
