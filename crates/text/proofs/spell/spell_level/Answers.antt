-- `text::spell::spell_level` fills the part of one level.
use Rattle.text.proofs.LinesSpelt.{level-spelt}
use native.Mathlib.Omega.{arith}
use Rattle.text.proofs.spell.spell_level.Goals as goal

pub returns : goal.returns
returns c =
    let a = c.args in
    let w = c.spell_words in
    let e = c.level_start-a.ensures in
    rw e (level-spelt a.area.now a.line.now w.new.words a.level w.result (omega arith) (omega arith) (rw e at w.ensures))
