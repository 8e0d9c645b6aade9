-- `area::Area::level` meets its contract.
use mathlib.Core.Path.{refl, ap, ◌∙◌}
use lib.ListN.{length}
use Rattle.calls.proofs.AreaLaws.{length-level_words}
use Rattle.area.specs.SoundLaws.{lent_level}
use Rattle.area.proofs.Area.level.Goals as goal

pub returns-clause-level_part : goal.returns-clause-level_part
returns-clause-level_part c =
    let area = c.args.area.now in
    let k = c.args.level in
    let e = lent_level area k in
    rw c.level_start-a.ensures (record { words = e; size = ap length e ∙ length-level_words area k c.requires.0 c.requires.2 })

pub returns-clause-place : goal.returns-clause-place
returns-clause-place c = rw c.level_start-a.ensures (refl, refl)
