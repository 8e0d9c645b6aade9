-- `area::levels::Whole::levels_sound` meets its contract.
use Rattle.std.proofs.Common.{sym, ap, ◌∙◌}
use Rattle.area.specs.Phase.{phase_word}
use Rattle.area.specs.SoundLaws.{levels-ended, levels_open}
use Rattle.area.proofs.levels.Whole.levels_sound.Goals as goal

pub returns-in-Open : goal.returns-in-Open
returns-in-Open c =
    c.open_sound.ensures ∙ sym (levels_open c.args.self.now.words.now (sym c.args.self.now.phased ∙ ap phase_word c.in-Open.is))

pub returns-in-Ended : goal.returns-in-Ended
returns-in-Ended c =
    c.levels_empty.ensures ∙ sym (levels-ended c.args.self.now.words.now (sym c.args.self.now.phased ∙ ap phase_word c.in-Ended.is))
