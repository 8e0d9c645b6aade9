-- `new_word` meets its contract: the word is the one that `step` makes of the words before it in its lane.
use mathlib.Core.Path.{◌∙◌}
use Rattle.compress.specs.Buffer.{new_word}
use Rattle.compress.proofs.ReportLaws.{report_step_lem}
use Rattle.compress.proofs.lanes.new_word.Goals as goal

pub returns : goal.returns
unfolding new_word
returns g c = c.step.ensures ∙ report_step_lem _ _ _ _ _ _ _ _ _
