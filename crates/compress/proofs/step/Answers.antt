-- `step` meets its contract: the code is the definition.
use borrow.Author.Rules.{rules}
use Rattle.compress.specs.Report.{report_step}
use Rattle.compress.proofs.step.Goals as goal

pub returns : goal.returns
unfolding report_step
returns c = search rules
