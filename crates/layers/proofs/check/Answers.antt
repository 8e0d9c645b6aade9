-- `check` meets its contract.
use Rattle.bits.specs.PieceLaws.{spanned}
use Rattle.refusals.specs.RefusalLaws.{told_ok}
use Rattle.layers.proofs.CallLaws.{limit_low}
use Rattle.layers.proofs.check.Goals as goal

pub log_words_used-log_used-requires : goal.log_words_used-log_used-requires
log_words_used-log_used-requires c =
    let a = c.args in
    limit_low (spanned a.message.now a.span) a.params a.digest.now (told_ok c.in_ok-check.was c.check.ensures)
