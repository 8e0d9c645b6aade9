-- `layer_log_words` meets its contract.
use Rattle.refusals.specs.RefusalLaws.{told_ok}
use Rattle.layers.specs.Layers.{layer_log_words_of}
use Rattle.layers.proofs.CallLaws.{limit-refused}
use Rattle.layers.proofs.layer_log_words.Goals as goal

pub returns-in_err-check_limit : goal.returns-in_err-check_limit
unfolding layer_log_words_of
returns-in_err-check_limit c = limit-refused _ _ _ _ _ c.check_limit.ensures c.in_err-check_limit.was c.from_residual.ensures.1

pub returns : goal.returns
unfolding layer_log_words_of
returns c = rw (c.log_words_used.ensures, told_ok c.in_ok-check_limit.was c.check_limit.ensures)
