-- `hash::default_rounds` meets its contract.
use mathlib.Core.Path.{sym, ap, ◌∙◌}
use Rattle.std.proofs.lemmas.Result.{err_from_is_err_and}
use Rattle.refusals.specs.Refusals.{told_number}
use Rattle.refusals.specs.RefusalLaws.{answer_refused, number_not0, told_ok}
use Rattle.hash.specs.Hash.{default_rounds_of}
use Rattle.hash.proofs.default_rounds.Goals as goal

pub returns-in_err-check_sizes : goal.returns-in_err-check_sizes
unfolding default_rounds_of
returns-in_err-check_sizes c =
    let number = sym (ap told_number c.in_err-check_sizes.was) ∙ c.check_sizes.ensures in
    let p = err_from_is_err_and c.from_residual.result c.from_residual.ensures.1 in
    rw (p.1, p.2) (answer_refused _ _ _ (λ k. record { number = k; count = 0 }) number (number_not0 _))

pub returns : goal.returns
unfolding default_rounds_of
returns c = rw (c.rounds_by_default.ensures, told_ok c.in_ok-check_sizes.was c.check_sizes.ensures)
