-- `hash::check` meets its contract.
use mathlib.Core.Bool.{true, false}
use mathlib.Core.Path.{sym, ap, ◌∙◌}
use borrow.Author.Tests.{lt-ltb, le-ltb}
use Rattle.std.proofs.lemmas.Result.{err_from_is_err_and}
use Rattle.bits.specs.PieceLaws.{spanned}
use Rattle.refusals.specs.Refusals.{told_number}
use Rattle.refusals.specs.RefusalLaws.{told_err, told_ok}
use Rattle.hash.proofs.HashLaws.{number-bits, number-ranges, number-output}
use Rattle.hash.proofs.check.Goals as goal

pub returns-then-refused_bits : goal.returns-then-refused_bits
returns-then-refused_bits c =
    let a = c.args in
    number-bits (spanned a.message.now a.span) a.params a.digest.now (sym c.refused_bits.ensures ∙ c.if-refused_bits.true)

pub returns-in_err-check_params : goal.returns-in_err-check_params
returns-in_err-check_params c =
    let e = c.check_params.ensures in
    let was = c.in_err-check_params.was in
    let a = c.args in
    let p = err_from_is_err_and c.from_residual.result c.from_residual.ensures.1 in
    rw (p.1, p.2)
    (sym (ap told_number was) ∙ e ∙ number-ranges (spanned a.message.now a.span) a.params a.digest.now
    (sym c.refused_bits.ensures ∙ c.if-refused_bits.false) (λ z. told_err _ was (e ∙ z)))

pub returns-then-digest-digest_bytes : goal.returns-then-digest-digest_bytes
returns-then-digest-digest_bytes c =
    let a = c.args in
    number-output (spanned a.message.now a.span) a.params a.digest.now
    (sym c.refused_bits.ensures ∙ c.if-refused_bits.false) (told_ok c.in_ok-check_params.was c.check_params.ensures)
    true (rw c.digest_bytes.ensures at (lt-ltb _ _ c.if-digest-digest_bytes.true))

pub returns : goal.returns
returns c =
    let a = c.args in
    number-output (spanned a.message.now a.span) a.params a.digest.now
    (sym c.refused_bits.ensures ∙ c.if-refused_bits.false) (told_ok c.in_ok-check_params.was c.check_params.ensures)
    false (rw c.digest_bytes.ensures at (le-ltb _ _ c.if-digest-digest_bytes.false))
