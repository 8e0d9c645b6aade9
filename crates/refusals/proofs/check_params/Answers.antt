-- `refusals::check_params` meets its contract.
use mathlib.Core.Path.{refl, sym, ap, ◌∙◌}
use borrow.Author.Tests.{lt-ltb, le-ltb}
use native.Mathlib.Omega.{arith}
use Rattle.tree.specs.Tree.{most_rounds}
use Rattle.refusals.specs.Refusals.{size_tests, told_number}
use Rattle.refusals.specs.RefusalLaws.{passed}
use Rattle.refusals.proofs.check_params.Goals as goal

pub returns-then-params-gt-MOST_LIMIT : goal.returns-then-params-gt-MOST_LIMIT
returns-then-params-gt-MOST_LIMIT c =
    let a = c.args.params in
    let p = passed (size_tests a.d a.keylen) refl (sym c.check_sizes.ensures ∙ ap told_number c.in_ok-check_sizes.was) in
    rw (p 0, p 1, p 2, lt-ltb _ _ c.if-params-gt-MOST_LIMIT.true)

pub returns-then-params-gt-MOST_ROUNDS : goal.returns-then-params-gt-MOST_ROUNDS
returns-then-params-gt-MOST_ROUNDS c =
    let a = c.args.params in
    let p = passed (size_tests a.d a.keylen) refl (sym c.check_sizes.ensures ∙ ap told_number c.in_ok-check_sizes.was) in
    rw (p 0, p 1, p 2, le-ltb _ _ c.if-params-gt-MOST_LIMIT.false, lt-ltb most_rounds a.rounds (omega (arith, c.if-params-gt-MOST_ROUNDS.true)))

pub returns : goal.returns
returns c =
    let a = c.args.params in
    let p = passed (size_tests a.d a.keylen) refl (sym c.check_sizes.ensures ∙ ap told_number c.in_ok-check_sizes.was) in
    rw (p 0, p 1, p 2, le-ltb _ _ c.if-params-gt-MOST_LIMIT.false, le-ltb _ _ c.if-params-gt-MOST_ROUNDS.false)
