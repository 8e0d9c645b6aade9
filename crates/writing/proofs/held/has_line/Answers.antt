-- `writing::held::has_line`: each return is one of the cases of HeldAt.
use mathlib.Core.Path.{sym, ◌∙◌}
use Rattle.writing.proofs.HeldAt.{held-ended, held_first, held-sequential, held-parallel}
use native.Mathlib.Omega.{arith}
use Rattle.writing.proofs.held.has_line.Goals as goal

pub returns-then-area-from : goal.returns-then-area-from
returns-then-area-from c = held-ended c.args.area.now c.args.level (c.if-area-from.true ∙ c.from.ensures)

pub returns-then-level-eq1 : goal.returns-then-level-eq1
returns-then-level-eq1 c =
    let a = c.args in
    held_first a.area.now a.level (λ e. c.if-area-from.false (e ∙ sym c.from.ensures)) c.if-level-eq1.true

pub returns-then-limit-level : goal.returns-then-limit-level
returns-then-limit-level c =
    let a = c.args in
    rw c.done_blocks.ensures (held-sequential a.area.now a.level (λ e. c.if-area-from.false (e ∙ sym c.from.ensures)) (omega arith) (omega arith) c.if-limit-level.true)

pub returns : goal.returns
returns c =
    let a = c.args in
    rw c.done_blocks.ensures (held-parallel a.area.now a.level (λ e. c.if-area-from.false (e ∙ sym c.from.ensures)) (omega arith) (omega arith) c.if-limit-level.false)
