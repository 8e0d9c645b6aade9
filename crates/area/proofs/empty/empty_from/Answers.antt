-- `area::empty::empty_from` meets its contract.
use Rattle.std.proofs.Common.{◌+◌, ◌/◌, drop, length-drop, sym, ◌∙◌, arith, ne_eqb}
use Rattle.std.proofs.Math.Seq.{take-length}
use Rattle.area.specs.EmptyLaws.{empty-end, empty-not, empty-rest}
use Rattle.area.proofs.empty.empty_from.Goals as goal

pub returns-then-part-i : goal.returns-then-part-i
returns-then-part-i c = sym (empty-end c.args.from c.args.part.now c.if-part-i.true)

pub returns-then-low-eq0 : goal.returns-then-low-eq0
returns-then-low-eq0 c =
    let from = c.args.from in
    let part = c.args.part.now in
    let i = from / 64 in
    rw (← length-drop (i + 1) part, take-length (drop (i + 1) part)) at c.or_all.ensures
    ∙ sym (empty-rest from part c.if-part-i.false (omega (arith, c.type_inv.part i)) c.if-low-eq0.true)

pub returns-else-low-eq0 : goal.returns-else-low-eq0
returns-else-low-eq0 c =
    let from = c.args.from in
    ne_eqb _ 0 c.if-low-eq0.false ∙ sym (empty-not from c.args.part.now c.if-part-i.false (omega (arith, c.type_inv.part (from / 64))) c.if-low-eq0.false)
