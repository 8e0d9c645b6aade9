-- `writing::held::text_bytes`: the bytes so far and the lines still to come are the whole text.
use mathlib.Core.Path.{sym, ap, ◌∙◌}
use lib.ListN.{length}
use Prim.Native.Nat.{◌+◌}
use Rattle.writing.specs.Lines.{from-no, from-end, length-yes, length-text}
use Rattle.texts.proofs.LengthLaws.{text-most}
use native.Mathlib.Omega.{arith}
use Rattle.writing.proofs.held.text_bytes.Goals as goal
use Rattle.writing.proofs.held.text_bytes.Goals.{then-has_line, else-has_line}

pub loop-level-init : goal.loop-level-init
loop-level-init c = let a = c.args in omega (arith, c.head_bytes-n.ensures, length-text a.form.width a.area.now (omega arith))

pub overflow_add-n : goal.overflow_add-n
overflow_add-n c =
    let z = c.loop-level in
    let a = c.args.area.now in
    let y = length-yes a z.level (omega arith) (omega arith) (omega arith) (sym c.has_line.ensures ∙ c.if-has_line.true) in
    omega (arith, z.invariant, y, text-most c.args.form.width a (omega arith))

pub loop-level-preserved : goal.loop-level-preserved
loop-level-preserved c =
    let z = c.loop-level in
    let a = c.args.area.now in
    elim c.if-has_line.branch [
      | then-has_line w ↦
          omega (arith, w.n-is, z.invariant, length-yes a z.level (omega arith) (omega arith) (omega arith) (sym c.has_line.ensures ∙ w.if-has_line.true))
      | else-has_line w ↦
          omega (arith, w.n-is, z.invariant, ap length (from-no a z.level (omega arith) (omega arith) (sym c.has_line.ensures ∙ w.if-has_line.false)))
    ]

pub returns-after-has_line : goal.returns-after-has_line
returns-after-has_line c =
    let z = c.loop-level in
    let a = c.args.area.now in
    let end = ap length (from-end a (z.level + 1) (omega arith)) in
    elim c.if-has_line.branch [
      | then-has_line w ↦
          omega (arith, w.n-is, z.invariant, end, length-yes a z.level (omega arith) (omega arith) (omega arith) (sym c.has_line.ensures ∙ w.if-has_line.true))
      | else-has_line w ↦
          omega (arith, w.n-is, z.invariant, end, ap length (from-no a z.level (omega arith) (omega arith) (sym c.has_line.ensures ∙ w.if-has_line.false)))
    ]
