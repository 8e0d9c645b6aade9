-- `writing::put::put_levels`: the loop keeps `Putting`.
use mathlib.Core.Path.{sym, ◌∙◌}
use Rattle.writing.proofs.PutLevels.{put-room, put-yes, put-no, put_all}
use native.Mathlib.Omega.{arith}
use Rattle.writing.proofs.put.put_levels.Goals as goal
use Rattle.writing.proofs.put.put_levels.Goals.{then-has_line, else-has_line}

pub slice_bounds-put_level-end : goal.slice_bounds-put_level-end
slice_bounds-put_level-end c = put-room c.loop-level.invariant (omega arith) (omega arith) (omega arith) (sym c.has_line.ensures ∙ c.if-has_line.true)

pub loop-level-preserved : goal.loop-level-preserved
loop-level-preserved c =
    let p = c.loop-level.invariant in
    elim c.if-has_line.branch [
      | then-has_line w ↦ rw (w.part-is, w.at-is) (put-yes p (omega arith) (omega arith) (omega arith) w.put_level.new.part (sym c.has_line.ensures ∙ w.if-has_line.true) w.put_level.ensures)
      | else-has_line w ↦ rw (w.part-is, w.at-is) (put-no p (omega arith) (omega arith) (omega arith) (sym c.has_line.ensures ∙ w.if-has_line.false))
    ]

pub returns-after-has_line : goal.returns-after-has_line
returns-after-has_line c =
    let p = c.loop-level.invariant in
    elim c.if-has_line.branch [
      | then-has_line w ↦ rw w.part-is (put_all (put-yes p (omega arith) (omega arith) (omega arith) w.put_level.new.part (sym c.has_line.ensures ∙ w.if-has_line.true) w.put_level.ensures) (omega arith))
      | else-has_line w ↦ rw w.part-is (put_all (put-no p (omega arith) (omega arith) (omega arith) (sym c.has_line.ensures ∙ w.if-has_line.false)) (omega arith))
    ]
