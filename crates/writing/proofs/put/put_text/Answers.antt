-- `writing::put::put_text`: the head, then the levels.
use lib.ListN.{length-take}
use Rattle.writing.specs.Lines.{length-text}
use Rattle.writing.proofs.PutLevels.{head-room, levels-length, text-put}
use native.Mathlib.Omega.{arith}
use Rattle.writing.proofs.put.put_text.Goals as goal

pub slice_bounds-put_head-end : goal.slice_bounds-put_head-end
slice_bounds-put_head-end c = let a = c.args in omega (arith, c.head_bytes-head.ensures, length-text a.form.width a.area.now (omega arith))

pub put_head-requires : goal.put_head-requires
put_head-requires c =
    let a = c.args in
    (rw length-take (omega (arith, c.head_bytes-head.ensures, length-text a.form.width a.area.now (omega arith))), omega arith)

-- the part behind the first two lines
pub slice_bounds-put_levels-count : goal.slice_bounds-put_levels-count
slice_bounds-put_levels-count c =
    let n = c.head_bytes-head in
    let a = c.args in
    head-room a.form.width n.result a.area.now a.part.now c.put_head.new.part n.ensures (omega arith) (omega arith) c.put_head.ensures

pub slice_bounds-put_levels-start : goal.slice_bounds-put_levels-start
slice_bounds-put_levels-start c =
    let n = c.head_bytes-head in
    let a = c.args in
    head-room a.form.width n.result a.area.now a.part.now c.put_head.new.part n.ensures (omega arith) (omega arith) c.put_head.ensures

pub put_levels-requires : goal.put_levels-requires
put_levels-requires c =
    let n = c.head_bytes-head in
    let a = c.args in
    (omega arith, levels-length a.form.width n.result a.area.now a.part.now c.put_head.new.part n.ensures (omega arith) (omega arith) c.put_head.ensures)

pub returns : goal.returns
returns c =
    let n = c.head_bytes-head in
    let a = c.args in
    text-put a.form.width n.result a.area.now a.part.now c.put_head.new.part n.ensures (omega arith) (omega arith) c.put_head.ensures c.put_levels.new.part c.put_levels.ensures
