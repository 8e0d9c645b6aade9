-- `writing::lines::put_head` writes line 1, the words of K and the end of line 2.
use lib.ListN.{length-take}
use Rattle.writing.proofs.LineStores.{head-stored}
use native.Mathlib.Omega.{arith}
use Rattle.writing.proofs.lines.put_head.Goals as goal

pub slice_bounds-put_line1-end : goal.slice_bounds-put_line1-end
slice_bounds-put_line1-end c = omega (arith, c.line1_bytes-a.ensures)

pub put_line1-requires : goal.put_line1-requires
put_line1-requires c = (rw length-take (omega (arith, c.line1_bytes-a.ensures)), omega arith)

pub returns : goal.returns
returns c =
    let a = c.args in
    let n = c.line1_bytes-a in
    head-stored a.form.width n.result a.part.now a.area.now c.put_line1.new.part c.put_words.new.part n.ensures (omega arith) (omega arith) c.put_line1.ensures c.put_words.ensures
