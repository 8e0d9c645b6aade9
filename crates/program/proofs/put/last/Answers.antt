-- `program::put::last` meets its contract: the digest is put behind the lines of the nodes.
use lib.ListN.{length-take, length-drop}
use native.Mathlib.Omega.{arith}
use Rattle.program.specs.PutLaws.{nodes-count, digest-put}
use Rattle.program.proofs.put.last.Goals as goal

pub slice_bounds-put_digest-count : goal.slice_bounds-put_digest-count
slice_bounds-put_digest-count c =
    let a = c.args in
    omega (arith, nodes-count a.log.now a.out.now c.nodes-at.ensures)

pub slice_bounds-put_digest-start : goal.slice_bounds-put_digest-start
slice_bounds-put_digest-start c =
    let a = c.args in
    omega (arith, nodes-count a.log.now a.out.now c.nodes-at.ensures)

pub put_digest-requires : goal.put_digest-requires
put_digest-requires c =
    let e = nodes-count c.args.log.now c.args.out.now c.nodes-at.ensures in
    simp (length-take, length-drop) (omega arith)

pub overflow_add-result : goal.overflow_add-result
overflow_add-result c =
    let a = c.args in
    omega (arith, nodes-count a.log.now a.out.now c.nodes-at.ensures)

pub overflow_add-result-2 : goal.overflow_add-result-2
overflow_add-result-2 c =
    let a = c.args in
    omega (arith, nodes-count a.log.now a.out.now c.nodes-at.ensures)

pub returns : goal.returns
returns c =
    let a = c.args in
    digest-put a.log.now a.digest.now a.out.now c.nodes-at.ensures (omega arith) c.put_digest.ensures
