-- `ending::close` meets its contract: one equation for every area, figure and log.
use native.Mathlib.Omega.{arith}
use lib.ListN.{replicate, length-take}
use Rattle.std.proofs.lemmas.Grind.{common_steps}
use Rattle.tree.proofs.OutputLaws.{logged-front}
use Rattle.calls.specs.Calls.{last_nodes_of, close_number, close_of}
use Rattle.ending.specs.EndLaws.{made_room}
use Rattle.ending.proofs.close.Goals as goal

pub slice_bounds-made-end : goal.slice_bounds-made-end
slice_bounds-made-end c = omega (arith, c.end_area-nodes.ensures.1, made_room c.args.area.now (replicate 54 0) c.check_figure.ensures.1)

pub slice_bounds-copy_from_slice-end-3 : goal.slice_bounds-copy_from_slice-end-3
slice_bounds-copy_from_slice-end-3 c = simp length-take (omega (arith, c.end_area-nodes.ensures.1, made_room c.args.area.now (replicate 54 0) c.check_figure.ensures.1))

pub copy_from_slice-requires : goal.copy_from_slice-requires
copy_from_slice-requires c =
    let room = made_room c.args.area.now (replicate 54 0) c.check_figure.ensures.1 (omega arith) in
    simp (length-take) (grind (arith, common_steps))

pub returns : goal.returns
unfolding close_of close_number
returns c =
    let front = logged-front (last_nodes_of c.args.area.now) (replicate 54 0) in
    grind (arith, common_steps)
