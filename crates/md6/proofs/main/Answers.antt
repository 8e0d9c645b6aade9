-- `md6::main` is safe and ends: what is written lies within the text.
use Rattle.std.proofs.Common.{sym, length-take-le}
use Rattle.program.specs.FitLaws.{took-within, last_within}
use Rattle.md6.proofs.main.Goals as goal

pub slice_bounds-out-end : goal.slice_bounds-out-end
slice_bounds-out-end c = last_within _ _ c.finish-last.ensures

pub slice_bounds-write_all-end : goal.slice_bounds-write_all-end
slice_bounds-write_all-end c = sym (length-take-le _ _ (last_within _ _ c.finish-last.ensures))

pub slice_bounds-out-end-in-loop : goal.slice_bounds-out-end-in-loop
slice_bounds-out-end-in-loop c = took-within _ _ c.take-taken.ensures

pub slice_bounds-write_all-end-in-loop : goal.slice_bounds-write_all-end-in-loop
slice_bounds-write_all-end-in-loop c = sym (length-take-le _ _ (took-within _ _ c.take-taken.ensures))
