-- `area::count::open_above` meets its contract.
use Rattle.std.proofs.Common.{◌≡◌, ◌+◌, ◌-◌}
use Rattle.calls.specs.Area.{open_above}
use Rattle.area.proofs.count.open_above.Given as goal

abbrev pub invariant-loop-level : goal.invariant-loop-level
invariant-loop-level l = l.sum + open_above (l.levels - l._level) l.i ≡ open_above l.levels l.outputs
