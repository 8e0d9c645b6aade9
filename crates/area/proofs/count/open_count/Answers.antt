-- `area::count::open_count` meets its contract.
use Rattle.std.proofs.Common.{◌-◌, arith}
use Rattle.area.specs.CountLaws.{open_above_le}
use Rattle.area.proofs.count.open_count.Goals as goal

pub overflow_add-result : goal.overflow_add-result
overflow_add-result c = omega (arith, c.done_blocks-done.ensures, c.open_above.ensures, open_above_le (c.args.limit - 1) c.done_blocks-done.result)
