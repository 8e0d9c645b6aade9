-- `area::count::open_above` meets its contract.
use Rattle.std.proofs.Common.{◌≡◌, ℕ, ◌+◌, ◌-◌, ◌/◌, ap, arith}
use Rattle.calls.specs.Area.{open_above}
use Rattle.calls.proofs.Counts.{open_above_none}
use Rattle.area.specs.CountLaws.{open_above_le, open_above-last, open_above-more}
use Rattle.area.proofs.count.open_above.Goals as goal

pub returns-then-i-lt1 : goal.returns-then-i-lt1
returns-then-i-lt1 c =
    let left = c.args.levels - c.loop-level._level in
    let none : c.loop-level.i ≡ 0 = omega arith in
    omega (arith, open_above_none left, ap (open_above left) none)

pub overflow_add-sum : goal.overflow_add-sum
overflow_add-sum c = omega (arith, open_above-more (c.args.levels - c.loop-level._level) c.loop-level.i (omega arith), open_above_le c.args.levels c.args.outputs)

pub loop-level-preserved : goal.loop-level-preserved
loop-level-preserved c =
    let left = c.args.levels - c.loop-level._level in
    let next : left - 1 ≡ c.args.levels - (c.loop-level._level + 1) = omega arith in
    omega (arith, open_above-more left c.loop-level.i (omega arith), ap (λ (n : ℕ). open_above n (c.loop-level.i / 4)) next)

pub overflow_add-result : goal.overflow_add-result
overflow_add-result c =
    omega (arith, open_above-last (c.args.levels - c.loop-level._level) c.loop-level.i (omega arith), open_above_le c.args.levels c.args.outputs)

pub returns : goal.returns
returns c = omega (arith, open_above-last (c.args.levels - c.loop-level._level) c.loop-level.i (omega arith))
