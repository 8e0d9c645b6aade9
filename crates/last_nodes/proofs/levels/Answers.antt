-- `last_nodes::levels` meets its contract.
use native.Mathlib.Omega.{arith}
use Rattle.last_nodes.specs.LastLaws.{first-room, first-sequential, first-root, first-rising, first_above}
use Rattle.last_nodes.proofs.levels.Goals as goal

pub first_node-requires : goal.first_node-requires
first_node-requires c = omega (arith, first-room c.requires)

pub returns-then-with-lt1 : goal.returns-then-with-lt1
returns-then-with-lt1 c = first-sequential c.requires c.if-with-lt1.true c.first_node.ensures

pub first_node-out-requires : goal.first_node-out-requires
first_node-out-requires c = omega (arith, first-room c.requires)

pub returns-then-done-lt1 : goal.returns-then-done-lt1
returns-then-done-lt1 c = first-root c.requires c.if-with-lt1.false c.done_blocks-done.ensures c.root_flag-z.ensures.value c.first_node-out.ensures c.if-done-lt1.true

pub above-requires : goal.above-requires
above-requires c =
    let d = c.done_blocks-done.ensures in
    first-rising c.requires c.if-with-lt1.false d c.root_flag-z.ensures.value c.first_node-out.ensures c.if-done-lt1.false (omega (arith, d))

pub returns : goal.returns
returns c = first_above c.requires c.if-with-lt1.false c.done_blocks-done.ensures c.root_flag-z.ensures.value c.first_node-out.ensures c.if-done-lt1.false c.above.ensures
