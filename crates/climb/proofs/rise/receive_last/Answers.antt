-- `climb::rise::receive_last` meets its contract.
use Rattle.climb.specs.ReceiveLaws.{coming-joins, joined-level, last-held, last-room, last-chained}
use mathlib.Core.Bool.{true}
use native.Mathlib.Omega.{arith}
use Rattle.climb.proofs.rise.receive_last.Goals as goal

pub join-requires : goal.join-requires
join-requires c = coming-joins c.requires.coming true c.output_place.ensures

pub returns-then-i-ne2 : goal.returns-then-i-ne2
returns-then-i-ne2 c = last-held c.requires.coming c.requires.sequential c.output_place.ensures c.join.ensures c.if-i-ne2.true

pub make_level-made-requires : goal.make_level-made-requires
make_level-made-requires c = (
  joined-level (coming-joins c.requires.coming true c.output_place.ensures) c.join.ensures,
  omega (arith, c.requires.coming.small),
  omega (arith, last-room c.requires.coming c.requires.sequential c.if-i-ne2.false),
)

pub chain_level-requires : goal.chain_level-requires
chain_level-requires c = (joined-level (coming-joins c.requires.coming true c.output_place.ensures) c.join.ensures, omega arith)

pub returns : goal.returns
returns c =
    last-chained c.requires.coming c.requires.sequential c.output_place.ensures c.join.ensures c.if-i-ne2.false
    c.make_level-made.ensures c.chain_level.ensures
