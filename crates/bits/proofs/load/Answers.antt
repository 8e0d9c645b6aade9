-- `bits::load` meets its contract.
use native.Mathlib.Omega.{arith}
use Rattle.bits.specs.Read.{eight_from}
use Rattle.bits.proofs.load.Goals as goal

pub returns : goal.returns
unfolding eight_from
returns c = omega (arith, c.from_be_bytes.ensures)
