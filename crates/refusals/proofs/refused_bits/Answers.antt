-- `refusals::refused_bits` meets its contract.
use native.Mathlib.Omega.{arith}
use Rattle.bits.specs.PieceLaws.{spanned}
use Rattle.refusals.specs.NumberLaws.{count-decides}
use Rattle.refusals.proofs.refused_bits.Goals as goal

pub returns : goal.returns
returns c =
    let a = c.args in
    count-decides (spanned a.bytes.now a.span) (omega arith)
