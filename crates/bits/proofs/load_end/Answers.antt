-- `bits::load_end` meets its contract, by that of `byte_at`.
use native.Mathlib.Omega.{arith}
use Rattle.bits.specs.Read.{eight_from}
use Rattle.bits.proofs.load_end.Goals as goal

pub returns : goal.returns
unfolding eight_from
returns c =
    omega (arith, c.from_be_bytes.ensures, c.byte_at.ensures, c.byte_at-2.ensures, c.byte_at-3.ensures, c.byte_at-4.ensures, c.byte_at-5.ensures, c.byte_at-6.ensures, c.byte_at-7.ensures, c.byte_at-8.ensures)
