-- `bits::word_at` meets its contract: the same with bytes past the end as 0 (Reading).
use mathlib.Core.Path.{◌∙◌}
use native.Mathlib.Omega.{arith}
use Rattle.lists.specs.Slices.{bytes_below}
use Rattle.bits.proofs.Reading.{word_read}
use Rattle.bits.proofs.word_at.Goals as goal

pub returns : goal.returns
returns c =
    let below = bytes_below c.args.bytes.now c.type_inv.bytes in
    c.shifted.ensures ∙ rw (c.load_end-word.ensures, c.byte_at.ensures) (word_read c.args.from.byte c.args.from.bit below (omega arith) (omega arith))
