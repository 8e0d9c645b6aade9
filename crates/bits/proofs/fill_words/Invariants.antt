-- `bits::fill_words` meets its contract. The invariant: the block is filled with the first 64 * i bits; a turn fills one word more (Filling).
use mathlib.Core.Path.{◌≡◌}
use Prim.Native.Nat.{◌+◌, ◌*◌}
use Rattle.bits.specs.Bits.{filled}
use Rattle.bits.proofs.fill_words.Given as goal

abbrev pub invariant-loop-i : goal.invariant-loop-i
invariant-loop-i l = l.block ≡ filled l.initial.block (64 * l.word) l.bytes (8 * l.from.byte + l.from.bit) (64 * l.i)
