-- `node::digest::put_bytes` meets its contract. The loop's invariant: the first i bytes are written, the rest is as it was.
use Rattle.bits.specs.Bits.{bits_of, numbers}
use lib.ListN.{length, drop}
use mathlib.Core.List.{◌++◌}
use mathlib.Core.Path.{◌≡◌}
use Rattle.node.proofs.digest.put_bytes.Given as goal

abbrev pub invariant-loop-i : goal.invariant-loop-i
invariant-loop-i l = (l.out ≡ numbers 8 l.i (bits_of 64 l.words) ++ drop l.i l.initial.out) × (length l.out ≡ length l.initial.out)
