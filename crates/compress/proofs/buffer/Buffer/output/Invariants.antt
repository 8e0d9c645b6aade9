-- `output` meets its contract: after i turns the first i of the 16 words are copied.
use mathlib.Core.Path.{◌≡◌}
use lib.ListN.{length, drop, replicate}
use lib.Seq.{paste}
use Rattle.compress.specs.Buffer.{lane}
use Rattle.compress.proofs.buffer.Buffer.output.Given as goal

abbrev pub invariant-loop-i : goal.invariant-loop-i
invariant-loop-i g l = (l.c ≡ paste (replicate 16 0) 0 (drop l.from (lane g.row.LANES l.j l.self.words)) l.i) × (length l.c ≡ 16)
