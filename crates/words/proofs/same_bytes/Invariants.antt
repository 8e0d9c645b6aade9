-- `words::same_bytes` compares byte by byte.
use mathlib.Core.Path.{◌≡◌}
use mathlib.Core.Bool.{◌&&◌}
use lib.Dec.{eqb}
use lib.ListN.{length}
use Rattle.lists.specs.Same.{same}
use Rattle.words.proofs.same_bytes.Given as goal

-- as many bytes of each are left, and the slices are the same if what was seen is zero and the bytes that are left are the same
abbrev pub invariant-loop-a : goal.invariant-loop-a
invariant-loop-a l = record {
  long : length l.a-iterator.a.rest.now ≡ length l.a-iterator.b.rest.now;
  left : (eqb l.seen 0 && same l.a-iterator.a.rest.now l.a-iterator.b.rest.now) ≡ same l.x l.y;
}
