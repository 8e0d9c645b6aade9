-- `node::digest::put_bytes` meets its contract. The loop's invariant: the first i bytes are written, the rest is as it was.
use Rattle.node.specs.DigestLaws.{bytes_none, bytes-more}
use Rattle.std.proofs.Common.{refl, arith, length-set}
use Rattle.node.proofs.digest.put_bytes.Goals as goal

pub loop-i-init : goal.loop-i-init
loop-i-init c = (bytes_none c.args.words.now c.args.out.now, refl)

pub loop-i-preserved : goal.loop-i-preserved
loop-i-preserved c =
    let i = c.loop-i.i in (
      rw (c.loop-i.invariant.0, c.byte_of.ensures)
          (bytes-more c.args.words.now c.args.out.now i (omega (arith, c.requires.1, c.loop-i-test.true))),
      simp length-set c.loop-i.invariant.1,
    )
