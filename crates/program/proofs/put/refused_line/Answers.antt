-- `program::put::refused_line` meets its contract: the words are copied.
use Rattle.program.specs.Printed.{refused_line}
use Rattle.program.specs.PutLaws.{put_is}
use Rattle.program.proofs.put.refused_line.Goals as goal

pub returns : goal.returns
unfolding refused_line
returns c =
    let e = c.copy.ensures in
    put_is refused_line c.args.out.now e.count (rw e.count e.copied)
