-- `line_test::write_reading`: the key's bytes lie within those that are kept.
use Rattle.std.proofs.Common.{sym}
use Rattle.line.specs.FoldLaws.{within}
use Rattle.line_test.proofs.write_reading.Goals as goal

pub shared_ref_as_front-bytes : goal.shared_ref_as_front-bytes
shared_ref_as_front-bytes g c = within c.args.s c.in-Some.said (sym c.in-Some.ensures)
