-- `piece::chunk::fill_level` meets its contract.
use Rattle.std.proofs.Common.{zero-add}
use Rattle.piece.proofs.chunk.fill_level.Goals as goal

pub returns : goal.returns
returns c = rw (c.fill.ensures, zero-add c.args.span.start)
