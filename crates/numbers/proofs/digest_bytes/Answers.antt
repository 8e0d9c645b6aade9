-- `numbers::digest_bytes` meets its contract.
use Rattle.climb.specs.OpenArea.{open_range}
use Rattle.numbers.proofs.digest_bytes.Goals as goal

pub digest_bytes-requires : goal.digest_bytes-requires
digest_bytes-requires c = (open_range c.requires).d_high
