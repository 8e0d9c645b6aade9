-- `node::digest::byte_of` meets its contract.
use Rattle.node.specs.DigestLaws.{byte-value}
use Rattle.node.proofs.digest.byte_of.Goals as goal

pub returns : goal.returns
returns c = rw c.to_be_bytes.ensures (byte-value c.args.words.now c.args.j c.requires)
