-- `node::digest::key_words` meets its contract: the filled words are those of the key followed by zero bytes.
use Rattle.node.specs.DigestLaws.{key-filled}
use mathlib.Core.Path.{◌∙◌}
use Rattle.node.proofs.digest.key_words.Goals as goal

pub returns : goal.returns
returns c = c.fill.ensures ∙ key-filled c.args.key.now c.requires
