-- `climb::level::chain_level` meets its contract.
use native.Mathlib.Omega.{arith}
use mathlib.Core.Path.{◌∙◌}
use Rattle.calls.specs.Area.{empty_level}
use Rattle.climb.specs.Levels.{length-empty, level-still, chain-made}
use Rattle.climb.proofs.level.chain_level.Goals as goal

pub join-requires : goal.join-requires
join-requires c = record { level = level-still c.requires.0 empty_level length-empty c.clear_level.ensures; inside = omega arith; words = c.requires.1 }

pub returns : goal.returns
returns c = c.join.ensures ∙ rw c.clear_level.ensures (chain-made c.requires.0 c.args.out.now)
