-- `nodes::Maker::values` meets its contract. The level falls at each call of itself. The loop's invariant: the words hold the values of the
-- first j nodes.
use Rattle.std.proofs.Common.{◌≡◌, length}
use Rattle.nodes.specs.Value.{level_values, child_words}
use Rattle.nodes.specs.Making.{maker_params, maker_bits}
use Rattle.nodes.proofs.Maker.+values.Given as goal

abbrev pub decreases-values : goal.decreases-values
decreases-values l = l.level

abbrev pub invariant-loop-j : goal.invariant-loop-j
invariant-loop-j l = (l.words ≡ child_words (level_values (maker_params l.self) (maker_bits l.self) l.level) 4 l.index l.j) × (length l.words ≡ 64)
