-- `nodes::Maker::leaves` meets its contract. The loop's invariant: the words hold the values of the leaves of the first pairs.
use Rattle.std.proofs.Common.{◌≡◌, ◌*◌, length}
use Rattle.nodes.specs.Value.{level_values, child_words}
use Rattle.nodes.specs.Making.{maker_params, maker_bits}
use Rattle.nodes.proofs.Maker.leaves.Given as goal

abbrev pub invariant-loop-pair : goal.invariant-loop-pair
invariant-loop-pair l = (l.out ≡ child_words (level_values (maker_params l.self) (maker_bits l.self) 1) 4 l.index (2 * l.pair)) × (length l.out ≡ 64)
