-- `nodes::Maker::sequential` meets its contract. The loop's invariant: the chain after i nodes.
use Rattle.std.proofs.Common.{◌≡◌, length}
use Rattle.nodes.specs.Value.{chain}
use Rattle.nodes.specs.Making.{maker_params, maker_limit, maker_bits}
use Rattle.nodes.proofs.Maker.sequential.Given as goal

abbrev pub invariant-loop-i : goal.invariant-loop-i
invariant-loop-i l = (l.last ≡ chain (maker_params l.self) (maker_limit l.self) (maker_bits l.self) l.i) × (length l.last ≡ 16)
