-- Laws: of how many words the digest layer by layer needs.
use Rattle.std.specs.Prelude.{◌≡◌, refl, ℕ, zero, suc, ◌<◌}
use Rattle.std.proofs.Common.{arith, le-ltb}
use Rattle.tree.specs.Tree.{blocks}
use Rattle.layer.specs.OneLayer.{size_of}
use Rattle.layers.specs.Layers.{first_nodes}

-- the nodes of the first layer are those of level 1
pub first-nodes : (limit bits : ℕ) → blocks (size_of limit 1) bits ≡ first_nodes limit bits
first-nodes zero bits = refl
first-nodes (suc n) bits = rw (le-ltb (suc n) 1 (omega arith))

pub first-size : (limit : ℕ) → 0 < size_of limit 1
first-size zero = omega arith
first-size (suc n) = rw (le-ltb (suc n) 1 (omega arith)) (omega arith)
