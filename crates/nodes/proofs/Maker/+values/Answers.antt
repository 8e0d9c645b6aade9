-- `nodes::Maker::values` meets its contract. The level falls at each call of itself. The loop's invariant: the words hold the values of the first
-- j nodes.
use Rattle.std.proofs.Common.{◌≡◌, ℕ, ◌+◌, ◌-◌, ◌*◌, ◌^◌, ◌<◌, ◌≤◌, List, refl, ap, ◌∙◌, arith}
use Rattle.shape.specs.Shape.{taken}
use Rattle.tree.proofs.Count.{level_nodes}
use Rattle.shape.specs.ShapeLaws.{child_index, node-index}
use Rattle.nodes.specs.Value.{level_values}
use Rattle.nodes.specs.BlockLaws.{child_none, block-above, value_made, length-values, child_put}
use Rattle.nodes.specs.Making.{maker_params, maker_bits}
use Rattle.bits.specs.Piece.{piece_bits}
use Rattle.bits.specs.PieceLaws.{spanned}
use Rattle.nodes.proofs.Maker.+values.Goals as goal

-- the node that is made next stands in its level, and its children in the level below
inside : (bits level index n j : ℕ) → bits < 2 ^ 64 → 1 < level → index + n ≤ level_nodes bits level → j < n
    → (index + j < 2 ^ 56) × (4 * (index + j) ≤ level_nodes bits (level - 1))
inside bits level index n j b l g h = (
  node-index bits level (index + j) b (omega arith) (omega arith),
  child_index bits level (index + j) l (omega arith),
)

pub loop-j-init : goal.loop-j-init
loop-j-init t c =
    let a = c.args in
    (child_none (level_values (maker_params a.self.now) (maker_bits a.self.now) a.level) 4 a.index, refl)

pub overflow_add-i : goal.overflow_add-i
overflow_add-i t c =
    let a = c.args in
    record { fits = omega (arith, inside a.self.now.span.bits a.level a.index a.n c.loop-j.j a.self.now.counted (omega arith) c.requires.3 (omega arith)) }

pub taken-children-requires : goal.taken-children-requires
taken-children-requires t c =
    let a = c.args in
    rw c.nodes_at-below.ensures (inside a.self.now.span.bits a.level a.index a.n c.loop-j.j a.self.now.counted (omega arith) c.requires.3 (omega arith)).1

pub overflow_mul-i : goal.overflow_mul-i
overflow_mul-i t c =
    let a = c.args in
    record { fits = omega (arith, inside a.self.now.span.bits a.level a.index a.n c.loop-j.j a.self.now.counted (omega arith) c.requires.3 (omega arith)) }

pub values-block-requires : goal.values-block-requires
values-block-requires t c =
    let a = c.args in
    let i = inside a.self.now.span.bits a.level a.index a.n c.loop-j.j a.self.now.counted (omega arith) c.requires.3 (omega arith) in (
      omega arith,
      (omega arith, omega arith, omega arith, omega (arith, i.1, c.nodes_at-below.ensures, c.taken-children.ensures)),
    )

pub loop-j-preserved : goal.loop-j-preserved
loop-j-preserved t c =
    let a = c.args in
    let j = c.loop-j.j in
    let P = maker_params a.self.now in
    let m = spanned a.self.now.message.now a.self.now.span in
    let f : ℕ → List ℕ = level_values P (piece_bits m) a.level in
    let block = c.values-block.ensures
    ∙ block-above P m a.level (a.index + j) c.taken-children.result (omega arith) a.self.now.fits
    (c.taken-children.ensures ∙ ap (λ (n : ℕ). taken 4 n (a.index + j)) c.nodes_at-below.ensures) in
    let value : c.one_value-one.result ≡ f (a.index + j) = c.one_value-one.ensures
    ∙ value_made P m a.level (a.index + j) 0 c.values-block.result c.requires.0 a.self.now.fits block in (
      c.copy.ensures
          ∙ child_put f 4 a.index j c.loop-j.words c.one_value-one.result
          (length-values P (piece_bits m) a.level c.requires.0)
          (omega arith) c.loop-j.invariant.0 value,
      c.copy.auto.dst ∙ c.loop-j.invariant.1,
    )
