-- Laws: of the code that fills blocks with message bits, a leaf's of 64 words and a sequential one's of 48.
use Rattle.std.specs.Prelude.{◌≡◌, refl, List, [], ℕ, ◌+◌, ◌*◌, ◌<◌, length, replicate}
use Rattle.std.proofs.Common.{◌∙◌, append-nil, arith}
use Rattle.std.proofs.Math.Seq.{paste}
use Rattle.bits.specs.Bits.{filled}
use Rattle.bits.specs.Piece.{Piece, piece_bits}
use Rattle.bits.specs.PieceLaws.{Fits}
use Rattle.tree.specs.Tree.{words, block_bits, sequential_bits}
use Rattle.tree.proofs.Count.{level_nodes}
use Rattle.node.specs.Words.{Ready}
use Rattle.node.specs.declared.Keyed.{Keyed}
use Rattle.node.specs.NodeLaws.{paste-at}
use Rattle.shape.specs.Shape.{taken, sequential_nodes}
use Rattle.shape.specs.ShapeLaws.{leaf-index, message-index}
use Rattle.nodes.specs.Value.{message_part}
use Rattle.nodes.specs.BlockLaws.{filled-part}

-- what the code that works out values is given: what every node needs, and a message that has its bits
pub record Given (message : Piece) (keyed : Keyed) (constants : List ℕ) : Type 0 where
  pub ready : Ready keyed constants
  pub enough : Fits message

pub leaf-filled : (m : Piece) (index n : ℕ) → Fits m → index < level_nodes m.count 1 → n ≡ taken block_bits m.count index
    → filled (replicate 64 0) 0 m.bytes (8 * (512 * index) + m.start) n ≡ words 64 (message_part block_bits (piece_bits m) index)
leaf-filled m index n g i en =
    filled-part m 64 block_bits index (8 * (512 * index) + m.start) n refl (leaf-index m.count index i) g (omega arith) en

pub message-filled : (m : Piece) (index n : ℕ) → Fits m → index < sequential_nodes 0 m.count → n ≡ taken sequential_bits m.count index
    → filled (replicate 48 0) 0 m.bytes (8 * (384 * index) + m.start) n ≡ words 48 (message_part sequential_bits (piece_bits m) index)
message-filled m index n g i en =
    filled-part m 48 sequential_bits index (8 * (384 * index) + m.start) n refl (message-index m.count index i) g (omega arith) en

-- 48 words, written to as many
pub rest-made : (rest : List ℕ) → length rest ≡ 48 → paste (replicate 48 0) 0 rest (length rest) ≡ rest
rest-made rest l = paste-at [] rest (replicate 48 0) 0 (length rest) refl refl ∙ rw l (append-nil rest)
