-- Examples: the theorem `collision` used on two messages of 8,193 bits that differ in one bit of their second block, with r = 0 and d = 8: four nodes
-- each and one digest. The node that the proof names is computed from the proof itself.
use Rattle.std.specs.Prelude.{◌≡◌, refl, Bool, true, false, ◌≢◌, ◌⊎◌, ℕ, ◌^◌, ◌<◌, length, get_or, replicate}
use Rattle.std.proofs.Common.{ap, inl, inr, arith}
use mathlib.Core.List.{List, [], ◌∷◌, ◌++◌}
use Rattle.std.proofs.Math.Decide.{ℕ_discrete}
use Rattle.lists.specs.Below.{none}
use Rattle.bits.specs.Bits.{digit, numbers}
use Rattle.compress.specs.Compress.{grown, compressed}
use Rattle.tree.specs.Tree.{Params, Valid, key_words, output, no_chain, digest, order}
use Rattle.tree.proofs.TreeLaws.{par-sized, parallel-sized}
use Rattle.collision.specs.Clash.{RootsDiffer, Meeting}
use Rattle.collision.proofs.Nodes.{words_discrete, Node_discrete, same-outputs}
use Rattle.collision.proofs.Descent.{higher, step, descend}
use Rattle.collision.proofs.Collision.{for_equal, roots_or-clash, digests-or-clash, collision}

abbrev pub P : Params
P = record { key = []; d = 8; limit = 64; rounds = 0 }

pub valid : Valid P
valid = record { bytes = none; key_bytes = omega arith; d_low = omega arith; d_high = omega arith; limit_high = omega arith; rounds_high = omega arith }

-- all ones, but for bit 4,096 of the second message
abbrev pub message : Bool → List Bool
message b = replicate 4096 true ++ (b ∷ replicate 4096 true)

abbrev pub M : List Bool
M = message true

abbrev pub N : List Bool
N = message false

pub four-nodes : length (order P M) ≡ 4
unfolding numbers key_words output no_chain grown compressed mathlib.Core.List.flatten
four-nodes = refl

pub one-digest : digest P M ≡ digest P N
unfolding numbers key_words output no_chain grown compressed mathlib.Core.List.flatten
one-digest = refl

pub different : M ≢ N
different e = let z : ◌≡◌ {A = ℕ} 1 0 = ap (λ (bs : List Bool). digit (get_or bs 4096 true)) e in omega arith

short : (b : Bool) → length (message b) < 2 ^ 64
short b = omega arith

-- the roots have one input, so the theorem gives a node below them
pub meeting : Meeting P P M N
unfolding numbers key_words output no_chain grown compressed mathlib.Core.List.flatten
meeting = go (collision P P M N valid valid (short true) (short false) (λ h. different h.0) refl one-digest)
  where
    go : RootsDiffer P P M N ⊎ Meeting P P M N → Meeting P P M N
    go (inl h) = absurd (h.differ refl)
    go (inr m) = m

-- it is the second node of level 1, and the two blocks are these
pub clash-node : (meeting.clash.level ≡ 1) × (meeting.clash.index ≡ 1)
    × (meeting.clash.a.block ≡ replicate 64 0xffffffffffffffff) × (meeting.clash.b.block ≡ 0x7fffffffffffffff ∷ replicate 63 0xffffffffffffffff)
unfolding numbers key_words output no_chain grown compressed mathlib.Core.List.flatten
    meeting collision digests-or-clash roots_or-clash for_equal descend step higher same-outputs Node_discrete words_discrete ℕ_discrete parallel-sized par-sized
clash-node = (refl, refl, refl, refl)
