-- Laws: the words of a node's output, and the log of nodes.
use Rattle.std.specs.Prelude.{◌≡◌, refl, List, [], ◌∷◌, ◌++◌, ℕ, ◌*◌, ◌≤◌, length, take, drop}
use Rattle.std.proofs.Common.{ap, ◌∙◌, arith, length-append, length-drop, take_at, take_all}
use Rattle.bits.specs.Bits.{bits_of}
use Rattle.bits.specs.BitsLaws.{length-numbers, bits_of-numbers}
use Rattle.tree.specs.Tree.{Params, Node, output, output_bits, out_words, node_log, logged}

-- ---- the words of an output

pub length-out_words : (P : Params) (m : Node) → length (out_words P m) ≡ 16
unfolding out_words
length-out_words P m = length-numbers 64 16 (output P.rounds m)

-- their bits are the output
pub words-bits : (P : Params) (m : Node) → length (output P.rounds m) ≡ output_bits → bits_of 64 (out_words P m) ≡ output P.rounds m
unfolding out_words
words-bits P m h =
    bits_of-numbers 64 16 (output P.rounds m) (omega arith) ∙ take_all output_bits (output P.rounds m) (omega arith)

-- ---- the log

pub length-node_log : (nodes : List Node) → length (node_log nodes) ≡ 2 * length nodes
length-node_log [] = refl
length-node_log (m ∷ nodes) = omega (arith, length-node_log nodes)

pub node_log-append : (xs ys : List Node) → node_log (xs ++ ys) ≡ node_log xs ++ node_log ys
node_log-append [] ys = refl
node_log-append (x ∷ xs) ys = ap (λ (l : List ℕ). x.u ∷ x.v ∷ l) (node_log-append xs ys)

-- the words of the log that a call wrote
pub logged-front : (nodes : List Node) (log : List ℕ) → take (2 * length nodes) (logged nodes log) ≡ node_log nodes
logged-front nodes log = take_at (node_log nodes) (drop (2 * length nodes) log) (2 * length nodes) (length-node_log nodes)

pub length-logged : (nodes : List Node) (log : List ℕ) → 2 * length nodes ≤ length log → length (logged nodes log) ≡ length log
length-logged nodes log h = simp (length-append, length-drop) (omega (arith, length-node_log nodes))
