-- Examples: the rows of document 01, "Reels by hand", that are marked *: one table and one theorem, by computing; and the report's
-- first example (C.1), which has 5 rounds.
-- "r = 0 gives C = the last 16 words of B. Message all ones, L = 64 unless named, d = 8 unless named."
use Rattle.std.specs.Prelude.{◌≡◌, refl, true, false, ℕ, ◌-◌, ◌^◌, length, replicate, get_or}
use mathlib.Core.List.{List, [], ◌∷◌, map}
use Rattle.bits.specs.Bits.{bits_of, numbers}
use Rattle.constants.specs.Constants.{S, next_s}
use Rattle.compress.specs.Compress.{stepped, word, grown, compressed}
use Rattle.tree.specs.Tree.{Params, Mark, most_rounds, node_v, key_words, output, no_chain, no_node, digest, order}
use Rattle.tree.specs.Sizes.{tree_nodes}

-- a row: bits, d and L; nodes and digest; and each U or V that the row names, with the node's place in the order
pub record Row : Type 0 where
  pub bits : ℕ
  pub d : ℕ
  pub limit : ℕ
  pub nodes : ℕ
  pub digest : List ℕ
  pub us : List (ℕ × ℕ)
  pub vs : List (ℕ × ℕ)

abbrev pub rows : List Row
rows =
    record { bits = 0; d = 8; limit = 64; nodes = 1; digest = 0x00 ∷ []; us = []; vs = [] }
    ∷ record { bits = 4096; d = 8; limit = 64; nodes = 1; digest = 0xff ∷ []; us = []; vs = (0, 0x0000401000000008) ∷ [] }
    ∷ record { bits = 4097; d = 8; limit = 64; nodes = 3; digest = 0x00 ∷ []; us = []; vs = (1, 0x00004000fff00008) ∷ (2, 0x0000401080000008) ∷ [] }
    ∷ record { bits = 16384; d = 8; limit = 64; nodes = 5; digest = 0xff ∷ []; us = []; vs = [] }
    ∷ record { bits = 16384; d = 9; limit = 64; nodes = 5; digest = 0xff ∷ 0x80 ∷ []; us = []; vs = [] }
    ∷ record { bits = 16385; d = 8; limit = 64; nodes = 8; digest = 0x00 ∷ []; us = (7, 0x0300000000000000) ∷ []; vs = [] }
    ∷ record { bits = 0; d = 8; limit = 0; nodes = 1; digest = 0x00 ∷ []; us = []; vs = (0, 0x00000010c0000008) ∷ [] }
    ∷ record { bits = 3073; d = 8; limit = 0; nodes = 2; digest = 0x00 ∷ []; us = []; vs = [] }
    ∷ record { bits = 12288; d = 8; limit = 1; nodes = 4; digest = 0xff ∷ []; us = (3, 0x0200000000000000) ∷ []; vs = [] }
    ∷ record { bits = 12289; d = 8; limit = 1; nodes = 6; digest = 0x00 ∷ []; us = []; vs = [] }
    ∷ []

abbrev params : Row → Params
params w = record { key = []; d = w.d; limit = w.limit; rounds = 0 }

abbrev listed : Row → List Mark
listed w = order (params w) (replicate w.bits true)

abbrev at : Row → ℕ × ℕ → Mark
at w q = get_or (listed w) q.0 (record { node = no_node; reaches = false })

-- what the definitions give for a row's bits, d and L, at the places that it names
abbrev pub computed : Row → Row
computed w = record {
  bits = w.bits;
  d = w.d;
  limit = w.limit;
  nodes = length (listed w);
  digest = digest (params w) (replicate w.bits true);
  us = map (λ (q : ℕ × ℕ). (q.0, (at w q).node.u)) w.us;
  vs = map (λ (q : ℕ × ℕ). (q.0, (at w q).node.v)) w.vs;
}

pub rows-hold : map computed rows ≡ rows
unfolding numbers key_words output no_chain compressed grown mathlib.Core.List.flatten
rows-hold = refl

-- the report, C.1: the message "abc", d = 256, r = 5
pub first-example : digest (record { key = []; d = 256; limit = 64; rounds = 5 }) (bits_of 8 (0x61 ∷ 0x62 ∷ 0x63 ∷ []))
    ≡ numbers 8 32 (bits_of 64 (0x8854c14dc284f840 ∷ 0xed71ad7ba542855c ∷ 0xe189633e48c797a5 ∷ 0x5121a746be48cec8 ∷ []))
unfolding numbers key_words output compressed grown word stepped S next_s
first-example = refl

-- M-108: "V has twelve bits for them": V of that example's node (r = 005), and with the most rounds
pub most-rounds : map (λ (r : ℕ). node_v (record { key = []; d = 256; limit = 64; rounds = r }) 1 4072) (5 ∷ most_rounds ∷ [])
    ≡ 0x00054010fe800100 ∷ 0x0fff4010fe800100 ∷ []
most-rounds = refl

-- the formula at edges, up to the longest message: limit, bits and nodes
abbrev pub edges : List (ℕ × ℕ × ℕ)
edges =
    (64, 0, 1) ∷ (64, 4096, 1) ∷ (64, 4097, 3) ∷ (64, 16384, 5) ∷ (64, 16385, 8) ∷ (0, 0, 1) ∷ (0, 3072, 1) ∷ (0, 3073, 2) ∷ (1, 4096, 1)
    ∷ (1, 12288, 4) ∷ (1, 12289, 6) ∷ (2, 16384, 5) ∷ (64, 2 ^ 64 - 1, 6004799503160661) ∷ (27, 2 ^ 64 - 1, 6004799503160661)
    ∷ (26, 2 ^ 64 - 1, 6004799503160662) ∷ (1, 2 ^ 64 - 1, 6004799503160662) ∷ (0, 2 ^ 64 - 1, 6004799503160662) ∷ []

pub edges-hold : map (λ (e : ℕ × ℕ × ℕ). tree_nodes e.0 e.1) edges ≡ map (λ (e : ℕ × ℕ × ℕ). e.2) edges
edges-hold = refl
