-- Examples: the numbers of the call that works layer by layer, and their order, by computing. Each number alone, and each two that follow
-- each other in the order, of which the first is answered; then edges of each parameter, of start bits, and of words and log.
use Rattle.std.specs.Prelude.{◌≡◌, refl, List, [], ◌∷◌, ◌++◌, map, ℕ, ◌-◌, ◌*◌, ◌^◌, ltb, length, replicate}
use Rattle.lists.specs.Append.{cons_eq}
use Rattle.bits.specs.Piece.{Piece, piece_of, piece_bits}
use Rattle.tree.specs.Tree.{Params}
use Rattle.tree.specs.Sizes.{tree_nodes}
use Rattle.refusals.specs.Refusals.{first_refusal, Told}
use Rattle.hash.specs.Hash.{hash_tests}
use Rattle.layers.specs.Layers.{layers_number, first_nodes, layer_words_of, layer_log_words_of}
use Rattle.layers.proofs.LayerLaws.{first-level, layer_nodes_lem}

-- ---- the calls

-- what is given, and how many words, words of log and bytes of output are lent
pub record Call : Type 0 where
  pub message : Piece
  pub params : Params
  pub words : ℕ
  pub log : ℕ
  pub out : ℕ

abbrev call : Piece → Params → ℕ → ℕ → ℕ → Call
call message P words log out = record { message = message; params = P; words = words; log = log; out = out }

-- what stands in them does not matter
abbrev lent : ℕ → List ℕ
lent n = replicate n 7

-- the number that it answers
abbrev pub number_of : Call → ℕ
number_of c = layers_number c.message c.params (lent c.words) (lent c.log) (lent c.out)

-- a call, and the number of the documents
abbrev pub Row : Type 0
Row = Call × ℕ

-- d, the key's bytes, L and r
abbrev params : ℕ → ℕ → ℕ → ℕ → Params
params d key_bytes limit rounds = record { key = replicate key_bytes 1; d = d; limit = limit; rounds = rounds }

-- a message of eight bits: one node, which needs 16 words and 2 of log
abbrev byte : Piece
byte = piece_of (0 ∷ []) 0 8

-- so many bits, given in so many bytes
abbrev zeros : ℕ → ℕ → Piece
zeros bytes bits = piece_of (replicate bytes 0) 0 bits

-- ---- the rows

-- document 02, M-100: "Numbers 7 (too few words) and 8 follow the whole-message checks": 5, 1, 2, 3, 4, 9, 7, 8
abbrev order_rows : List Row
order_rows =
    (call (zeros 1 9) (params 8 0 64 0) 16 2 1, 5)
    ∷ (call (zeros 1 9) (params 0 0 64 0) 16 2 1, 5)
    ∷ (call byte (params 0 0 64 0) 16 2 1, 1)
    ∷ (call byte (params 0 65 64 0) 16 2 1, 1)
    ∷ (call byte (params 8 65 64 0) 16 2 1, 2)
    ∷ (call byte (params 8 65 65 0) 16 2 1, 2)
    ∷ (call byte (params 8 0 65 0) 16 2 1, 3)
    ∷ (call byte (params 8 0 65 4096) 16 2 1, 3)
    ∷ (call byte (params 8 0 64 4096) 16 2 1, 4)
    ∷ (call byte (params 8 0 64 4096) 16 2 0, 4)
    ∷ (call byte (params 8 0 64 0) 16 2 0, 9)
    ∷ (call byte (params 8 0 64 0) 15 2 0, 9)
    ∷ (call byte (params 8 0 64 0) 15 2 1, 7)
    ∷ (call byte (params 8 0 64 0) 15 1 1, 7)
    ∷ (call byte (params 8 0 64 0) 16 1 1, 8)
    ∷ (call byte (params 8 0 64 0) 16 2 1, 0)
    ∷ []

-- all at once and nothing lent; then fewer faults row by row, each parameter at its highest; last d, key and r at their lowest
abbrev all_rows : List Row
all_rows =
    (call (zeros 1 9) (params 513 65 65 4096) 0 0 0, 5)
    ∷ (call byte (params 513 65 65 4096) 0 0 0, 1)
    ∷ (call byte (params 512 65 65 4096) 0 0 0, 2)
    ∷ (call byte (params 512 64 65 4096) 0 0 0, 3)
    ∷ (call byte (params 512 64 64 4096) 0 0 0, 4)
    ∷ (call byte (params 512 64 64 4095) 0 0 0, 9)
    ∷ (call byte (params 512 64 64 4095) 0 0 63, 9)
    ∷ (call byte (params 512 64 64 4095) 0 0 64, 7)
    ∷ (call byte (params 512 64 64 4095) 16 0 64, 8)
    ∷ (call byte (params 512 64 64 4095) 16 2 64, 0)
    ∷ (call byte (params 1 0 64 0) 16 2 1, 0)
    ∷ []

-- M-104: a start bit above 7; start and count together
abbrev start_rows : List Row
start_rows =
    (call (piece_of (0 ∷ []) 8 0) (params 8 0 64 0) 16 2 1, 5)
    ∷ (call (piece_of (0 ∷ []) 3 6) (params 8 0 64 0) 16 2 1, 5)
    ∷ (call (piece_of (0 ∷ []) 3 5) (params 8 0 64 0) 16 2 1, 0)
    ∷ (call (piece_of (0 ∷ []) 1 (2 ^ 64 - 1)) (params 8 0 64 0) 16 2 1, 5)
    ∷ (call (piece_of [] 3 0) (params 8 0 64 0) 16 2 1, 5)
    ∷ []

-- words and log, just enough and one fewer
abbrev lent_rows : List Row
lent_rows =
    -- the empty message has one node
    (call (zeros 0 0) (params 8 0 64 0) 16 2 1, 0)
    ∷ (call (zeros 0 0) (params 8 0 64 0) 15 2 1, 7)
    ∷ (call (zeros 0 0) (params 8 0 64 0) 16 1 1, 8)
    ∷ (call (zeros 0 0) (params 8 0 0 0) 16 2 1, 0)
    ∷ (call (zeros 0 0) (params 8 0 0 0) 15 2 1, 7)
    ∷ (call (zeros 0 0) (params 8 0 0 0) 16 1 1, 8)
    -- L = 0: 3,072 bits, one node; 3,073 bits, two
    ∷ (call (zeros 384 3072) (params 8 0 0 0) 16 2 1, 0)
    ∷ (call (zeros 385 3073) (params 8 0 0 0) 32 4 1, 0)
    ∷ (call (zeros 385 3073) (params 8 0 0 0) 31 4 1, 7)
    ∷ (call (zeros 385 3073) (params 8 0 0 0) 32 3 1, 8)
    -- 4,096 bits, one node; 4,097 bits, two and the root
    ∷ (call (zeros 512 4096) (params 8 0 64 0) 16 2 1, 0)
    ∷ (call (zeros 513 4097) (params 8 0 64 0) 32 6 1, 0)
    ∷ (call (zeros 513 4097) (params 8 0 64 0) 31 6 1, 7)
    ∷ (call (zeros 513 4097) (params 8 0 64 0) 32 5 1, 8)
    -- 16,385 bits: five, two and the root
    ∷ (call (zeros 2049 16385) (params 8 0 64 0) 80 16 1, 0)
    ∷ (call (zeros 2049 16385) (params 8 0 64 0) 79 16 1, 7)
    ∷ (call (zeros 2049 16385) (params 8 0 64 0) 80 15 1, 8)
    -- L = 1: 12,288 bits, three nodes and one over them; 12,289 bits, four and two
    ∷ (call (zeros 1536 12288) (params 8 0 1 0) 48 8 1, 0)
    ∷ (call (zeros 1536 12288) (params 8 0 1 0) 47 8 1, 7)
    ∷ (call (zeros 1536 12288) (params 8 0 1 0) 48 7 1, 8)
    ∷ (call (zeros 1537 12289) (params 8 0 1 0) 64 12 1, 0)
    ∷ (call (zeros 1537 12289) (params 8 0 1 0) 63 12 1, 7)
    ∷ (call (zeros 1537 12289) (params 8 0 1 0) 64 11 1, 8)
    ∷ []

abbrev pub rows : List Row
rows = order_rows ++ (all_rows ++ (start_rows ++ lent_rows))

-- ---- computed

-- the numbers of nodes, on which the last two tests go, come from the message's length (LayerLaws), so that no node is compressed
abbrev by_length : Call → ℕ
by_length c =
    let m : ℕ = length (piece_bits c.message) in
    let L : ℕ = c.params.limit in
    first_refusal (hash_tests c.message c.params (lent c.out)
    ++ ((ltb (length (lent c.words)) (16 * first_nodes L m), 7) ∷ (ltb (length (lent c.log)) (2 * tree_nodes L m), 8) ∷ []))

number-by-length : (c : Call) → number_of c ≡ by_length c
unfolding layers_number
number-by-length c = rw (first-level c.params (piece_bits c.message), layer_nodes_lem c.params (piece_bits c.message))

pub rows-hold : map (λ (w : Row). number_of w.0) rows ≡ map (λ (w : Row). w.1) rows
rows-hold = each rows
  where
    each : (ws : List Row) → map (λ (w : Row). number_of w.0) ws ≡ map (λ (w : Row). by_length w.0) ws
    each [] = refl
    each (w ∷ ws) = cons_eq (number-by-length w.0) (each ws)

-- the two that tell, for a bit count and an L: number and count of the words, then of the words of log; "3, 0: L over 64"
abbrev pub told : ℕ → ℕ → List ℕ
told bits limit =
    let words : Told = layer_words_of bits limit in
    let log : Told = layer_log_words_of bits limit in
    words.number ∷ words.count ∷ log.number ∷ log.count ∷ []

pub layers_told : (told 0 64 ≡ 0 ∷ 16 ∷ 0 ∷ 2 ∷ [])
    × (told 3073 0 ≡ 0 ∷ 32 ∷ 0 ∷ 4 ∷ [])
    × (told 16385 64 ≡ 0 ∷ 80 ∷ 0 ∷ 16 ∷ [])
    × (told 12289 1 ≡ 0 ∷ 64 ∷ 0 ∷ 12 ∷ [])
    × (told 12289 64 ≡ 0 ∷ 64 ∷ 0 ∷ 10 ∷ [])
    × (told 8 65 ≡ 3 ∷ 0 ∷ 3 ∷ 0 ∷ [])
unfolding layer_words_of layer_log_words_of
layers_told = (refl, refl, refl, refl, refl, refl)
