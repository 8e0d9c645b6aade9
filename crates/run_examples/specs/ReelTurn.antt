-- Examples: previews and a close, document 02, M-106, by computing: a run at reel turn, and a preview before and after every piece of the
-- reels of `calls/StreamExamples`. "r = 0 gives C = the last 16 words of B."
use Rattle.std.specs.Prelude.{◌≡◌, refl, true, Some, ℕ, ◌+◌, take, replicate}
use Rattle.std.proofs.Common.{sym, ◌∙◌, arith}
use mathlib.Core.List.{List, [], ◌∷◌, ◌++◌, map}
use Rattle.bits.specs.Bits.{bits_of, numbers}
use Rattle.bits.specs.Piece.{Piece, piece_of}
use Rattle.compress.specs.Compress.{grown, compressed}
use Rattle.tree.specs.Tree.{Params, key_words, output, no_chain, digest, digest_bytes, out_words}
use Rattle.calls.specs.Area.{params_of, levels_of, with_levels, empty_level, empty_levels, sound}
use Rattle.calls.specs.Calls.{AreaLog, with_bit, receive, feed_bit, feed_bits, last_above, last_nodes, open_number, opened_area, open_of, fed_bits, feed_number, fed_area, feed_of, last_nodes_of, ended_area, digest_out, preview_number, preview_of, close_number, close_of}
use Rattle.calls.proofs.StreamExamples.{Row, rows, params, spare, ones}
use Rattle.runs.specs.Runs.{feed, preview, close, unless, outcome_of, role_of, Run, Answered, answered, answers_of, Share, share_of, joined_shares, shares}
use Rattle.runs.specs.Statements.{pieces_in}
use Rattle.run_examples.specs.RunTest.{lent, goes_if, used, Example, computed, expected, run_of, Gives, gives}
use Rattle.lists.specs.Below.{none as nil}

-- ---- a run: feed, preview, feed, a close with the old figure, preview, close, preview

-- two blocks of 3,072 bits at L = 0, and d = 12: the digest is the last 12 bits so far, a5a5a5 and then 3c3c3c
abbrev block1 : List ℕ
block1 = replicate 384 0xa5

abbrev block2 : List ℕ
block2 = replicate 384 0x3c

-- a log, and an output
abbrev nines : List ℕ
nines = 9 ∷ 9 ∷ 9 ∷ []

abbrev figure1 : List ℕ
figure1 = 0x5a ∷ 0x50 ∷ []

abbrev figure2 : List ℕ
figure2 = 0xc3 ∷ 0xc0 ∷ []

-- the second feed makes the first node, and the close the second, the root, with z = 1. The run's digest is the close's figure.
-- V: r 000, L 00, z 0 or 1, p 0000, key bytes 00, d 00c
abbrev pub reel_share : Share
reel_share = record {
  bits = bits_of 8 (block1 ++ block2);
  log = 0x0100000000000000 ∷ 0x000000000000000c ∷ 0x0100000000000001 ∷ 0x000000100000000c ∷ [];
  count = 2;
  output = Some figure2;
}

abbrev pub reel_counts : List ℕ
reel_counts = 0 ∷ 0 ∷ 1 ∷ 0 ∷ 0 ∷ 1 ∷ 0 ∷ []

abbrev pub reel_pieces : List Piece
reel_pieces = piece_of block1 0 3072 ∷ piece_of block2 0 3072 ∷ []

abbrev reel_example : Example
reel_example = record {
  params = record { key = []; d = 12; limit = 0; rounds = 0 };
  list =
      (feed (piece_of block1 0 3072) nines (lent block1 refl) (omega arith) (omega arith) (lent nines refl), 0)
      ∷ (preview nines (lent nines refl), 0)
      ∷ (feed (piece_of block2 0 3072) nines (lent block2 refl) (omega arith) (omega arith) (lent nines refl), 0)
      ∷ (close figure1 nines (lent figure1 refl) (lent nines refl), 14)
      ∷ (preview nines (lent nines refl), 0)
      ∷ (close figure2 nines (lent figure2 refl) (lent nines refl), 0)
      ∷ (preview nines (lent nines refl), 10)
      ∷ [];
  counts = reel_counts;
  pieces = reel_pieces;
  share = reel_share;
}

-- what the calls left in the outputs lent to them: the two figures, the output's third byte as it was; a refused preview writes nothing
abbrev outputs_in : List Answered → List (List ℕ)
outputs_in = map (λ (a : Answered). a.outcome.output)

abbrev reel_answers : List Answered
reel_answers = answered (open_of used reel_example.params).area (map (λ x. x.0) reel_example.list)

abbrev pub reel_outputs : List (List ℕ)
reel_outputs = [] ∷ (0x5a ∷ 0x50 ∷ 9 ∷ []) ∷ [] ∷ [] ∷ (0xc3 ∷ 0xc0 ∷ 9 ∷ []) ∷ [] ∷ (9 ∷ 9 ∷ 9 ∷ []) ∷ []

reel_computed : (computed reel_example ≡ expected reel_example) × (outputs_in reel_answers ≡ reel_outputs)
unfolding pieces_in numbers key_words output no_chain compressed grown params_of levels_of with_levels empty_level empty_levels sound with_bit out_words receive feed_bit feed_bits last_above last_nodes open_number opened_area open_of fed_bits feed_number fed_area feed_of last_nodes_of ended_area digest_out preview_number preview_of close_number close_of outcome_of role_of goes_if answered share_of joined_shares shares mathlib.Core.List.flatten
reel_computed = (refl, refl)

pub reel_run : Run
reel_run = run_of reel_example nil reel_computed.0

pub reel_run_lem : Gives reel_run (0 ∷ 0 ∷ 0 ∷ 14 ∷ 0 ∷ 0 ∷ 10 ∷ []) reel_counts reel_pieces reel_share
unfolding reel_run
reel_run_lem = gives reel_example nil reel_computed.0

pub reel_outputs_lem : map (λ (a : Answered). a.outcome.output) (answers_of reel_run) ≡ reel_outputs
unfolding reel_run run_of
reel_outputs_lem = reel_computed.1

-- ---- a preview before and after every piece of reels by hand

-- an output that holds no digest of these reels
abbrev unwritten : List ℕ
unwritten = replicate 54 9

-- what a preview writes before each piece and after the last; nothing more after a feed that is refused
abbrev previews : ℕ → List ℕ → List ℕ → List (List ℕ)
previews bytes area [] = take bytes (preview_of area unwritten).digest ∷ []
previews bytes area (n ∷ ns) =
    let f : AreaLog = feed_of area (ones n) spare in
    take bytes (preview_of area unwritten).digest ∷ unless f.number [] (previews bytes f.area ns)

-- the digest of the message so far, by the tree
abbrev digests : Params → ℕ → List ℕ → List (List ℕ)
digests P T [] = digest P (replicate T true) ∷ []
digests P T (n ∷ ns) = digest P (replicate T true) ∷ digests P (T + n) ns

-- by hand: 4,095 ones and a zero of padding end with fe, a full block with ff, and a block with more padding with 00
abbrev by_hand : List (List (List ℕ))
by_hand =
    ((0x00 ∷ []) ∷ [])
    ∷ ((0x00 ∷ []) ∷ (0xfe ∷ []) ∷ (0xff ∷ []) ∷ [])
    ∷ ((0x00 ∷ []) ∷ (0xff ∷ []) ∷ (0x00 ∷ []) ∷ [])
    ∷ ((0x00 ∷ []) ∷ (0x00 ∷ []) ∷ (0x00 ∷ []) ∷ (0x00 ∷ []) ∷ [])
    ∷ ((0x00 ∷ []) ∷ (0xff ∷ []) ∷ (0x00 ∷ []) ∷ [])
    ∷ []

tree-digests : map (λ (w : Row). digests (params w) 0 w.pieces) rows ≡ by_hand
unfolding numbers key_words output no_chain compressed grown mathlib.Core.List.flatten
tree-digests = refl

stream_previews : map (λ (w : Row). previews (digest_bytes w.d) (open_of used (params w)).area w.pieces) rows ≡ by_hand
unfolding numbers key_words output no_chain compressed grown params_of levels_of with_levels empty_level empty_levels sound with_bit out_words receive feed_bit feed_bits last_above last_nodes open_number opened_area open_of fed_bits feed_number fed_area feed_of last_nodes_of digest_out preview_number preview_of mathlib.Core.List.flatten
stream_previews = refl

pub previews-hold : map (λ (w : Row). previews (digest_bytes w.d) (open_of used (params w)).area w.pieces) rows
    ≡ map (λ (w : Row). digests (params w) 0 w.pieces) rows
previews-hold = stream_previews ∙ sym tree-digests
