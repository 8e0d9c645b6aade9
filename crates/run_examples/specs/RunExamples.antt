-- Examples: two more runs by computing. One has not ended: two writes, then a read into a short area and a feed with too short a
-- log, both refused, the read of the second text into an area just long enough, 144 words, and a node of level 2 in its log. The
-- other goes on after its end: a suspension of the ended stream into another area, and refused calls there. "r = 0 gives C = the
-- last 16 words of B."
use Rattle.std.specs.Prelude.{◌≡◌, refl, true, Some, None, ℕ, ◌-◌, take, replicate}
use mathlib.Core.List.{List, [], ◌∷◌, ◌++◌}
use Rattle.std.proofs.Common.{arith}
use Rattle.bits.specs.Bits.{numbers}
use Rattle.bits.specs.Piece.{Piece, piece_of, piece_bits}
use Rattle.compress.specs.Compress.{grown, compressed}
use Rattle.tree.specs.Tree.{key_words, output, no_chain, out_words}
use Rattle.calls.specs.Area.{area_words, params_of, levels_of, with_levels, empty_level, empty_levels, sound}
use Rattle.calls.specs.Calls.{with_bit, receive, feed_bit, feed_bits, last_above, last_nodes, open_number, opened_area, open_of, fed_bits, feed_number, fed_area, feed_of, last_nodes_of, end_number, ended_area, digest_out, end_of, shown, level_of}
use Rattle.digits.specs.Digits.{hex_digits, line, spelt_words}
use Rattle.texts.specs.Text.{text_with, spelt_head, spelt_area, write_number, write_of, readable_with, readable, read_area, read_number, read_of}
use Rattle.runs.specs.Runs.{Bytes, feed, end, show, write, read_into, outcome_of, role_of, Run, answered, Share, share_of, joined_shares, shares}
use Rattle.runs.specs.Statements.{pieces_in}
use Rattle.run_examples.specs.RunTest.{lent, goes_if, other, zeros, Example, computed, expected, run_of, Gives, gives}
use Rattle.lists.specs.Below.{none as nil}

-- ---- a run that has not ended: 12,289 bits, all ones, at L = 1

abbrev ones : ℕ → List ℕ
ones bytes = replicate bytes 255

abbrev log : ℕ → List ℕ
log words = replicate words 9

-- the text after 8,193 bits and 2 compressions: level 1 holds a bit, and level 2 two outputs behind 16 words of zeros
abbrev held_text : List ℕ
held_text =
    line (hex_digits 46 0x0100000100000800000000000020010000000000000002)
    ++ (line (zeros 128)
    ++ (line (hex_digits 3 0x018 ++ zeros 1023) ++ line (hex_digits 2 2 ++ (zeros 256 ++ (replicate 512 102 ++ zeros 256)))))

held_bytes : Bytes held_text
unfolding hex_digits
held_bytes = lent held_text refl

-- areas for L = 1: one word short, and just long enough
abbrev short : List ℕ
short = take (area_words 1 - 1) other

abbrev exact : List ℕ
exact = take (area_words 1) other

-- three nodes of level 1, and the node of level 2 that their outputs fill; the fourth of level 1 and the root reach the last bit.
-- V: r 000, L 01, z 0, p 0000, key bytes 00, d 008
abbrev pub open_share : Share
open_share = record {
  bits = replicate 12289 true;
  log =
      0x0100000000000000 ∷ 0x0000010000000008 ∷ 0x0100000000000001 ∷ 0x0000010000000008
      ∷ 0x0100000000000002 ∷ 0x0000010000000008 ∷ 0x0200000000000000 ∷ 0x0000010000000008 ∷ [];
  count = 4;
  output = None;
}

-- both writes give lines 1 and 2 and those of levels 1 and 2
abbrev pub open_counts : List ℕ
open_counts = 1 ∷ 2230 ∷ 1 ∷ 2230 ∷ 0 ∷ 0 ∷ 0 ∷ 0 ∷ 2 ∷ []

abbrev pub open_pieces : List Piece
open_pieces = piece_of (ones 626) 0 5003 ∷ piece_of (ones 399) 0 3190 ∷ piece_of (ones 512) 0 4096 ∷ []

abbrev open_example : Example
open_example = record {
  params = record { key = []; d = 8; limit = 1; rounds = 0 };
  list =
      (feed (piece_of (ones 626) 0 5003) (log 2) (lent (ones 626) refl) (omega arith) (omega arith) (lent (log 2) refl), 0)
      ∷ (write (zeros 2230) (lent (zeros 2230) refl), 0)
      ∷ (feed (piece_of (ones 399) 0 3190) (log 3) (lent (ones 399) refl) (omega arith) (omega arith) (lent (log 3) refl), 0)
      ∷ (write (zeros 2300) (lent (zeros 2300) refl), 0)
      ∷ (read_into short held_text (lent short refl) held_bytes, 7)
      ∷ (feed (piece_of (ones 512) 0 4096) (log 3) (lent (ones 512) refl) (omega arith) (omega arith) (lent (log 3) refl), 8)
      ∷ (show 2, 0)
      ∷ (read_into exact held_text (lent exact refl) held_bytes, 0)
      ∷ (feed (piece_of (ones 512) 0 4096) (log 5) (lent (ones 512) refl) (omega arith) (omega arith) (lent (log 5) refl), 0)
      ∷ [];
  counts = open_counts;
  pieces = open_pieces;
  share = open_share;
}

-- ---- a run that goes on after its end: 12,288 bits at L = 1, with a key of one byte and d = 12

abbrev pub last_bytes : List ℕ
last_bytes = 0xa5 ∷ 0xc3 ∷ []

abbrev ended_text : List ℕ
ended_text = line (hex_digits 46 0x0200000101000c00000000000030000000000000000004) ++ line (hex_digits 2 0x6b ++ zeros 126)

ended-bytes : Bytes ended_text
unfolding hex_digits
ended-bytes = lent ended_text refl

-- the first feed makes two nodes of level 1, and the end the third and the root, a sequential node of z = 1 that takes the three
-- outputs: its last 12 bits are those of the message, 0x5c3. The output's third byte stays.
-- V: r 000, L 01, z 0 or 1, p 0000, key bytes 01, d 00c
abbrev pub ended_share : Share
ended_share = record {
  bits = replicate 12272 true ++ piece_bits (piece_of last_bytes 0 16);
  log =
      0x0100000000000000 ∷ 0x000001000000100c ∷ 0x0100000000000001 ∷ 0x000001000000100c
      ∷ 0x0100000000000002 ∷ 0x000001000000100c ∷ 0x0200000000000000 ∷ 0x000001100000100c ∷ [];
  count = 4;
  output = Some (0x5c ∷ 0x30 ∷ 9 ∷ []);
}

abbrev pub ended_counts : List ℕ
ended_counts = 2 ∷ 0 ∷ 2 ∷ 176 ∷ 0 ∷ 0 ∷ 0 ∷ 0 ∷ []

abbrev pub ended_pieces : List Piece
ended_pieces = piece_of (ones 1534) 0 12272 ∷ piece_of last_bytes 0 16 ∷ []

abbrev ended_example : Example
ended_example = record {
  params = record { key = 0x6b ∷ []; d = 12; limit = 1; rounds = 0 };
  list =
      (feed (piece_of (ones 1534) 0 12272) (log 4) (lent (ones 1534) refl) (omega arith) (omega arith) (lent (log 4) refl), 0)
      ∷ (feed (piece_of last_bytes 0 16) [] (lent last_bytes refl) (omega arith) (omega arith) nil, 0)
      ∷ (end (log 3) (log 4) (lent (log 3) refl) (lent (log 4) refl), 0)
      ∷ (write (zeros 176) (lent (zeros 176) refl), 0)
      ∷ (read_into other ended_text (lent other refl) ended-bytes, 0)
      ∷ (feed (piece_of (ones 1) 0 1) (log 2) (lent (ones 1) refl) (omega arith) (omega arith) (lent (log 2) refl), 10)
      ∷ (end (log 3) (log 4) (lent (log 3) refl) (lent (log 4) refl), 10)
      ∷ (show 2, 0)
      ∷ [];
  counts = ended_counts;
  pieces = ended_pieces;
  share = ended_share;
}

-- ---- both, by computing

examples : (computed open_example ≡ expected open_example) × (computed ended_example ≡ expected ended_example)
unfolding pieces_in numbers key_words output no_chain compressed grown params_of levels_of with_levels empty_level empty_levels sound with_bit out_words receive feed_bit feed_bits last_above last_nodes open_number opened_area open_of fed_bits feed_number fed_area feed_of last_nodes_of end_number ended_area digest_out end_of shown level_of hex_digits text_with spelt_words spelt_head spelt_area write_number write_of readable_with readable read_area read_number read_of outcome_of role_of goes_if answered share_of joined_shares shares mathlib.Core.List.flatten
examples = (refl, refl)

-- ---- the runs

pub open_run : Run
open_run = run_of open_example nil examples.0

pub open_run_lem : Gives open_run (0 ∷ 0 ∷ 0 ∷ 0 ∷ 7 ∷ 8 ∷ 0 ∷ 0 ∷ 0 ∷ []) open_counts open_pieces open_share
unfolding open_run
open_run_lem = gives open_example nil examples.0

key-bytes : Bytes (0x6b ∷ [])
key-bytes = lent (0x6b ∷ []) refl

pub ended_run : Run
ended_run = run_of ended_example key-bytes examples.1

pub ended-run : Gives ended_run (0 ∷ 0 ∷ 0 ∷ 0 ∷ 0 ∷ 10 ∷ 10 ∷ 0 ∷ []) ended_counts ended_pieces ended_share
unfolding ended_run
ended-run = gives ended_example key-bytes examples.1
