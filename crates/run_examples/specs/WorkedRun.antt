-- Examples: a run worked out by computing: an open of an area with something in it, feeds cut inside bytes, refused calls among them, a
-- suspension into another area, log words told, an end, and calls after it. "r = 0 gives C = the last 16 words of B."
use Rattle.std.specs.Prelude.{◌≡◌, refl, Some, ℕ, ◌+◌, ◌-◌, ◌*◌, ◌^◌, replicate}
use Rattle.std.proofs.Common.{sym, subst, arith}
use mathlib.Core.List.{List, [], ◌∷◌, ◌++◌}
use Rattle.bits.specs.Bits.{bits_of, numbers}
use Rattle.bits.specs.Piece.{Piece, piece_of}
use Rattle.compress.specs.Compress.{grown, compressed}
use Rattle.tree.specs.Tree.{key_words, output, no_chain, out_words}
use Rattle.calls.specs.Area.{params_of, levels_of, with_levels, empty_level, empty_levels, sound}
use Rattle.calls.specs.Calls.{with_bit, receive, feed_bit, feed_bits, last_above, last_nodes, open_number, opened_area, open_of, fed_bits, feed_number, fed_area, feed_of, last_nodes_of, end_number, ended_area, digest_out, end_of, shown, level_of, log_words_number, log_words_of}
use Rattle.digits.specs.Digits.{hex_digits, spelt_words}
use Rattle.texts.specs.Text.{text_with, spelt_head, spelt_area, write_number, write_of, readable_with, readable, read_area, read_number, read_of}
use Rattle.runs.specs.Runs.{Bytes, Share, feed, end, show, log_words, write, read, read_into, reopen, outcome_of, role_of, Run, answered, share_of, joined_shares, shares}
use Rattle.runs.specs.Statements.{pieces_in, pieces_of, CutFrom, uncut, cut}
use Rattle.run_examples.specs.RunTest.{lent, goes_if, used, other, zeros, Example, computed, expected, run_of, Gives, gives}
use Rattle.lists.specs.Below.{none as nil}

-- ---- what is lent

-- the text after 13 bits: line 1, line 2, and level 1, which has no sequential output and holds 1010 0101 1010 0
abbrev head : List ℕ
head = 48 ∷ 49 ∷ 48 ∷ 48 ∷ 48 ∷ 48 ∷ 48 ∷ 48 ∷ 48 ∷ 49 ∷ 48 ∷ 48 ∷ 48 ∷ 99 ∷ (zeros 15 ++ (100 ∷ (zeros 16 ++ (10 ∷ []))))

abbrev line2 : List ℕ
line2 = 54 ∷ 98 ∷ (zeros 126 ++ (10 ∷ []))

abbrev suspended_text : List ℕ
suspended_text = head ++ (line2 ++ (48 ∷ 49 ∷ (zeros 256 ++ (97 ∷ 53 ∷ 97 ∷ (zeros (13 + 47 * 16) ++ (10 ∷ []))))))

-- and the text after the end
abbrev ended_text : List ℕ
ended_text = 48 ∷ 50 ∷ 48 ∷ 48 ∷ 48 ∷ 48 ∷ 48 ∷ 48 ∷ 48 ∷ 49 ∷ 48 ∷ 48 ∷ 48 ∷ 99 ∷ (zeros 12 ++ (49 ∷ 56 ∷ 48 ∷ 48 ∷ (zeros 15 ++ (50 ∷ 10 ∷ line2))))

-- a message of 768 bytes, and two pieces of it that share a byte: the first ends after 5 of its bits, and the second begins there
abbrev whole : List ℕ
whole = 165 ∷ 165 ∷ replicate 766 60

abbrev piece1 : List ℕ
piece1 = 165 ∷ 165 ∷ []

abbrev piece2 : List ℕ
piece2 = 165 ∷ replicate 766 60

-- ---- the run

-- the message of the run is the bits of the bytes, each once; the log is U and V of two nodes, the second of them the root: 6,144
-- bits at L = 0; the digest is the message's last 12 bits, 1100 0011 1100, and the output's third byte stays
abbrev pub worked_share : Share
worked_share = record {
  bits = bits_of 8 whole;
  log = 0x0100000000000000 ∷ 0x000000000000100c ∷ 0x0100000000000001 ∷ 0x000000100000100c ∷ [];
  count = 2;
  output = Some (0xc3 ∷ 0xc0 ∷ 3 ∷ []);
}

-- of the writes the counts are the text's bytes; two words are told for the 6,131 bits, which then make one node
abbrev pub worked_counts : List ℕ
worked_counts = 0 ∷ 0 ∷ 0 ∷ 0 ∷ 0 ∷ 1203 ∷ 0 ∷ 0 ∷ 0 ∷ 0 ∷ 0 ∷ 2 ∷ 1 ∷ 0 ∷ 1 ∷ 0 ∷ 0 ∷ 0 ∷ 176 ∷ 0 ∷ []

abbrev pub worked_pieces : List Piece
worked_pieces = piece_of piece1 0 13 ∷ piece_of piece2 5 6131 ∷ []

-- each call with its number; a level shown has none and counts as accepted
abbrev worked_example : Example
worked_example = record {
  params = record { key = 107 ∷ []; d = 12; limit = 0; rounds = 0 };
  list =
      (feed (piece_of piece1 4 13) [] (lent piece1 refl) (omega arith) (omega arith) nil, 5)
      ∷ (feed (piece_of piece1 8 0) [] (lent piece1 refl) (omega arith) (omega arith) nil, 5)
      ∷ (feed (piece_of piece1 0 13) (9 ∷ []) (lent piece1 refl) (omega arith) (omega arith) (lent (9 ∷ []) refl), 0)
      ∷ (reopen (record { key = []; d = 0; limit = 0; rounds = 0 }) nil, 1)
      ∷ (write (replicate 1200 0) (lent (replicate 1200 0) refl), 9)
      ∷ (write (replicate 1210 0) (lent (replicate 1210 0) refl), 0)
      ∷ (show 1, 0)
      ∷ (end [] [] nil nil, 9)
      ∷ (log_words (2 ^ 64 - 1) (omega arith), 6)
      ∷ (read_into used (10 ∷ suspended_text) (lent used refl) (lent (10 ∷ suspended_text) refl), 11)
      ∷ (read_into other suspended_text (lent other refl) (lent suspended_text refl), 0)
      ∷ (log_words 6131 (omega arith), 0)
      ∷ (feed (piece_of piece2 5 6131) (9 ∷ 9 ∷ 9 ∷ []) (lent piece2 refl) (omega arith) (omega arith) (lent (9 ∷ 9 ∷ 9 ∷ []) refl), 0)
      ∷ (end (1 ∷ 2 ∷ []) (9 ∷ []) (lent (1 ∷ 2 ∷ []) refl) (lent (9 ∷ []) refl), 8)
      ∷ (end (1 ∷ 2 ∷ 3 ∷ []) (9 ∷ 9 ∷ 9 ∷ []) (lent (1 ∷ 2 ∷ 3 ∷ []) refl) (lent (9 ∷ 9 ∷ 9 ∷ []) refl), 0)
      ∷ (feed (piece_of piece1 8 13) [] (lent piece1 refl) (omega arith) (omega arith) nil, 10)
      ∷ (log_words 13 (omega arith), 10)
      ∷ (end (1 ∷ 2 ∷ 3 ∷ []) (9 ∷ 9 ∷ []) (lent (1 ∷ 2 ∷ 3 ∷ []) refl) (lent (9 ∷ 9 ∷ []) refl), 10)
      ∷ (write (replicate 176 0) (lent (replicate 176 0) refl), 0)
      ∷ (read ended_text (lent ended_text refl), 0)
      ∷ [];
  counts = worked_counts;
  pieces = worked_pieces;
  share = worked_share;
}

works : computed worked_example ≡ expected worked_example
unfolding pieces_in numbers key_words output no_chain compressed grown params_of levels_of with_levels empty_level empty_levels sound with_bit out_words receive feed_bit feed_bits last_above last_nodes open_number opened_area open_of fed_bits feed_number fed_area feed_of last_nodes_of end_number ended_area digest_out end_of shown level_of log_words_number log_words_of hex_digits text_with spelt_words spelt_head spelt_area write_number write_of readable_with readable read_area read_number read_of outcome_of role_of goes_if answered share_of joined_shares shares mathlib.Core.List.flatten
works = refl

-- ---- what it gives

key-bytes : Bytes (107 ∷ [])
key-bytes = lent (107 ∷ []) refl

pub worked_run : Run
worked_run = run_of worked_example key-bytes works

pub worked : Gives worked_run (5 ∷ 5 ∷ 0 ∷ 1 ∷ 9 ∷ 0 ∷ 0 ∷ 9 ∷ 6 ∷ 11 ∷ 0 ∷ 0 ∷ 0 ∷ 8 ∷ 0 ∷ 10 ∷ 10 ∷ 10 ∷ 0 ∷ 0 ∷ []) worked_counts worked_pieces worked_share
unfolding worked_run
worked = gives worked_example key-bytes works

-- its pieces are the message's 6,144 bits as one piece, cut after 13 of them, inside the second byte
pub worked_cut : CutFrom (piece_of whole 0 6144 ∷ []) (pieces_of worked_run)
worked_cut = subst (CutFrom (piece_of whole 0 6144 ∷ [])) (sym worked.pieces) (cut [] (piece_of whole 0 6144) [] 13 (omega arith) uncut)
