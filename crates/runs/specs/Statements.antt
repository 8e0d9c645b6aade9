-- Definitions: what is said of every run (`Demand3`, `Table`) and of two runs that both ended (`Same`), and the functions that
-- these statements use. Their theorems are `demand3`, `table`, `same_runs`, `same-cuts` and `run-collision`.
use Rattle.std.specs.Prelude.{◌≡◌, Bool, true, false, not, ◌⊎◌, Option, Some, None, List, [], ◌∷◌, ◌++◌, ℕ, ◌-◌, ◌*◌, ◌^◌, ◌≤◌, ◌<◌, length, drop}
use Rattle.bits.specs.Piece.{Piece, piece_bits, first_part, second_part}
use Rattle.tree.specs.Tree.{Params, Valid, Node, Mark, order, digest_bytes, digest, node_log}
use Rattle.refusals.specs.Refusals.{first_refusal, param_tests, output_test}
use Rattle.calls.specs.Area.{area_levels, area_words, phase_of, total_of, params_of, level_words, sound}
use Rattle.calls.specs.Calls.{short_test, total_test, open_of, feed_tests, feed_of, end_tests, end_of, preview_of, close_tests, close_of, level_of, log_words_of}
use Rattle.calls.specs.Marks.{all_nodes, settled}
use Rattle.texts.specs.Text.{text_of, write_of, readable, area_in, read_of}
use Rattle.runs.specs.Runs.{Bytes, Words, Call, feed, end, preview, close, show, log_words, write, read, read_into, reopen, unless, Run, Outcome, Answered, shares, answers_of, area_of, message_of, log_of, count_of, output_of, digest_in}

-- ---- demand 3

-- "U and V, in the order of nodes, of the nodes of its tree: all of them if an end was accepted, otherwise those that do not
-- reach the last bit": an end was accepted, or a close, which M-106 has for "the accepted end of its run", if there is an output of it
abbrev pub nodes_for : Option (List ℕ) → List Mark → List Node
nodes_for None marks = settled marks
nodes_for (Some out) marks = all_nodes marks

abbrev pub nodes_of : Run → List Node
nodes_of r = nodes_for (output_of r) (order r.params (message_of r))

-- "Word 0: 1 open, 2 ended"
abbrev pub phase_for : Option (List ℕ) → ℕ
phase_for None = 1
phase_for (Some out) = 2

pub record Demand3 (r : Run) : Type 0 where
  -- "After every run, ended or not, the log is U and V, in the order of nodes, of the nodes of its tree"
  pub log : log_of r ≡ node_log (nodes_of r)
  -- "The count is the number of these nodes."
  pub count : count_of r ≡ length (nodes_of r)
  -- M-106: the output of a preview, anywhere in a run, is the digest of the message so far, which the calls before it give; bytes past
  -- the digest stay
  pub previews : (before : List Answered) (out : List ℕ) (b : Bytes out) (o : Outcome) (after : List Answered)
      → answers_of r ≡ before ++ (record { call = preview out b; outcome = o } ∷ after) → o.number ≡ 0
      → o.output ≡ digest r.params (shares before).bits ++ drop (digest_bytes r.params.d) out
  -- "and the given figure is the run's digest": an accepted close was given the digest of the message so far, length included
  pub closes : (before : List Answered) (figure log : List ℕ) (b : Bytes figure) (w : Words log) (o : Outcome) (after : List Answered)
      → answers_of r ≡ before ++ (record { call = close figure log b w; outcome = o } ∷ after) → o.number ≡ 0
      → figure ≡ digest r.params (shares before).bits
  -- "After an accepted end the digest is the tree's."
  pub digest : (out : List ℕ) → output_of r ≡ Some out → digest_in r.params out ≡ digest r.params (message_of r)
  -- "Which calls are accepted follows from the table: after the open the area is sound, it has ended once an end was accepted, the
  -- total is the message's length": the area as the last call left it
  pub long : area_words r.params.limit ≤ length (area_of r)
  pub sound : sound (area_of r) ≡ true
  pub phase : phase_of (area_of r) ≡ phase_for (output_of r)
  pub total : total_of (area_of r) ≡ length (message_of r)
  pub params : params_of (area_of r) ≡ r.params
  -- number 6 and the accepted open give these
  pub message_short : length (message_of r) < 2 ^ 64
  pub valid : Valid r.params

-- ---- which calls are accepted

-- "10, 0: area has ended": an end was accepted, or a close
abbrev pub ended_test : Option (List ℕ) → Bool × ℕ
ended_test None = (false, 10)
ended_test (Some out) = (true, 10)

-- the nodes that a feed of the bits Y makes after M, and those that the end makes: "a call makes the nodes that it adds to the log"
abbrev pub feed_makes : Params → List Bool → List Bool → ℕ
feed_makes P M Y = length (settled (order P (M ++ Y))) - length (settled (order P M))

abbrev pub end_makes : Params → List Bool → ℕ
end_makes P M = length (order P M) - length (settled (order P M))

-- "Which calls are accepted follows from the table": the number of each call after a run, by its parameters, its message and
-- whether an end was accepted. Of the tests of the table those stand here that the call can still fail, in their order: the
-- stream's own area is sound, and not short by its own L; it may be short by the L of another open, or of another text.
pub record Table (r : Run) : Type 0 where
  -- "Feed 7, 10, 5, 6, 8"
  pub feed : (piece : Piece) (log : List ℕ) → (feed_of (area_of r) piece log).number
      ≡ first_refusal (ended_test (output_of r)
      ∷ feed_tests (length (message_of r)) (feed_makes r.params (message_of r) (piece_bits piece)) piece log)
  -- "End 7, 10, 9, 8"
  pub end : (out log : List ℕ) → (end_of (area_of r) out log).number
      ≡ first_refusal (ended_test (output_of r) ∷ end_tests r.params.d (end_makes r.params (message_of r)) out log)
  -- document 02, M-106: a preview "refuses 7, 10, 9", and writes the digest of the message; a close is refused in "the order 7, 10, 8,
  -- 14", by 14 if the figure is not that digest
  pub preview : (out : List ℕ) → (preview_of (area_of r) out).number
      ≡ first_refusal (ended_test (output_of r) ∷ output_test (digest_bytes r.params.d) out ∷ [])
  pub previewed : (out : List ℕ) → (preview_of (area_of r) out).number ≡ 0
      → (preview_of (area_of r) out).digest ≡ digest r.params (message_of r) ++ drop (digest_bytes r.params.d) out
  pub close : (figure log : List ℕ) → (close_of (area_of r) figure log).number
      ≡ first_refusal (ended_test (output_of r)
      ∷ close_tests (end_makes r.params (message_of r)) (digest r.params (message_of r)) figure log)
  -- document 02, M-103: "It refuses 7, 10 and 6 in that order", and is "exactly two words for each node that the feed would make": of
  -- any bits Y, if it is not refused
  pub log_words : (n : ℕ) → (log_words_of (area_of r) n).number ≡ first_refusal (ended_test (output_of r) ∷ total_test (length (message_of r)) n ∷ [])
  pub log_words_count : (Y : List Bool) → (log_words_of (area_of r) (length Y)).number ≡ 0
      → (log_words_of (area_of r) (length Y)).count ≡ 2 * feed_makes r.params (message_of r) Y
  -- "Write 7, 9"
  pub write : (out : List ℕ) → (write_of (area_of r) out).number ≡ first_refusal (output_test (length (text_of (area_of r))) out ∷ [])
  -- document 02, M-109: "reading tests 11 and then 7": 11 exactly if the text is not what writing some sound area gives or gave; the
  -- stream's own area or another gets it
  pub read : (into text : List ℕ) → (read_of into text).number
      ≡ first_refusal ((not (readable text), 11) ∷ short_test into (params_of (area_in text)).limit ∷ [])
  -- so the stream's own text goes into every area, its own too, that is not short by its own L
  pub read_back : (into : List ℕ) → (read_of into (text_of (area_of r))).number ≡ first_refusal (short_test into r.params.limit ∷ [])
  -- "Open tests 1, 2, 3, 4 and then 7"
  pub reopen : (Q : Params) → (open_of (area_of r) Q).number ≡ first_refusal (param_tests Q ++ (short_test (area_of r) Q.limit ∷ []))
  -- "Showing a level gives back that level's part of the caller's area", and M-109: "Showing a level that the area lacks gives the
  -- empty part."
  pub show : (level : ℕ) → 1 ≤ level → level ≤ area_levels r.params.limit → level_of (area_of r) level ≡ level_words (area_of r) level
  pub show_none : (level : ℕ) → level < 1 ⊎ area_levels r.params.limit < level → level_of (area_of r) level ≡ []

-- ---- two runs that both ended

-- an end was accepted, or a close: its output, or its figure
pub record EndedRun (r : Run) : Type 0 where
  pub out : List ℕ
  pub is : output_of r ≡ Some out

-- the run's digest
abbrev pub digest_of : (r : Run) → EndedRun r → List ℕ
digest_of r e = digest_in r.params e.out

-- "runs alike in message, key, digest size, height limit and rounds"
pub record Alike (a b : Run) : Type 0 where
  pub message : message_of a ≡ message_of b
  pub key : a.params.key ≡ b.params.key
  pub d : a.params.d ≡ b.params.d
  pub limit : a.params.limit ≡ b.params.limit
  pub rounds : a.params.rounds ≡ b.params.rounds

-- ".., both ended, give the same count, order and digest": the order is the log's
pub record Same (a b : Run) (e : EndedRun a) (f : EndedRun b) : Type 0 where
  pub count : count_of a ≡ count_of b
  pub log : log_of a ≡ log_of b
  pub digest : digest_of a e ≡ digest_of b f

-- ---- cuts

-- the pieces of a run's accepted feeds, in order; `message-pieces` says that its message is their bits, joined
abbrev pub piece_in : Call → List Piece
piece_in (feed piece log _ _ _ _) = piece ∷ []
piece_in (end digest log _ _) = []
piece_in (preview digest _) = []
piece_in (close figure log _ _) = []
piece_in (show level) = []
piece_in (log_words bits _) = []
piece_in (write text _) = []
piece_in (read text _) = []
piece_in (read_into other text _ _) = []
piece_in (reopen P _) = []

unfoldable pub pieces_in : List Answered → List Piece
pieces_in [] = []
pieces_in (a ∷ later) = unless a.outcome.number [] (piece_in a.call) ++ pieces_in later

abbrev pub pieces_of : Run → List Piece
pieces_of r = pieces_in (answers_of r)

-- the bits of pieces, joined
abbrev pub joined_bits : List Piece → List Bool
joined_bits [] = []
joined_bits (piece ∷ later) = piece_bits piece ++ joined_bits later

-- document 02, M-104: "Cuts within a byte fall under the cutting rule as others do": one list of pieces is another in which pieces are
-- cut in two, one after the other, each after any number of its bits and the second part beginning in the byte where the first ended
pub data CutFrom (pieces : List Piece) : List Piece → Type 0 where
  uncut : CutFrom pieces pieces
  cut : (before : List Piece) (piece : Piece) (after : List Piece) (m : ℕ) → m ≤ piece.count → CutFrom pieces (before ++ (piece ∷ after))
      → CutFrom pieces (before ++ (first_part piece m ∷ second_part piece m ∷ after))
