-- Definitions: what each call of the program gives: the state that the next call gets, the area, and the bytes to write. That the bytes of
-- all calls, joined, are `printed` of the input is the theorem of `Whole`.
use Rattle.std.specs.Prelude.{Option, Some, None, List, [], ◌∷◌, ◌++◌, ℕ, ◌*◌, length, take, replicate}
use Rattle.bits.specs.Piece.{Piece, piece_of}
use Rattle.tree.specs.Tree.{Params, digest_bytes}
use Rattle.refusals.specs.Refusals.{answer_of}
use Rattle.calls.specs.Area.{params_of}
use Rattle.calls.specs.Calls.{Opened, AreaLog, Finished, open_of, feed_of, end_of}
use Rattle.calls.specs.Vocabulary.{enough_words}
use Rattle.line.specs.Fold.{start, fold_of, reading_of}
use Rattle.line.specs.declared.FirstLine.{FirstLine}
use Rattle.line.specs.declared.State.{State}
use Rattle.print.specs.Print.{node_lines, digest_line}
use Rattle.program.specs.Printed.{Cut, first_line, refused_line, refused_number, rounds_for}
use Rattle.program.specs.declared.Program.TheVariants.{Line as InLine, Message as InMessage, Refused as IsRefused}
use Rattle.program.specs.declared.Program.{Program}

-- the most bytes of a read
abbrev pub buffer_bytes : ℕ
buffer_bytes = 65536

-- the log of a call is enough for the bits of a read, and begins as zeros
abbrev pub empty_log : List ℕ
empty_log = replicate (enough_words (8 * buffer_bytes)) 0

-- the longest digest, of 64 bytes
abbrev pub empty_digest : List ℕ
empty_digest = replicate 64 0

-- what a call gives
pub record Step : Type 0 where
  pub program : Program
  pub area : List ℕ
  pub text : List ℕ

-- a refusal is printed, and nothing more
abbrev pub refuse : List ℕ → List ℕ → Step
refuse area text = record { program = IsRefused; area = area; text = text }

-- "the message in whole bytes": all bits of bytes that were read
abbrev pub all_bits : List ℕ → Piece
all_bits bytes = piece_of bytes 0 (8 * length bytes)

-- bytes of the message: fed, and a line for each node made
unfoldable pub fed_step : List ℕ → List ℕ → Step
fed_step area bytes =
    let f : AreaLog = feed_of area (all_bits bytes) empty_log in
    answer_of f.number
    record { program = InMessage; area = f.area; text = node_lines f.count f.log }
    (λ k. refuse area (refused_number k))

-- the stream that a line opens takes what was read behind the line
unfoldable pub opened_step : List ℕ → Params → List ℕ → Step
opened_step area P rest =
    let o : Opened = open_of area P in
    answer_of o.number (fed_step o.area rest) (λ k. refuse area (refused_number k))

-- a line that has ended, by what it says; the key is the first n bytes that its state keeps
abbrev pub line_step : Option FirstLine → State → List ℕ → List ℕ → Step
line_step None line area rest = refuse area refused_line
line_step (Some l) line area rest =
    opened_step area (record { key = take l.key_bytes line.key.bytes; d = l.d; limit = l.limit; rounds = rounds_for l.rounds l.d l.key_bytes }) rest

-- bytes of the first line, to their end or to byte 10
abbrev pub scanned : Option Cut → State → List ℕ → List ℕ → Step
scanned None line area bytes = record { program = InLine (fold_of line bytes); area = area; text = [] }
scanned (Some c) line area bytes = let ended : State = fold_of line c.line in line_step (reading_of ended) ended area c.rest

-- the next bytes that were read
unfoldable pub take_of : Program → List ℕ → List ℕ → Step
take_of (InLine line) area bytes = scanned (first_line bytes) line area bytes
take_of InMessage area bytes = fed_step area bytes
take_of IsRefused area bytes = refuse area []

-- what the end of the input gives
pub record Last : Type 0 where
  pub area : List ℕ
  pub text : List ℕ

-- the last nodes and the digest
unfoldable pub ended_step : List ℕ → Last
ended_step area =
    let e : Finished = end_of area empty_digest empty_log in
    answer_of e.number
    record { area = e.area; text = node_lines e.count e.log ++ digest_line (take (digest_bytes (params_of area).d) e.digest) }
    (λ k. record { area = area; text = refused_number k })

-- without byte 10 there was no first line
unfoldable pub last_of : Program → List ℕ → Last
last_of (InLine line) area = record { area = area; text = refused_line }
last_of InMessage area = ended_step area
last_of IsRefused area = record { area = area; text = [] }

-- where the program begins
abbrev pub start_of : Program
start_of = InLine start

-- all that is written for a list of reads, from a state and an area on: the text of each read, then that of the end of the input
unfoldable pub written : Program → List ℕ → List (List ℕ) → List ℕ
written p area [] = (last_of p area).text
written p area (bytes ∷ reads) = let s : Step = take_of p area bytes in s.text ++ written s.program s.area reads
