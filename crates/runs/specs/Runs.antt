-- Definitions: runs. Document 01, "Runs", and document 02, M-103, M-104 and M-106: a list of calls on one stream, from an accepted open
-- on, and its message, log, count and digest. Each call answers by the definition that the contract of its function is an equation with.
use Rattle.std.specs.Prelude.{◌≡◌, Bool, Option, Some, None, List, [], ◌∷◌, ◌++◌, ℕ, zero, suc, ◌+◌, ◌*◌, ◌^◌, ◌<◌, take}
use Rattle.lists.specs.Below.{Below}
use Rattle.bits.specs.Piece.{Piece, piece_bits}
use Rattle.tree.specs.Tree.{Params, digest_bytes}
use Rattle.refusals.specs.Refusals.{Told}
use Rattle.calls.specs.Calls.{Opened, AreaLog, Finished, Previewed, open_of, feed_of, end_of, preview_of, close_of, level_of, log_words_of}
use Rattle.texts.specs.Text.{Written, Taken, write_of, read_of}

-- lent bytes and lent words
abbrev pub Bytes : List ℕ → Type 0
Bytes = Below 256

abbrev pub Words : List ℕ → Type 0
Words = Below (2 ^ 64)

-- ---- calls and their outcomes

-- "Then come, in any order and number, feed, end, show a level, write and read, and open where it is refused"; document 02, M-103, of
-- log words: "a run may have it too"; M-104: a fed piece has its start bit; M-106: "a run may have both new calls too", preview and
-- close. A call with its arguments and all that is lent to it but the stream's area; "a read may get another area, of any contents"
pub data Call : Type 0 where
  feed : (piece : Piece) (log : List ℕ) → Bytes piece.bytes → piece.start < 2 ^ 64 → piece.count < 2 ^ 64 → Words log → Call
  end : (digest log : List ℕ) → Bytes digest → Words log → Call
  preview : (digest : List ℕ) → Bytes digest → Call
  close : (figure log : List ℕ) → Bytes figure → Words log → Call
  show : (level : ℕ) → Call
  log_words : (bits : ℕ) → bits < 2 ^ 64 → Call
  write : (text : List ℕ) → Bytes text → Call
  read : (text : List ℕ) → Bytes text → Call
  read_into : (other text : List ℕ) → Words other → Bytes text → Call
  reopen : (P : Params) → Bytes P.key → Call

-- what a call answers and leaves: its number and count, the area that the next call gets, and the log and the output lent to it
pub record Outcome : Type 0 where
  pub number : ℕ
  pub count : ℕ
  pub area : List ℕ
  pub log : List ℕ
  pub output : List ℕ

-- by a call's number: what goes for a refused call, or for an accepted one, whose number is 0
abbrev pub unless : {A : Type 0} → ℕ → A → A → A
unless zero refused accepted = accepted
unless (suc n) refused accepted = refused

-- a call on an area. Showing a level has no number; a refused read into another area leaves the stream where it is, and
-- "once it is accepted the next call gets that one".
unfoldable pub outcome_of : List ℕ → Call → Outcome
outcome_of area (feed piece log _ _ _ _) =
    let f : AreaLog = feed_of area piece log in
    record { number = f.number; count = f.count; area = f.area; log = f.log; output = [] }
outcome_of area (end digest log _ _) =
    let e : Finished = end_of area digest log in
    record { number = e.number; count = e.count; area = e.area; log = e.log; output = e.digest }
outcome_of area (preview digest _) =
    let p : Previewed = preview_of area digest in
    record { number = p.number; count = p.count; area = area; log = []; output = p.digest }
outcome_of area (close figure log _ _) =
    let c : AreaLog = close_of area figure log in
    record { number = c.number; count = c.count; area = c.area; log = c.log; output = [] }
outcome_of area (show level) = record { number = 0; count = 0; area = area; log = []; output = level_of area level }
outcome_of area (log_words bits _) =
    let t : Told = log_words_of area bits in
    record { number = t.number; count = t.count; area = area; log = []; output = [] }
outcome_of area (write text _) =
    let w : Written = write_of area text in
    record { number = w.number; count = w.count; area = area; log = []; output = w.text }
outcome_of area (read text _) =
    let t : Taken = read_of area text in
    record { number = t.number; count = t.count; area = t.area; log = []; output = [] }
outcome_of area (read_into other text _ _) =
    let t : Taken = read_of other text in
    record { number = t.number; count = t.count; area = unless t.number area t.area; log = []; output = [] }
outcome_of area (reopen P _) =
    let o : Opened = open_of area P in
    record { number = o.number; count = o.count; area = o.area; log = []; output = [] }

-- ---- suspensions

-- "A suspension is an accepted write and then, with only refused calls and shown levels between them on that stream, an
-- accepted read of that text into an area": what a call is to suspensions
pub data Role : Type 0 where
  between : Role  -- it may stand between the write and the read
  writes : (text : List ℕ) → Role  -- an accepted write, with what it wrote
  reads : (text : List ℕ) → Role  -- an accepted read, with what it read
  outside : Role  -- any other accepted call that a run may have
  opens : Role  -- an accepted open

-- of an accepted call: which of them may stand inside a suspension is said here alone, by the letter refused calls and shown levels;
-- a write's text is the first c bytes of its output, c its count
abbrev pub accepted_role : Call → Outcome → Role
accepted_role (feed piece log _ _ _ _) o = outside
accepted_role (end digest log _ _) o = outside
accepted_role (preview digest _) o = outside
accepted_role (close figure log _ _) o = outside
accepted_role (show level) o = between
accepted_role (log_words bits _) o = outside
accepted_role (write text _) o = writes (take o.count o.output)
accepted_role (read text _) o = reads text
accepted_role (read_into other text _ _) o = reads text
accepted_role (reopen P _) o = opens

-- "Refused calls may stand anywhere"
unfoldable pub role_of : Call → Outcome → Role
role_of c o = unless o.number between (accepted_role c o)

-- the text that may be read after a call, if there is one: what the last write wrote, until a call is accepted that may not
-- stand between; the read of it is such a call too
abbrev pub suspended : Option (List ℕ) → Role → Option (List ℕ)
suspended before between = before
suspended before (writes text) = Some text
suspended before (reads text) = None
suspended before outside = None
suspended before opens = None

-- "The accepted reads in it are those of suspensions"; "open where it is refused"
abbrev pub Allowed : Option (List ℕ) → Role → Type 0
Allowed before between = Unit {0}
Allowed before (writes text) = Unit {0}
Allowed before (reads text) = before ≡ Some text
Allowed before outside = Unit {0}
Allowed before opens = ⊥

-- ---- runs

-- "Each call gets the area as the last one left it": the calls that may follow on an area, with the text that may be read
unfoldable pub Goes : List ℕ → Option (List ℕ) → List Call → Type 0
Goes area text [] = Unit {0}
Goes area text (c ∷ cs) =
    let o : Outcome = outcome_of area c in
    Allowed text (role_of c o) × Goes o.area (suspended text (role_of c o)) cs

-- "A run is a list of calls on one stream. It begins with an accepted open of an area, whatever that area held."
pub record Run : Type 0 where
  pub area : List ℕ
  pub params : Params
  pub calls : List Call
  pub words : Words area
  pub bytes : Bytes params.key
  pub opened : (open_of area params).number ≡ 0
  pub goes : Goes (open_of area params).area None calls

-- the calls with their outcomes, and the area as the last of them left it
pub record Answered : Type 0 where
  pub call : Call
  pub outcome : Outcome

unfoldable pub answered : List ℕ → List Call → List Answered
answered area [] = []
answered area (c ∷ cs) = let o : Outcome = outcome_of area c in record { call = c; outcome = o } ∷ answered o.area cs

unfoldable pub area_after : List ℕ → List Call → List ℕ
area_after area [] = area
area_after area (c ∷ cs) = area_after (outcome_of area c).area cs

-- ---- message, log, count and digest

-- what a call adds to its run: bits to the message, words to the log, a number to the count, and what an accepted end wrote or an
-- accepted close was given
pub record Share : Type 0 where
  pub bits : List Bool
  pub log : List ℕ
  pub count : ℕ
  pub output : Option (List ℕ)

abbrev pub nothing : Share
nothing = record { bits = []; log = []; count = 0; output = None }

-- an accepted call: "The message of a run is the bits of its accepted feeds"; "Its log joins, in order, the logs of its accepted
-- feeds and end: of each the first 2c words as the call left them, c being the count it returned."; told words are no part of the
-- run's count. M-106: "an accepted close is the accepted end of its run, its log and count among the run's, and the given figure is
-- the run's digest"
abbrev pub accepted_share : Call → Outcome → Share
accepted_share (feed piece log _ _ _ _) o =
    record { bits = piece_bits piece; log = take (2 * o.count) o.log; count = o.count; output = None }
accepted_share (end digest log _ _) o =
    record { bits = []; log = take (2 * o.count) o.log; count = o.count; output = Some o.output }
accepted_share (preview digest _) o = nothing
accepted_share (close figure log _ _) o =
    record { bits = []; log = take (2 * o.count) o.log; count = o.count; output = Some figure }
accepted_share (show level) o = nothing
accepted_share (log_words bits _) o = nothing
accepted_share (write text _) o = nothing
accepted_share (read text _) o = nothing
accepted_share (read_into other text _ _) o = nothing
accepted_share (reopen P _) o = nothing

-- a refused call adds nothing
unfoldable pub share_of : Call → Outcome → Share
share_of c o = unless o.number nothing (accepted_share c o)

abbrev pub first_of : Option (List ℕ) → Option (List ℕ) → Option (List ℕ)
first_of None later = later
first_of (Some out) later = Some out

-- bits and logs "joined in order"; "Its count is the sum of these counts"
unfoldable pub joined_shares : Share → Share → Share
joined_shares a b = record {
  bits = a.bits ++ b.bits;
  log = a.log ++ b.log;
  count = a.count + b.count;
  output = first_of a.output b.output;
}

unfoldable pub shares : List Answered → Share
shares [] = nothing
shares (a ∷ later) = joined_shares (share_of a.call a.outcome) (shares later)

-- of a run
abbrev pub answers_of : Run → List Answered
answers_of r = answered (open_of r.area r.params).area r.calls

abbrev pub area_of : Run → List ℕ
area_of r = area_after (open_of r.area r.params).area r.calls

abbrev pub message_of : Run → List Bool
message_of r = (shares (answers_of r)).bits

abbrev pub log_of : Run → List ℕ
log_of r = (shares (answers_of r)).log

abbrev pub count_of : Run → ℕ
count_of r = (shares (answers_of r)).count

-- the accepted end's output, or the figure of the accepted close, if there was one
abbrev pub output_of : Run → Option (List ℕ)
output_of r = (shares (answers_of r)).output

-- "its digest is the first d/8 bytes, rounded up, of the accepted end's output"; M-106: "the given figure is the run's digest", which has
-- no more bytes
abbrev pub digest_in : Params → List ℕ → List ℕ
digest_in P out = take (digest_bytes P.d) out
