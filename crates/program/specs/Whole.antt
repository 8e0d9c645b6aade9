-- Laws: the program, whole: however an input is cut into reads, the bytes that the program writes are what `printed` defines.
use Rattle.std.specs.Prelude.{Option, Some, None, ◌≡◌, refl, ℕ, zero, suc, ◌*◌, ◌^◌, ◌≤◌, ◌<◌, min, length, take}
use Rattle.std.proofs.Common.{ap, ◌∙◌, arith}
use mathlib.Core.List.{List, [], ◌∷◌, ◌++◌, map, flatten, append_assoc, append-nil}
use Rattle.lists.specs.Below.{Below, more}
use Rattle.bits.specs.Bits.{bits_of}
use Rattle.tree.specs.Tree.{Params, most_limit}
use Rattle.refusals.specs.Refusals.{first_refusal, param_tests}
use Rattle.calls.specs.Area.{area_words}
use Rattle.calls.specs.Calls.{open_number}
use Rattle.calls.proofs.CallLaws.{open_number_lem, open_accepted}
use Rattle.calls.proofs.Stands.{settled-opened, open_stands}
use Rattle.hash.specs.Hash.{rounds_by_default}
use Rattle.line.specs.Line.{Line, line_of}
use Rattle.line.specs.Fold.{kept_bytes, Says, start, fold_of, reading_of}
use Rattle.line.specs.Keys.{counted}
use Rattle.line.specs.Decides.{decides}
use Rattle.line.specs.declared.State.{State}
use Rattle.program.specs.Printed.{Cut, first_line, refused_line, refused_number, rounds_for, params_for, printed_with, printed_for, printed_of, printed, hashed}
use Rattle.program.specs.Steps.{buffer_bytes, Step, refuse, opened_step, line_step, scanned, take_of, last_of, start_of, written}
use Rattle.program.specs.declared.Program.TheVariants.{Line as InLine, Refused as IsRefused}
use Rattle.program.specs.declared.Program.{Program}
use Rattle.program.specs.WholeInput.{message_in, Input}
use Rattle.program.specs.WholeLine.{first-parts, message-length, fold_parts}
use Rattle.program.specs.WholeMessage.{message}
use Rattle.program.specs.WholeKey.{KeyBytes, key-bytes, kept_params, kept-rounds, kept-number, kept_whole}

-- after a refusal nothing more is written
pub refused_silent : (p : Program) (area : List ℕ) (reads : List (List ℕ)) → p ≡ IsRefused → written p area reads ≡ []
unfolding written take_of last_of
refused_silent p area [] e = rw e
refused_silent p area (bytes ∷ reads) e = rw e (refused_silent IsRefused area reads refl)

-- so a program may stop at a read that it refuses: what that read gives is all, whatever comes behind it
pub refused-last : (p : Program) (area bytes : List ℕ) (reads : List (List ℕ)) → (take_of p area bytes).program ≡ IsRefused
    → written p area (bytes ∷ reads) ≡ (take_of p area bytes).text
unfolding written
refused-last p area bytes reads e =
    let s : Step = take_of p area bytes in
    rw (refused_silent s.program s.area reads e) (append-nil s.text)

-- all that is written from a call's step on
abbrev from : Step → List (List ℕ) → List ℕ
from s reads = s.text ++ written s.program s.area reads

from-refused : (area text : List ℕ) (reads : List (List ℕ)) → from (refuse area text) reads ≡ text
from-refused area text reads = rw (refused_silent IsRefused area reads refl) (append-nil text)

-- ---- the line that has ended

-- what a state says is opened: the line's parameters, the key as far as it is kept
said_opens : (s : State) (l : Line) (area rest : List ℕ) → Says s (Some l)
    → line_step (reading_of s) s area rest ≡ opened_step area (kept_params (params_for l)) rest
said_opens s l area rest h =
    let k : take (min (length l.key) kept_bytes) s.key.bytes ≡ take kept_bytes l.key =
    ap (take (min (length l.key) kept_bytes)) h.1 ∙ counted l.key in
    rw (h.0, k, kept-rounds l.rounds l.d (length l.key))

-- a readable line opens the stream with its own d, L and key, of which 65 bytes are kept, and with the rounds that it names
pub readable-opens : (line : List ℕ) (l : Line) (area rest : List ℕ) → line_of line ≡ Some l
    → (let s : State = fold_of start line in line_step (reading_of s) s area rest)
    ≡ opened_step area (record { key = take kept_bytes l.key; d = l.d; limit = l.limit; rounds = rounds_for l.rounds l.d (length l.key) }) rest
readable-opens line l area rest e = said_opens (fold_of start line) l area rest (rw e at (decides line))

-- with `-` for r, these are the default of the line's d and of the length of its key
pub dash_opens : (line : List ℕ) (l : Line) (area rest : List ℕ) → line_of line ≡ Some l → l.rounds ≡ None
    → (let s : State = fold_of start line in line_step (reading_of s) s area rest)
    ≡ opened_step area (record { key = take kept_bytes l.key; d = l.d; limit = l.limit; rounds = rounds_by_default l.d (length l.key) }) rest
dash_opens line l area rest e r = rw r at (readable-opens line l area rest e)

module _ (area rest : List ℕ) (reads : List (List ℕ)) (long : area_words most_limit ≤ length area) (short : Below (suc buffer_bytes) (map length (rest ∷ reads)))
    (few : 8 * length (flatten (rest ∷ reads)) < 2 ^ 64) where
  -- its parameters are accepted
  from-opened : (P : Params) → Below 256 P.key → open_number area P ≡ 0
      → from (opened_step area P rest) reads ≡ hashed P (bits_of 8 (flatten (rest ∷ reads)))
  unfolding opened_step written take_of flatten
  from-opened P b e =
      let all = message (rest ∷ reads) (open_stands area P b e) short (omega arith) in
      rw (open_accepted area P e) (rw (settled-opened P) at all)

  -- they are refused
  from_unopened : (P : Params) (k : ℕ) → open_number area P ≡ suc k
      → from (opened_step area P rest) reads ≡ refused_number (suc k)
  unfolding opened_step
  from_unopened P k e = rw (open_number_lem area P, e) (from-refused area (refused_number (suc k)) reads)

  -- both, for the parameters of the line
  from-params : (P : Params) → Below 256 P.key
      → from (opened_step area (kept_params P) rest) reads ≡ printed_with P (bits_of 8 (flatten (rest ∷ reads)))
  from-params P b = by (first_refusal (param_tests P)) refl
    where
      by : (k : ℕ) → first_refusal (param_tests P) ≡ k
          → from (opened_step area (kept_params P) rest) reads ≡ printed_with P (bits_of 8 (flatten (rest ∷ reads)))
      by zero e = rw (kept_whole P e, e) (from-opened P b (rw (kept_whole P e) at (kept-number area P long) ∙ e))
      by (suc k) e = rw e (from_unopened (kept_params P) k (kept-number area P long ∙ e))

  -- by what the line says
  from_said : (s : State) (o : Option Line) → Says s o → KeyBytes o
      → from (line_step (reading_of s) s area rest) reads ≡ printed_for o (flatten (rest ∷ reads))
  from_said s None h b = rw h (from-refused area refused_line reads)
  from_said s (Some l) h b = rw (said_opens s l area rest h) (from-params (params_for l) b)

  -- which its state decides
  from-line : (line : List ℕ) → (let s : State = fold_of start line in from (line_step (reading_of s) s area rest) reads)
      ≡ printed_for (line_of line) (flatten (rest ∷ reads))
  from-line line = from_said (fold_of start line) (line_of line) (decides line) (key-bytes line)

-- ---- the input from a place in its first line on

-- q are the bytes of the line that were read before
lines : (q area : List ℕ) (reads : List (List ℕ)) → first_line q ≡ None → area_words most_limit ≤ length area → Below (suc buffer_bytes) (map length reads)
    → 8 * length (message_in (first_line (q ++ flatten reads))) < 2 ^ 64
    → written (InLine (fold_of start q)) area reads ≡ printed (q ++ flatten reads)
unfolding written take_of last_of printed flatten
lines q area [] e long b few = rw (append-nil q, e)
lines q area (bytes ∷ reads) e long (more h hs) few =
    by (first_line bytes) refl (λ n. lines (q ++ bytes) area reads n long hs (rw (append_assoc q bytes (flatten reads)) few))
  where
    by : (o : Option Cut) → first_line bytes ≡ o
        → (first_line (q ++ bytes) ≡ None
        → written (InLine (fold_of start (q ++ bytes))) area reads ≡ printed ((q ++ bytes) ++ flatten reads))
        → from (scanned o (fold_of start q) area bytes) reads ≡ printed_of (first_line (q ++ (bytes ++ flatten reads)))
    by None p next = rw (← fold_parts start q bytes, ← append_assoc q bytes (flatten reads)) (next (first-parts q bytes ∙ rw (e, p)))
    by (Some c) p next =
        let split : first_line (q ++ (bytes ++ flatten reads)) ≡ Some (record { line = q ++ c.line; rest = c.rest ++ flatten reads }) =
        first-parts q (bytes ++ flatten reads) ∙ rw (e, first-parts bytes (flatten reads), p) in
        let l = rw p at (message-length bytes) in
        rw (← fold_parts start q c.line, split)
        (from-line area c.rest reads long (more (omega (arith, l, h)) hs) (rw split at few) (q ++ c.line))

-- for every list of reads, and whatever the area held
pub whole : (area : List ℕ) (reads : List (List ℕ)) → Input area reads → written start_of area reads ≡ printed (flatten reads)
whole area reads h = lines [] area reads refl h.long h.short h.few
