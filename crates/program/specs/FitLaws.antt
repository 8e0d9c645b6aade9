-- Laws: what a call puts fits into what was lent for it: no text is longer than `text_bytes`.
use Rattle.std.specs.Prelude.{Option, Some, None, ◌≡◌, refl, Bool, true, false, List, ℕ, zero, suc, ◌≤◌, ltb, length, take, get_or}
use Rattle.std.proofs.Common.{sym, ap, arith, length-append, length-drop}
use Rattle.tree.specs.Tree.{Params, digest_bytes}
use Rattle.refusals.specs.Refusals.{answer_of}
use Rattle.calls.specs.Area.{params_of}
use Rattle.calls.specs.Calls.{Opened, AreaLog, Finished, open_of, feed_of, end_of}
use Rattle.line.specs.Fold.{fold_of, reading_of}
use Rattle.line.specs.declared.FirstLine.{FirstLine}
use Rattle.line.specs.declared.State.{State}
use Rattle.print.specs.PrintLaws.{length-node_lines, digest_line-most}
use Rattle.program.specs.Printed.{Cut, first_line, refused_line, refused_number, rounds_for}
use Rattle.program.specs.Steps.{all_bits, empty_log, empty_digest, Step, fed_step, opened_step, line_step, scanned, take_of, Last, ended_step, last_of}
use Rattle.program.specs.StepLaws.{zero-log, feed-room, end-room, end-size}
use Rattle.program.specs.Taken.{text_bytes, Put, put_of, Took, took_of, TookLast, took_last_of}
use Rattle.program.specs.declared.Program.TheVariants.{Line as InLine, Message as InMessage, Refused as IsRefused}
use Rattle.program.specs.declared.Program.{Program}

abbrev Fits : List ℕ → Type 0
Fits text = length text ≤ text_bytes

-- what holds of an accepted answer and of every refused one holds of the answer
answer_all : {A : Type 0} (P : A → Type 0) (n : ℕ) (accepted : A) (refused : ℕ → A) → (n ≡ 0 → P accepted) → ((k : ℕ) → P (refused k)) → P (answer_of n accepted refused)
answer_all P zero accepted refused a r = a refl
answer_all P (suc n) accepted refused a r = r (suc n)

line-fits : Fits refused_line
unfolding refused_line
line-fits = omega arith

number_fits : (n : ℕ) → Fits (refused_number n)
unfolding refused_number
number_fits n = by (ltb n 10) refl
  where
    by : (t : Bool) → ltb n 10 ≡ t → Fits (refused_number n)
    by true e = rw e (omega arith)
    by false e = rw e (omega arith)

fed-fits : (area bytes : List ℕ) → Fits (fed_step area bytes).text
unfolding fed_step
fed-fits area bytes =
    let f : AreaLog = feed_of area (all_bits bytes) empty_log in
    let e = ap (feed_of area (all_bits bytes)) (sym zero-log) in
    answer_all (λ (s : Step). Fits s.text) f.number _ _
    (λ z. let r = feed-room area bytes e z in rw (length-node_lines f.count f.log) (omega arith))
    (λ k. number_fits k)

opened-fits : (area : List ℕ) (P : Params) (rest : List ℕ) → Fits (opened_step area P rest).text
unfolding opened_step
opened-fits area P rest =
    let o : Opened = open_of area P in
    answer_all (λ (s : Step). Fits s.text) o.number _ _ (λ z. fed-fits o.area rest) (λ k. number_fits k)

read_fits : (o : Option FirstLine) (line : State) (area rest : List ℕ) → Fits (line_step o line area rest).text
read_fits None line area rest = line-fits
read_fits (Some l) line area rest =
    opened-fits area (record { key = take l.key_bytes line.key.bytes; d = l.d; limit = l.limit; rounds = rounds_for l.rounds l.d l.key_bytes }) rest

scanned-fits : (o : Option Cut) (line : State) (area bytes : List ℕ) → Fits (scanned o line area bytes).text
scanned-fits None line area bytes = omega arith
scanned-fits (Some c) line area bytes = read_fits (reading_of (fold_of line c.line)) (fold_of line c.line) area c.rest

take-fits : (p : Program) (area bytes : List ℕ) → length (take_of p area bytes).text ≤ text_bytes
unfolding take_of
take-fits (InLine line) area bytes = scanned-fits (first_line bytes) line area bytes
take-fits InMessage area bytes = fed-fits area bytes
take-fits IsRefused area bytes = omega arith

ended-fits : (area : List ℕ) → Fits (ended_step area).text
unfolding ended_step params_of
ended-fits area =
    let e : Finished = end_of area empty_digest empty_log in
    let is = ap (end_of area empty_digest) (sym zero-log) in
    let n : ℕ = digest_bytes (get_or area 3 0) in
    answer_all (λ (l : Last). Fits l.text) e.number _ _
    (λ z. let r = end-room area is z in let s = end-size area is z in
    let d = digest_line-most n e.digest in
    rw (length-append, length-node_lines e.count e.log) (omega arith))
    (λ k. number_fits k)

last_fits : (p : Program) (area : List ℕ) → length (last_of p area).text ≤ text_bytes
unfolding last_of
last_fits (InLine line) area = line-fits
last_fits InMessage area = ended-fits area
last_fits IsRefused area = omega arith

-- so the bytes that were lent keep their length
pub take-length : {program : Program} {count : ℕ} {area' out' : List ℕ} (p : Program) (area bytes out : List ℕ)
    → record { program = program; count = count; area = area'; out = out' } ≡ took_of (take_of p area bytes) out → text_bytes ≤ length out → length out' ≡ length out
unfolding took_of put_of
take-length p area bytes out e h =
    let o = ap (λ (x : Took). x.out) e in
    let f = take-fits p area bytes in
    rw o (simp (length-append, length-drop) (omega arith))

pub last-length : {count : ℕ} {area' out' : List ℕ} (p : Program) (area out : List ℕ)
    → record { count = count; area = area'; out = out' } ≡ took_last_of (last_of p area) out → text_bytes ≤ length out → length out' ≡ length out
unfolding took_last_of put_of
last-length p area out e h =
    let o = ap (λ (x : TookLast). x.out) e in
    let f = last_fits p area in
    rw o (simp (length-append, length-drop) (omega arith))

-- ---- the bytes to write lie within them

put-within : (t : Put) (text out : List ℕ) → t ≡ put_of text out → t.count ≤ length t.out
unfolding put_of
put-within t text out e = rw (e, length-append) (omega arith)

pub took-within : {program : Program} {count : ℕ} {area out' : List ℕ} (s : Step) (out : List ℕ) → record { program = program; count = count; area = area; out = out' } ≡ took_of s out → count ≤ length out'
unfolding took_of
took-within s out e = put-within _ s.text out (ap (λ (x : Took). record { count = x.count; out = x.out }) e)

pub last_within : {count : ℕ} {area out' : List ℕ} (l : Last) (out : List ℕ) → record { count = count; area = area; out = out' } ≡ took_last_of l out → count ≤ length out'
unfolding took_last_of
last_within l out e = put-within _ l.text out (ap (λ (x : TookLast). record { count = x.count; out = x.out }) e)
