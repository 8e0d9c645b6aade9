-- Laws: of the first line, for a loop over bytes: what has come of it after i bytes, and what is behind it; and of steps by a phase.
use Rattle.std.proofs.Math.Path.{◌≡◌, refl, sym, ap}
use Rattle.std.proofs.Common.{◌∙◌, add-one, take-suc, drop-cons, drop_at, drop-drop, length-append, length-take-le}
use Rattle.std.specs.Prelude.{Option, Some, None, Bool, cond, eqb, get_or, replicate}
use Rattle.std.proofs.Math.Bool.{true, false}
use mathlib.Core.List.{List, [], ◌∷◌, ◌++◌, append-nil, append_assoc}
use Prim.Native.Nat.{ℕ, suc, ◌+◌, ◌-◌, ◌*◌, ◌≤◌, ◌<◌}
use native.Mathlib.Omega.{arith}
use borrow.Author.Tests.{eq-eqb, ne_eqb}
use borrow.Rule.Slice.PartMut.{mid_of, put_mid}
use Rattle.std.proofs.Math.ListN.{length, take, drop, length-drop}
use Rattle.std.proofs.Math.Seq.{take_all, drop-length}
use Rattle.lists.specs.Part.{put}
use Rattle.lists.specs.PartLaws.{next-part}
use Rattle.tree.specs.Tree.{Params, digest_bytes}
use Rattle.refusals.specs.declared.Params as declared
use Rattle.calls.specs.Area.{params_of}
use Rattle.calls.specs.Calls.{feed_of, end_of}
use Rattle.line.specs.Fold.{step_of, fold_of, reading_of}
use Rattle.line.specs.declared.State.{State}
use Rattle.print.specs.Print.{line_bytes, node_lines, digest_line}
use Rattle.print.specs.PrintLaws.{length-node_lines}
use Rattle.program.specs.Printed.{Cut, longer, first_line, refused_line}
use Rattle.program.specs.WholeLine.{before, before_none}
use Rattle.program.specs.Steps.{all_bits, empty_log, empty_digest, Step, refuse, fed_step, line_step, scanned, take_of, Last, ended_step, last_of}
use Rattle.program.specs.StepLaws.{zero-log}
use Rattle.program.specs.Taken.{Put, put_of, took_by, took_of, took_last_by, took_last_of}
use Rattle.program.specs.PutLaws.{put_is}
use Rattle.program.specs.declared.Program.{Program}
use Rattle.program.specs.declared.Program.TheVariants.{Line as InLine, Message as InMessage, Refused as IsRefused}
use Rattle.inner_laws.specs.Line.{fold_snoc}
use Rattle.inner_laws.specs.Print.{length-digest_line}

-- ---- the parameters of a line

-- the parameters that the code opens a stream with: the key is the first of the bytes that a line keeps
abbrev pub named : List ℕ → declared.Params → Params
named kept params = record { key = take params.keylen kept; d = params.d; limit = params.limit; rounds = params.rounds }

-- ---- the lines of nodes, and of a digest behind them

module _ {count : ℕ} {out' : List ℕ} (text out : List ℕ) where
  -- what a text that was put says
  put_count : record { count = count; out = out' } ≡ put_of text out → count ≡ length text
  unfolding put_of
  put_count e = ap (λ (t : Put). t.count) e

  put-out : record { count = count; out = out' } ≡ put_of text out → out' ≡ text ++ drop (length text) out
  unfolding put_of
  put-out e = ap (λ (t : Put). t.out) e

pub nodes-put : {out' : List ℕ} (n : ℕ) (log out : List ℕ) → out' ≡ node_lines n log ++ drop (line_bytes * n) out
    → record { count = line_bytes * n; out = out' } ≡ put_of (node_lines n log) out
nodes-put n log out e = put_is (node_lines n log) out (sym (length-node_lines n log)) e

pub nodes-count : {count : ℕ} {out' : List ℕ} (n : ℕ) (log out : List ℕ) → record { count = count; out = out' } ≡ put_of (node_lines n log) out → count ≡ line_bytes * n
nodes-count n log out e = put_count (node_lines n log) out e ∙ length-node_lines n log

-- a text behind another
behind : (L D ys out : List ℕ) (m k : ℕ) → k + length L ≡ length out → ys ≡ D ++ drop m (take k (drop (length L) (L ++ drop (length L) out)))
    → put (length L) k (L ++ drop (length L) out) ys ≡ (L ++ D) ++ drop (length L + m) out
behind L D ys out m k h e =
    let t : take k (drop (length L) (L ++ drop (length L) out)) ≡ drop (length L) out =
    ap (take k) (drop_at L (drop (length L) out) (length L) refl) ∙ take_all k (drop (length L) out) (simp length-drop (omega arith)) in
    let j : length L + k ≡ length out = omega arith in
    let z : drop (length L + k) out ≡ [] = rw j (drop-length out) in
    let y : ys ≡ D ++ drop (length L + m) out = e ∙ ap (λ (l : List ℕ). D ++ drop m l) t ∙ rw (drop-drop m (length L) out) in
    next-part (length L) k L out ys refl ∙ rw (z, y, append-nil, append_assoc)

pub digest-put : {at : ℕ} {out₁ ys : List ℕ} (count n : ℕ) (log digest out : List ℕ) → record { count = at; out = out₁ } ≡ put_of (node_lines count log) out
    → n ≤ length digest → line_bytes * count + (2 * n + 1) ≤ length out → ys ≡ digest_line (take n digest) ++ drop (2 * n + 1) (mid_of at (length out₁ - at) out₁)
    → record { count = at + 2 * n + 1; out = put_mid at (length out₁ - at) out₁ ys } ≡ put_of (node_lines count log ++ digest_line (take n digest)) out
digest-put {at} {out₁} {ys} count n log digest out e h g y =
    let L : List ℕ = node_lines count log in
    let D : List ℕ = digest_line (take n digest) in
    let d : length D ≡ 2 * n + 1 = length-digest_line n digest h in
    let a : at ≡ length L = put_count L out e in
    let o : out₁ ≡ L ++ drop (length L) out = put-out L out e in
    let l : length L ≡ line_bytes * count = length-node_lines count log in
    let s : length (L ++ drop (length L) out) ≡ length out = simp (length-append, length-drop) (omega arith) in
    let k : ℕ = length out - length L in
    let f : put_mid at (length out₁ - at) out₁ ys ≡ put (length L) k (L ++ drop (length L) out) ys = rw (a, o, s) in
    let y' : ys ≡ D ++ drop (2 * n + 1) (take k (drop (length L) (L ++ drop (length L) out))) = rw (a, o, s) at y in
    let j : length L + (2 * n + 1) ≡ at + 2 * n + 1 = omega arith in
    put_is (L ++ D) out (rw length-append (omega arith)) (f ∙ behind L D ys out (2 * n + 1) k (omega arith) y' ∙ ap (λ (m : ℕ). (L ++ D) ++ drop m out) j)

-- ---- what a feed and the end give

module _ {number count : ℕ} {area' log' : List ℕ} (area bytes : List ℕ)
    (e : record { number = number; count = count; area = area'; log = log' } ≡ feed_of area (all_bits bytes) (replicate 566 0)) where
  is_fed : record { number = number; count = count; area = area'; log = log' } ≡ feed_of area (all_bits bytes) empty_log
  is_fed = e ∙ ap (feed_of area (all_bits bytes)) zero-log

  feed-step : number ≡ 0 → record { program = InMessage; area = area'; text = node_lines count log' } ≡ fed_step area bytes
  unfolding fed_step
  feed-step z = rw (← is_fed, z)

  pub feed-gives : {t : Put} (out : List ℕ) → number ≡ 0 → t ≡ put_of (node_lines count log') out →
      took_by InMessage area' t ≡ took_of (fed_step area bytes) out
  unfolding took_of
  feed-gives out z p = ap (took_by InMessage area') p ∙ ap (λ (s : Step). took_of s out) (feed-step z)

module _ {number count : ℕ} {area' digest' log' : List ℕ} (area : List ℕ)
    (e : record { number = number; count = count; area = area'; digest = digest'; log = log' } ≡ end_of area (replicate 64 0) (replicate 566 0)) where
  is_ended : record { number = number; count = count; area = area'; digest = digest'; log = log' } ≡ end_of area empty_digest empty_log
  is_ended = e ∙ ap (end_of area empty_digest) zero-log

  end_step : number ≡ 0 → record { area = area'; text = node_lines count log' ++ digest_line (take (digest_bytes (get_or area 3 0)) digest') } ≡ ended_step area
  unfolding ended_step params_of
  end_step z = rw (← is_ended, z)

  pub end-gives : {t : Put} {n : ℕ} (out : List ℕ) → number ≡ 0 → n ≡ digest_bytes (get_or area 3 0) →
      t ≡ put_of (node_lines count log' ++ digest_line (take n digest')) out → took_last_by area' t ≡ took_last_of (ended_step area) out
  unfolding took_last_of
  end-gives out z e p =
      ap (took_last_by area') (p ∙ ap (λ (n : ℕ). put_of (node_lines count log' ++ digest_line (take n digest')) out) e)
      ∙ ap (λ (l : Last). took_last_of l out) (end_step z)

-- ---- a program as a phase, and the state of its line beside it

pub data Phase : Type 0 where
  Line : Phase
  Message : Phase
  Refused : Phase

abbrev pub program_in : Phase → State → Program
program_in Line line = InLine line
program_in Message line = InMessage
program_in Refused line = IsRefused

-- the next bytes that were read
abbrev pub step_in : Phase → State → List ℕ → List ℕ → Step
step_in Line line area bytes = scanned (first_line bytes) line area bytes
step_in Message line area bytes = fed_step area bytes
step_in Refused line area bytes = refuse area []

pub take-in : (phase : Phase) (line : State) (area bytes : List ℕ) → take_of (program_in phase line) area bytes ≡ step_in phase line area bytes
unfolding take_of
take-in Line line area bytes = refl
take-in Message line area bytes = refl
take-in Refused line area bytes = refl

-- without byte 10 there was no first line
abbrev pub last_in : Phase → List ℕ → Last
last_in Line area = record { area = area; text = refused_line }
last_in Message area = ended_step area
last_in Refused area = record { area = area; text = [] }

pub last-in : (phase : Phase) (line : State) (area : List ℕ) → last_of (program_in phase line) area ≡ last_in phase area
unfolding last_of
last-in Line line area = refl
last-in Message line area = refl
last-in Refused line area = refl

-- ---- the line up to byte 10, if that comes, and the place behind it

pub record Scanned : Type 0 where
  pub ended : Bool
  pub line : State
  pub next : ℕ

abbrev pub scanned_by : Option Cut → State → List ℕ → Scanned
scanned_by None line bytes = record { ended = false; line = fold_of line bytes; next = length bytes }
scanned_by (Some c) line bytes = record { ended = true; line = fold_of line c.line; next = length c.line + 1 }

unfoldable pub scan_of : State → List ℕ → Scanned
scan_of line bytes = scanned_by (first_line bytes) line bytes

-- ---- one byte more before a first line

before_snoc : (xs : List ℕ) (b : ℕ) (o : Option Cut) → before (xs ++ (b ∷ [])) o ≡ before xs (longer b o)
before_snoc xs b None = refl
before_snoc xs b (Some c) = rw (append_assoc xs (b ∷ []) c.line)

-- ---- the loop over the bytes

pub record Scanning (start : State) (bytes : List ℕ) (line : State) (i : ℕ) : Type 0 where
  pub within : i ≤ length bytes
  pub folded : line ≡ fold_of start (take i bytes)
  pub first : first_line bytes ≡ before (take i bytes) (first_line (drop i bytes))

pub scan_none : (start : State) (bytes : List ℕ) → Scanning start bytes start 0
scan_none start bytes = record { within = omega arith; folded = refl; first = before_none (first_line bytes) }

module _ {start line : State} {bytes : List ℕ} {i : ℕ} (s : Scanning start bytes line i) where
  pub scan_more : {next : State} → i < length bytes → (get_or bytes i 0 ≡ 10 → ⊥) → next ≡ step_of line (get_or bytes i 0) → Scanning start bytes next (i + 1)
  scan_more h n e =
      let b : ℕ = get_or bytes i 0 in
      let t : take (i + 1) bytes ≡ take i bytes ++ (b ∷ []) = rw (add-one, take-suc bytes i 0 h) in
      let f : first_line (drop i bytes) ≡ longer b (first_line (drop (i + 1) bytes)) = rw (add-one, drop-cons bytes i 0 h, ne_eqb b 10 n) in
      record {
        within = omega (arith, s.within);
        folded = e ∙ ap (λ (l : State). step_of l b) s.folded ∙ sym (ap (fold_of start) t ∙ fold_snoc (take i bytes) start b);
        first = s.first ∙ ap (before (take i bytes)) f ∙ sym (ap (λ (l : List ℕ). before l (first_line (drop (i + 1) bytes))) t ∙ before_snoc (take i bytes) b (first_line (drop (i + 1) bytes)));
      }

  -- byte 10
  pub scan_found : i < length bytes → get_or bytes i 0 ≡ 10 → record { ended = true; line = line; next = i + 1 } ≡ scan_of start bytes
  unfolding scan_of
  scan_found h e =
      let f : first_line (drop i bytes) ≡ Some (record { line = []; rest = drop (suc i) bytes }) = rw (drop-cons bytes i 0 h, eq-eqb (get_or bytes i 0) 10 e) in
      let g : first_line bytes ≡ Some (record { line = take i bytes; rest = drop (suc i) bytes }) =
      s.first ∙ ap (before (take i bytes)) f ∙ rw (append-nil (take i bytes)) in
      let n : i ≡ length (take i bytes) = sym (length-take-le i bytes s.within) in
      rw g (λ k. record { ended = true; line = s.folded k; next = n k + 1 })

  -- no byte is 10
  pub scan_all : length bytes ≤ i → record { ended = false; line = line; next = i } ≡ scan_of start bytes
  unfolding scan_of
  scan_all h =
      let n : i ≡ length bytes = omega (arith, s.within) in
      let t : take i bytes ≡ bytes = take_all i bytes h in
      let f : first_line (drop i bytes) ≡ None = rw (n, drop-length bytes) in
      let g = s.first ∙ ap (before (take i bytes)) f in
      let l : line ≡ fold_of start bytes = s.folded ∙ ap (fold_of start) t in
      rw g (λ k. record { ended = false; line = l k; next = n k })

-- ---- what is behind the line

abbrev Behind : List ℕ → Cut → Type 0
Behind bytes c = (suc (length c.line) ≤ length bytes) × (drop (suc (length c.line)) bytes ≡ c.rest)

cut-rest : (bytes : List ℕ) (c : Cut) → first_line bytes ≡ Some c → Behind bytes c
cut-rest [] c e = cc
cut-rest (b ∷ bs) c e = by (λ (d : Cut). cut-rest bs d) (eqb b 10) e
  where
    more : ((d : Cut) → first_line bs ≡ Some d → Behind bs d)
        → (o : Option Cut) → first_line bs ≡ o → longer b o ≡ Some c → Behind (b ∷ bs) c
    more ih None f e = cc
    more ih (Some d) f e =
        let k : record { line = b ∷ d.line; rest = d.rest } ≡ c = cc in
        let r = ih d f in
        rw (← k) (omega (arith, r.0), r.1)

    by : ((d : Cut) → first_line bs ≡ Some d → Behind bs d)
        → (t : Bool) → cond t (Some (record { line = []; rest = bs })) (longer b (first_line bs)) ≡ Some c
        → Behind (b ∷ bs) c
    by ih true e = let k : record { line = []; rest = bs } ≡ c = cc in rw (← k) (omega arith, refl)
    by ih false e = more ih (first_line bs) refl e

module _ (line : State) (bytes : List ℕ) {s : Scanned} (e : s ≡ scan_of line bytes) where
  pub scan_within : s.next ≤ length bytes
  unfolding scan_of
  scan_within = rw e (by (first_line bytes) refl)
    where
      by : (o : Option Cut) → first_line bytes ≡ o → (scanned_by o line bytes).next ≤ length bytes
      by None f = omega arith
      by (Some c) f = omega (arith, (cut-rest bytes c f).0)

  -- the line has ended: what it opens takes the bytes behind it
  pub scan_ended : (area : List ℕ) → s.ended ≡ true → line_step (reading_of s.line) s.line area (mid_of s.next (length bytes - s.next) bytes) ≡ scanned (first_line bytes) line area bytes
  unfolding scan_of
  scan_ended area h = rw e (by (first_line bytes) refl (ap (λ (x : Scanned). x.ended) (sym e) ∙ h))
    where
      by : (o : Option Cut) → first_line bytes ≡ o → (scanned_by o line bytes).ended ≡ true →
          line_step (reading_of (scanned_by o line bytes).line) (scanned_by o line bytes).line area (mid_of (scanned_by o line bytes).next (length bytes - (scanned_by o line bytes).next) bytes) ≡ scanned o line area bytes
      by None f h = let z : ◌≡◌ {A = ℕ} 0 1 = cc in absurd (omega arith)
      by (Some c) f h =
          let l : State = fold_of line c.line in
          let n : ℕ = length c.line + 1 in
          let t : mid_of n (length bytes - n) bytes ≡ c.rest =
          take_all (length bytes - n) (drop n bytes) (simp length-drop (omega arith)) ∙ rw (add-one, (cut-rest bytes c f).1) in
          ap (λ (r : List ℕ). line_step (reading_of l) l area r) t

  -- it goes on
  pub scan_goes_on : (area : List ℕ) → s.ended ≡ false → record { program = InLine s.line; area = area; text = [] } ≡ scanned (first_line bytes) line area bytes
  unfolding scan_of
  scan_goes_on area h = rw e (by (first_line bytes) (ap (λ (x : Scanned). x.ended) (sym e) ∙ h))
    where
      by : (o : Option Cut) → (scanned_by o line bytes).ended ≡ false →
          record { program = InLine (scanned_by o line bytes).line; area = area; text = [] } ≡ scanned o line area bytes
      by None h = refl
      by (Some c) h = let z : ◌≡◌ {A = ℕ} 0 1 = cc in absurd (omega arith)
