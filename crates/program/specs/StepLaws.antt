-- Laws: each branch of a step, by what the stream's call answers: the numbers that refuse it are below 100, the log has room for its nodes,
-- and what is put into the text makes up what the step gives.
use Rattle.std.specs.Prelude.{Some, None, ◌≡◌, Bool, true, false, ◌&&◌, ℕ, ◌*◌, ◌/◌, ◌≤◌, ◌<◌, ltb, length, take, get_or, replicate}
use Rattle.std.proofs.Math.Path.{refl, sym, ap}
use Rattle.std.proofs.Common.{◌∙◌, arith, ltb-true}
use mathlib.Core.List.{List, [], ◌∷◌, ◌++◌}
use Rattle.lists.specs.And.{and_parts}
use Rattle.tree.specs.Tree.{Params, digest_bytes}
use Rattle.bits.specs.Piece.{piece_bits}
use Rattle.refusals.specs.Refusals.{first_refusal, param_tests}
use Rattle.refusals.specs.RefusalLaws.{answer_refused}
use Rattle.calls.specs.Area.{total_of, params_of}
use Rattle.calls.specs.Calls.{Opened, AreaLog, Finished, open_number, open_of, feed_number, feed_of, end_number, end_of, fed_bits, last_nodes_of, short_test, open_tests, feed_tests, end_tests}
use Rattle.calls.specs.Vocabulary.{enough_words}
use Rattle.calls.proofs.CallLaws.{open_number_lem, open_refused, feed-number, feed-accepted, feed-refused, feed-passed, end-number, end-accepted, end_refused, end-passed}
use Rattle.line.specs.Fold.{reading_of}
use Rattle.line.specs.declared.FirstLine.{FirstLine}
use Rattle.line.specs.declared.State.{State}
use Rattle.print.specs.Print.{node_lines, digest_line}
use Rattle.print.specs.PrintLaws.{nodes-front}
use Rattle.program.specs.Printed.{first_line, refused_line, refused_number, rounds_for}
use Rattle.program.specs.Steps.{all_bits, empty_log, empty_digest, Step, refuse, fed_step, opened_step, line_step, scanned, take_of, Last, ended_step, last_of}
use Rattle.program.specs.Taken.{Put, put_of, took_by, took_of, took_last_by, took_last_of}
use Rattle.program.specs.declared.Program.TheVariants.{Line as InLine, Message as InMessage, Refused as IsRefused}
use Rattle.program.specs.declared.Program.{Program}

-- ---- refusals

-- every number is below 100: by computing
abbrev small : List (Bool × ℕ) → Bool
small [] = true
small (t ∷ ts) = ltb t.1 100 && small ts

small_refusal : (ts : List (Bool × ℕ)) → small ts ≡ true → first_refusal ts < 100
small_refusal [] s = omega arith
small_refusal ((true, n) ∷ ts) s = ltb-true n 100 (and_parts (ltb n 100) (small ts) s).0
small_refusal ((false, n) ∷ ts) s = small_refusal ts (and_parts (ltb n 100) (small ts) s).1

-- a log and a digest of zeros
pub zero-log : replicate 566 0 ≡ empty_log
unfolding enough_words
zero-log = refl

-- what was refused leaves the area, and the text is the refusal's
refused-took : {area' : List ℕ} {t : Put} (area out text : List ℕ) → area' ≡ area → t ≡ put_of text out →
    took_by IsRefused area' t ≡ took_of (refuse area text) out
unfolding took_of
refused-took area out text a p = λ i. took_by IsRefused (a i) (p i)

-- ---- feed

module _ {number count : ℕ} {area' log' : List ℕ} (area bytes : List ℕ)
    (e : record { number = number; count = count; area = area'; log = log' } ≡ feed_of area (all_bits bytes) (replicate 566 0)) where
  feed_is : number ≡ feed_number area (all_bits bytes) (replicate 566 0)
  feed_is = ap (λ (o : AreaLog). o.number) e ∙ feed-number area (all_bits bytes) (replicate 566 0)

  pub feed-small : number < 100
  unfolding feed_number
  feed-small = rw feed_is (small_refusal (open_tests area ++ feed_tests (total_of area) (length (fed_bits area (piece_bits (all_bits bytes))).nodes) (all_bits bytes) (replicate 566 0)) refl)

  pub feed-room : number ≡ 0 → 2 * count ≤ 566
  feed-room z =
      let y = sym feed_is ∙ z in
      let c = ap (λ (o : AreaLog). o.count) (e ∙ feed-accepted area (all_bits bytes) (replicate 566 0) y) in
      rw c (feed-passed area (all_bits bytes) (replicate 566 0) y).room

  is_fed : record { number = number; count = count; area = area'; log = log' } ≡ feed_of area (all_bits bytes) empty_log
  is_fed = e ∙ ap (feed_of area (all_bits bytes)) zero-log

  feed-step-refused : (number ≡ 0 → ⊥) → refuse area (refused_number number) ≡ fed_step area bytes
  unfolding fed_step
  feed-step-refused h = rw (← is_fed) (answer_refused number number _ (λ k. refuse area (refused_number k)) refl h)

  pub feed_refuses : {t : Put} (out : List ℕ) → (number ≡ 0 → ⊥) → t ≡ put_of (refused_number number) out →
      took_by IsRefused area' t ≡ took_of (fed_step area bytes) out
  feed_refuses out h p =
      let a = ap (λ (o : AreaLog). o.area) (e ∙ sym (feed-refused area (all_bits bytes) (replicate 566 0) number feed_is h)) in
      refused-took area out (refused_number number) a p ∙ ap (λ (s : Step). took_of s out) (feed-step-refused h)

  feed-step : number ≡ 0 → record { program = InMessage; area = area'; text = node_lines count log' } ≡ fed_step area bytes
  unfolding fed_step
  feed-step z = rw (← is_fed, z)

  pub feed-gives : {t : Put} (out : List ℕ) → number ≡ 0 → length log' ≡ 566 → t ≡ put_of (node_lines (length (take (2 * count) log') / 2) (take (2 * count) log')) out →
      took_by InMessage area' t ≡ took_of (fed_step area bytes) out
  unfolding took_of
  feed-gives out z n p =
      let r = feed-room z in
      ap (took_by InMessage area') (p ∙ ap (λ (l : List ℕ). put_of l out) (nodes-front count log' (omega arith))) ∙ ap (λ (s : Step). took_of s out) (feed-step z)

-- ---- open

module _ {number count : ℕ} {area' : List ℕ} (area : List ℕ) (P : Params) (rest : List ℕ)
    (e : record { number = number; count = count; area = area' } ≡ open_of area P) where
  open_is : number ≡ open_number area P
  open_is = ap (λ (o : Opened). o.number) e ∙ open_number_lem area P

  pub open_small : number < 100
  unfolding open_number
  open_small = rw open_is (small_refusal (param_tests P ++ (short_test area P.limit ∷ [])) refl)

  open_step-refused : (number ≡ 0 → ⊥) → refuse area (refused_number number) ≡ opened_step area P rest
  unfolding opened_step
  open_step-refused h = rw (← e) (answer_refused number number _ (λ k. refuse area (refused_number k)) refl h)

  pub open_refuses : {t : Put} (out : List ℕ) → (number ≡ 0 → ⊥) → t ≡ put_of (refused_number number) out →
      took_by IsRefused area' t ≡ took_of (opened_step area P rest) out
  open_refuses out h p =
      let a = ap (λ (o : Opened). o.area) (e ∙ sym (open_refused area P number open_is h)) in
      refused-took area out (refused_number number) a p ∙ ap (λ (s : Step). took_of s out) (open_step-refused h)

  pub open_gives : number ≡ 0 → fed_step area' rest ≡ opened_step area P rest
  unfolding opened_step
  open_gives z = rw (← e, z)

-- ---- end

module _ {number count : ℕ} {area' digest' log' : List ℕ} (area : List ℕ)
    (e : record { number = number; count = count; area = area'; digest = digest'; log = log' } ≡ end_of area (replicate 64 0) (replicate 566 0)) where
  end_is : number ≡ end_number area (replicate 64 0) (replicate 566 0)
  end_is = ap (λ (o : Finished). o.number) e ∙ end-number area (replicate 64 0) (replicate 566 0)

  pub end-small : number < 100
  unfolding end_number
  end-small = rw end_is (small_refusal (open_tests area ++ end_tests (params_of area).d (length (last_nodes_of area)) (replicate 64 0) (replicate 566 0)) refl)

  pub end-room : number ≡ 0 → 2 * count ≤ 566
  end-room z =
      let y = sym end_is ∙ z in
      let c = ap (λ (o : Finished). o.count) (e ∙ end-accepted area (replicate 64 0) (replicate 566 0) y) in
      rw c (end-passed area (replicate 64 0) (replicate 566 0) y).room

  pub end-size : number ≡ 0 → digest_bytes (get_or area 3 0) ≤ 64
  unfolding params_of
  end-size z = (end-passed area (replicate 64 0) (replicate 566 0) (sym end_is ∙ z)).output

  is_ended : record { number = number; count = count; area = area'; digest = digest'; log = log' } ≡ end_of area empty_digest empty_log
  is_ended = e ∙ ap (end_of area empty_digest) zero-log

  end-step-refused : (number ≡ 0 → ⊥) → record { area = area; text = refused_number number } ≡ ended_step area
  unfolding ended_step
  end-step-refused h = rw (← is_ended) (answer_refused number number _ (λ k. record { area = area; text = refused_number k }) refl h)

  pub end_refuses : {t : Put} (out : List ℕ) → (number ≡ 0 → ⊥) → t ≡ put_of (refused_number number) out → took_last_by area' t ≡ took_last_of (ended_step area) out
  unfolding took_last_of
  end_refuses {t} out h p =
      let a = ap (λ (o : Finished). o.area) (e ∙ sym (end_refused area (replicate 64 0) (replicate 566 0) number end_is h)) in
      let b : took_last_by area' t ≡ took_last_of (record { area = area; text = refused_number number }) out = (λ i. took_last_by (a i) (p i)) in
      b ∙ ap (λ (l : Last). took_last_of l out) (end-step-refused h)

  end_step : number ≡ 0 → record { area = area'; text = node_lines count log' ++ digest_line (take (digest_bytes (get_or area 3 0)) digest') } ≡ ended_step area
  unfolding ended_step params_of
  end_step z = rw (← is_ended, z)

  pub end-gives : {t : Put} {n : ℕ} (out : List ℕ) → number ≡ 0 → length log' ≡ 566 → n ≡ digest_bytes (get_or area 3 0) →
      t ≡ put_of (node_lines (length (take (2 * count) log') / 2) (take (2 * count) log') ++ digest_line (take n digest')) out → took_last_by area' t ≡ took_last_of (ended_step area) out
  unfolding took_last_of
  end-gives {n = n} out z h e p =
      let r = end-room z in
      let f = nodes-front count log' (omega arith) in
      ap (took_last_by area') (p ∙ ap (λ (l : List ℕ). put_of (l ++ digest_line (take n digest')) out) f ∙ ap (λ (n : ℕ). put_of (node_lines count log' ++ digest_line (take n digest')) out) e)
      ∙ ap (λ (l : Last). took_last_of l out) (end_step z)

-- ---- by where the program has come to

module _ (area bytes : List ℕ) where
  pub take_in_line : (line : State) → scanned (first_line bytes) line area bytes ≡ take_of (InLine line) area bytes
  unfolding take_of
  take_in_line line = refl

  pub take_in_message : fed_step area bytes ≡ take_of InMessage area bytes
  unfolding take_of
  take_in_message = refl

  pub take-refused : (out : List ℕ) → record { program = IsRefused; count = 0; area = area; out = out } ≡ took_of (take_of IsRefused area bytes) out
  unfolding take_of took_of put_of
  take-refused out = refl

module _ (area out : List ℕ) where
  pub last_in_line : {t : Put} (line : State) → t ≡ put_of refused_line out → took_last_by area t ≡ took_last_of (last_of (InLine line) area) out
  unfolding last_of took_last_of
  last_in_line line e = ap (took_last_by area) e

  pub last_in_message : took_last_of (ended_step area) out ≡ took_last_of (last_of InMessage area) out
  unfolding last_of
  last_in_message = refl

  pub last-refused : record { count = 0; area = area; out = out } ≡ took_last_of (last_of IsRefused area) out
  unfolding last_of took_last_of put_of
  last-refused = refl

-- a line that cannot be read
pub line_refuses : {t : Put} (line : State) (area rest out : List ℕ) → reading_of line ≡ None → t ≡ put_of refused_line out →
    took_by IsRefused area t ≡ took_of (line_step (reading_of line) line area rest) out
unfolding took_of
line_refuses line area rest out h e = rw h (ap (took_by IsRefused area) e)

-- what a line that can be read opens a stream with, with these rounds
abbrev pub said_params : FirstLine → List ℕ → ℕ → Params
said_params l kept rounds = record { key = take l.key_bytes kept; d = l.d; limit = l.limit; rounds = rounds }

pub line-opens : {r : ℕ} (line : State) (area rest out : List ℕ) (l : FirstLine) → Some l ≡ reading_of line → r ≡ rounds_for l.rounds l.d l.key_bytes →
    took_of (opened_step area (said_params l line.key.bytes r) rest) out ≡ took_of (line_step (reading_of line) line area rest) out
line-opens line area rest out l h e = rw (← h, e)

-- one that goes on
pub no_text : (p : Program) (area out : List ℕ) → record { program = p; count = 0; area = area; out = out } ≡ took_of (record { program = p; area = area; text = [] }) out
unfolding took_of put_of
no_text p area out = refl
