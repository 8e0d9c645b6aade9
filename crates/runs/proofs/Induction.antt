-- Laws: the proof of demand 3 over the list of calls, by their effects.
use Rattle.std.specs.Prelude.{◌≡◌, refl, Bool, true, false, Option, Some, None, ℕ, length, drop}
use Rattle.std.proofs.Common.{sym, ap, ◌∙◌, subst, zero-add, add-zero, add_assoc, arith, length-append}
use mathlib.Core.List.{List, [], ◌∷◌, ◌++◌, append_assoc, append-nil, head-eq_of_cons-eq, tail-eq_of_cons-eq}
use Rattle.tree.specs.Tree.{Params, order, digest, digest_bytes, node_log}
use Rattle.calls.specs.Calls.{open_of, preview_of, close_of}
use Rattle.calls.specs.Marks.{all_nodes, settled}
use Rattle.calls.proofs.Stands.{settled-opened, Stands, HasEnded}
use Rattle.calls.proofs.CallLaws.{preview-number, close-number}
use Rattle.calls.proofs.Accepts.{preview-ended, close-ended}
use Rattle.calls.proofs.Meets.{open_one, preview-one, close-one}
use Rattle.runs.specs.Runs.{Bytes, Words, Call, preview, close, Outcome, Answered, outcome_of, suspended, role_of, Goes, Run, Share, nothing, share_of, first_of, joined_shares, answered, area_after, shares, answers_of, area_of, digest_in}
use Rattle.runs.proofs.Suspend.{At, is_open, has_ended}
use Rattle.runs.proofs.Effects.{Effect, still, fed, ended, moved, Held, step}

-- ---- shares joined

joined_none : (s : Share) → joined_shares s nothing ≡ s
unfolding joined_shares
joined_none s = rw (append-nil s.bits, append-nil s.log, add-zero s.count, last s.output) refl
  where
    last : (o : Option (List ℕ)) → first_of o None ≡ o
    last None = refl
    last (Some out) = refl

none_joined : (s : Share) → joined_shares nothing s ≡ s
unfolding joined_shares
none_joined s = rw (zero-add s.count) refl

joined_assoc : (a b c : Share) → joined_shares (joined_shares a b) c ≡ joined_shares a (joined_shares b c)
unfolding joined_shares
joined_assoc a b c =
    rw (append_assoc a.bits b.bits c.bits, append_assoc a.log b.log c.log, add_assoc a.count b.count c.count, first a.output) refl
  where
    first : (o : Option (List ℕ)) → first_of (first_of o b.output) c.output ≡ first_of o (first_of b.output c.output)
    first None = refl
    first (Some out) = refl

-- ---- what the calls so far added, and the area as the last of them left it

pub record Going (P : Params) (s : Share) (area : List ℕ) : Type 0 where
  pub stands : Stands P s.bits area
  pub log : s.log ≡ node_log (settled (order P s.bits))
  pub count : s.count ≡ length (settled (order P s.bits))
  pub output : s.output ≡ None

pub record Over (P : Params) (s : Share) (area : List ℕ) : Type 0 where
  pub ended : HasEnded P s.bits area
  pub log : s.log ≡ node_log (all_nodes (order P s.bits))
  pub count : s.count ≡ length (order P s.bits)
  pub out : List ℕ
  pub output : s.output ≡ Some out
  pub digest : digest_in P out ≡ digest P s.bits

pub data Fits (P : Params) (s : Share) (area : List ℕ) : Bool → Type 0 where
  going : Going P s area → Fits P s area false
  over : Over P s area → Fits P s area true

pub fits-at : {P : Params} {s : Share} {area : List ℕ} {e : Bool} → Fits P s area e → At P s.bits area e
fits-at (going g) = is_open g.stands
fits-at (over g) = has_ended g.ended

-- the same stream in another area
moved-fits : {P : Params} {s : Share} {area to : List ℕ} {e : Bool} → Fits P s area e → At P s.bits to e → Fits P s to e
moved-fits (going g) (is_open t) = going record { stands = t; log = g.log; count = g.count; output = g.output }
moved-fits (over g) (has_ended t) = over record {
  ended = t;
  log = g.log;
  count = g.count;
  out = g.out;
  output = g.output;
  digest = g.digest;
}

-- an effect keeps this; it is all that the proof of the list knows of a call
effect-fits : {P : Params} {s add : Share} {area to : List ℕ} {e f : Bool} → Fits P s area e → Effect P s.bits area add to e f
    → Fits P (joined_shares s add) to f
unfolding joined_shares
effect-fits {s = s} f (still n t) = rw (n, joined_none s, t) f
effect-fits {s = s} f (moved n at) = rw (n, joined_none s) (moved-fits f at)
effect-fits {P = P} {s = s} {add = add} (going g) (fed d) = going record {
  stands = d.stands;
  log = rw g.log (sym d.log);
  count = rw g.count (sym d.count);
  output = rw g.output d.output;
}
effect-fits {P = P} {s = s} {add = add} (going g) (ended d) = over record {
  ended = rw (d.bits, append-nil s.bits) d.ended;
  log = rw (d.bits, append-nil s.bits, g.log) (sym d.log);
  count = rw (d.bits, append-nil s.bits, g.count) (sym d.count);
  out = d.out;
  output = rw g.output d.output;
  digest = rw (d.bits, append-nil s.bits) d.digest;
}

-- ---- the list

list-fits : {e : Bool} (P : Params) (s : Share) (area : List ℕ) (text : Option (List ℕ)) (cs : List Call) → Fits P s area e → Held text area
    → Goes area text cs → (f : Bool) × Fits P (joined_shares s (shares (answered area cs))) (area_after area cs) f
unfolding Goes answered area_after shares
list-fits {e} P s area text [] f h g = (e, rw (joined_none s) f)
list-fits {e} P s area text (c ∷ cs) f h g =
    let o : Outcome = outcome_of area c in
    let add : Share = share_of c o in
    let t = step P s.bits area text h c (fits-at f) g.0 in
    let r = list-fits {e = t.after} P (joined_shares s add) o.area (suspended text (role_of c o)) cs (effect-fits f t.effect) t.held g.1 in
    (r.0, rw (← joined_assoc s add (shares (answered o.area cs))) r.1)

-- ---- one call of the list

-- a call with its outcome that was reached when the calls before it had added a share
pub record Reached (P : Params) (s : Share) (a : Answered) : Type 0 where
  pub area : List ℕ
  pub over : Bool
  pub fits : Fits P s area over
  pub is : outcome_of area a.call ≡ a.outcome

list_reached : {e : Bool} (P : Params) (s : Share) (area : List ℕ) (text : Option (List ℕ)) (cs : List Call) → Fits P s area e → Held text area → Goes area text cs
    → (before : List Answered) (a : Answered) (after : List Answered) → answered area cs ≡ before ++ (a ∷ after) → Reached P (joined_shares s (shares before)) a
unfolding Goes answered shares
list_reached P s area text [] f h g before a after q = absurd (omega (arith, ap length q, length-append before (a ∷ after)))
list_reached {e} P s area text (c ∷ cs) f h g [] a after q =
    subst (λ (x : Answered). Reached P (joined_shares s nothing) x) (head-eq_of_cons-eq q)
    record { area = area; over = e; fits = rw (joined_none s) f; is = refl }
list_reached {e} P s area text (c ∷ cs) f h g (b ∷ before) a after q =
    let o : Outcome = outcome_of area c in
    let add : Share = share_of c o in
    let t = step P s.bits area text h c (fits-at f) g.0 in
    let r = list_reached {e = t.after} P (joined_shares s add) o.area (suspended text (role_of c o)) cs (effect-fits f t.effect) t.held g.1 before a after (tail-eq_of_cons-eq q) in
    subst (λ (x : Answered). Reached P (joined_shares s (joined_shares (share_of x.call x.outcome) (shares before))) a) (head-eq_of_cons-eq q)
    (rw (joined_assoc s add (shares before)) at r)

-- a preview: it writes the digest of the message so far
pub preview-fits : {P : Params} {s : Share} {area : List ℕ} {e : Bool} (out : List ℕ) → Fits P s area e → (preview_of area out).number ≡ 0
    → (preview_of area out).digest ≡ digest P s.bits ++ drop (digest_bytes P.d) out
preview-fits {P} {s} {area} out (going g) z = preview-one P s.bits area out g.stands z
preview-fits {P} {s} {area} out (over g) z = absurd (omega (arith, preview-number area out, preview-ended g.ended out))

-- a close: its figure is that digest
close-fits : {P : Params} {s : Share} {area : List ℕ} {e : Bool} (figure log : List ℕ) → Fits P s area e → (close_of area figure log).number ≡ 0
    → figure ≡ digest P s.bits
close-fits {P} {s} {area} figure log (going g) z = (close-one P s.bits area figure log g.stands z).digest
close-fits {P} {s} {area} figure log (over g) z = absurd (omega (arith, close-number area figure log, close-ended g.ended figure log))

-- ---- a run, from its accepted open

opened : (r : Run) → Going r.params nothing (open_of r.area r.params).area
opened r = record {
  stands = open_one r.area r.params r.bytes r.opened;
  log = rw (settled-opened r.params) refl;
  count = rw (settled-opened r.params) refl;
  output = refl;
}

pub run_fits : (r : Run) → (e : Bool) × Fits r.params (shares (answers_of r)) (area_of r) e
run_fits r =
    let f = list-fits r.params nothing (open_of r.area r.params).area None r.calls (going (opened r)) tt r.goes in
    (f.0, rw (none_joined (shares (answers_of r))) at f.1)

run_reached : (r : Run) (before : List Answered) (a : Answered) (after : List Answered) → answers_of r ≡ before ++ (a ∷ after)
    → Reached r.params (shares before) a
run_reached r before a after q =
    rw (none_joined (shares before)) at
    (list_reached r.params nothing (open_of r.area r.params).area None r.calls (going (opened r)) tt r.goes before a after q)

pub run-previews : (r : Run) (before : List Answered) (out : List ℕ) (b : Bytes out) (o : Outcome) (after : List Answered)
    → answers_of r ≡ before ++ (record { call = preview out b; outcome = o } ∷ after) → o.number ≡ 0
    → o.output ≡ digest r.params (shares before).bits ++ drop (digest_bytes r.params.d) out
unfolding outcome_of
run-previews r before out b o after q z =
    let x = run_reached r before (record { call = preview out b; outcome = o }) after q in
    sym (ap (λ (p : Outcome). p.output) x.is) ∙ preview-fits out x.fits (ap (λ (p : Outcome). p.number) x.is ∙ z)

pub run-closes : (r : Run) (before : List Answered) (figure log : List ℕ) (b : Bytes figure) (w : Words log) (o : Outcome) (after : List Answered)
    → answers_of r ≡ before ++ (record { call = close figure log b w; outcome = o } ∷ after) → o.number ≡ 0
    → figure ≡ digest r.params (shares before).bits
unfolding outcome_of
run-closes r before figure log b w o after q z =
    let x = run_reached r before (record { call = close figure log b w; outcome = o }) after q in
    close-fits figure log x.fits (ap (λ (p : Outcome). p.number) x.is ∙ z)
