-- Laws: demand 3, the one theorem about every run. Its only hypothesis is that it is a run.
use Rattle.std.specs.Prelude.{◌≡◌, Bool, ℕ}
use Rattle.std.proofs.Common.{sym, ◌∙◌, arith}
use Rattle.std.proofs.lemmas.List.{length-map}
use Rattle.tree.specs.Tree.{Params, Mark, order}
use Rattle.runs.specs.Runs.{Run, shares, answers_of, area_of, message_of}
use Rattle.runs.specs.Statements.{Demand3}
use Rattle.runs.proofs.Suspend.{at-sound}
use Rattle.runs.proofs.Induction.{Fits, going, over, fits-at, run_fits, run-previews, run-closes}

pub demand3 : (r : Run) → Demand3 r
demand3 r = by (run_fits r).1
  where
    P : Params
    P = r.params

    by : {e : Bool} → Fits P (shares (answers_of r)) (area_of r) e → Demand3 r
    by (going g) =
        let h = g.stands.head in
        record {
          log = rw g.output g.log;
          count = rw g.output g.count;
          previews = run-previews r;
          closes = run-closes r;
          digest = λ out q. let z : ◌≡◌ {A = ℕ} 0 1 = cc (g.output, q) in absurd (omega arith);
          long = rw h.params at h.long;
          sound = at-sound (fits-at (going g));
          phase = rw g.output g.stands.phase;
          total = h.total;
          params = h.params;
          message_short = h.short;
          valid = h.valid;
        }
    by (over g) =
        let h = g.ended.head in
        record {
          log = rw g.output g.log;
          count = rw g.output (g.count ∙ sym (length-map (order P (message_of r)) (λ (m : Mark). m.node)));
          previews = run-previews r;
          closes = run-closes r;
          digest = λ out q. let s : out ≡ g.out = cc (g.output, q) in rw s g.digest;
          long = rw h.params at h.long;
          sound = at-sound (fits-at (over g));
          phase = rw g.output g.ended.phase;
          total = h.total;
          params = h.params;
          message_short = h.short;
          valid = h.valid;
        }
