-- Laws: being a run, and lent numbers being bytes or words, shown by computing a test; and all that an example of a run is to show, to be
-- computed at once.
use Rattle.std.specs.Prelude.{◌≡◌, refl, Bool, true, false, ◌&&◌, Option, Some, None, option_map, List, [], ◌∷◌, map, ℕ, ◌+◌, eqb, ltb, replicate}
use Rattle.std.proofs.Common.{ap, arith, eqb-true, ltb-true}
use Rattle.lists.specs.Append.{cons_eq}
use Rattle.lists.specs.Below.{Below, more, none as nil}
use Rattle.lists.specs.And.{and_parts}
use Rattle.bits.specs.Piece.{Piece}
use Rattle.tree.specs.Tree.{Params, most_limit, order, digest, node_log}
use Rattle.calls.specs.Area.{area_words}
use Rattle.calls.specs.Calls.{open_of}
use Rattle.lists.specs.Same.{same}
use Rattle.lists.specs.SameLaws.{same_eq}
use Rattle.runs.specs.Runs.{Bytes, Call, Outcome, outcome_of, Role, between, writes, reads, outside, opens, role_of, suspended, Allowed, Goes, Run, Answered, answered, Share, shares, answers_of, digest_in}
use Rattle.runs.specs.Statements.{nodes_for, pieces_in, pieces_of}

-- lent numbers below a bound, by a test
abbrev all_below : ℕ → List ℕ → Bool
all_below b [] = true
all_below b (x ∷ xs) = ltb x b && all_below b xs

pub lent : {b : ℕ} (xs : List ℕ) → all_below b xs ≡ true → Below b xs
lent [] e = nil
lent {b} (x ∷ xs) e = go (ltb x b) refl e (λ f. lent xs f)
  where
    go : (t : Bool) → ltb x b ≡ t → (t && all_below b xs) ≡ true → (all_below b xs ≡ true → Below b xs) → Below b (x ∷ xs)
    go true l f rest = more (ltb-true x b l) (rest f)
    go false l f rest = let z : ◌≡◌ {A = ℕ} 0 1 = cc in absurd (omega arith)

-- whether calls may follow on an area, by a test
abbrev allowed_if : Option (List ℕ) → Role → Bool
allowed_if before between = true
allowed_if before (writes text) = true
allowed_if None (reads text) = false
allowed_if (Some before) (reads text) = same before text
allowed_if before outside = true
allowed_if before opens = false

-- calls with their numbers
abbrev pub Numbered : Type 0
Numbered = Call × ℕ

abbrev calls_of : List Numbered → List Call
calls_of list = map (λ (x : Numbered). x.0) list

unfoldable pub goes_if : List ℕ → Option (List ℕ) → List Numbered → Bool
goes_if area text [] = true
goes_if area text (x ∷ list) =
    let o : Outcome = outcome_of area x.0 in
    let r : Role = role_of x.0 o in
    (eqb o.number x.1 && (allowed_if text r && goes_if o.area (suspended text r) list))

allowed_is : (text : Option (List ℕ)) (r : Role) → allowed_if text r ≡ true → Allowed text r
allowed_is before between e = tt
allowed_is before (writes text) e = tt
allowed_is None (reads text) e = let z : ◌≡◌ {A = ℕ} 0 1 = cc in absurd (omega arith)
allowed_is (Some before) (reads text) e = ap Some (same_eq before text e)
allowed_is before outside e = tt
allowed_is before opens e = let z : ◌≡◌ {A = ℕ} 0 1 = cc in absurd (omega arith)

-- they may follow, and these are their numbers
pub goes_is : (area : List ℕ) (text : Option (List ℕ)) (list : List Numbered) → goes_if area text list ≡ true
    → Goes area text (calls_of list) × (map (λ (a : Answered). a.outcome.number) (answered area (calls_of list)) ≡ map (λ (x : Numbered). x.1) list)
unfolding goes_if Goes answered
goes_is area text [] e = (tt, refl)
goes_is area text (x ∷ list) e =
    let o : Outcome = outcome_of area x.0 in
    let r : Role = role_of x.0 o in
    let p = and_parts (eqb o.number x.1) _ e in
    let q = and_parts (allowed_if text r) (goes_if o.area (suspended text r) list) p.1 in
    let rest = goes_is o.area (suspended text r) list q.1 in
    ((allowed_is text r q.0, rest.0), cons_eq (eqb-true o.number x.1 p.0) rest.1)

-- ---- an example, and what is computed of it

-- areas with something in them
abbrev pub used : List ℕ
used = replicate (area_words most_limit + 1) 7

abbrev pub other : List ℕ
other = replicate (area_words most_limit + 6) 5

-- digits 0
abbrev pub zeros : ℕ → List ℕ
zeros n = replicate n 48

-- what a used area is opened with, each call with its number, the calls' counts, the pieces fed, and what the calls add up to
pub record Example : Type 0 where
  pub params : Params
  pub list : List Numbered
  pub counts : List ℕ
  pub pieces : List Piece
  pub share : Share

abbrev opened : Example → List ℕ
opened x = (open_of used x.params).area

abbrev counts_in : List Answered → List ℕ
counts_in = map (λ (a : Answered). a.outcome.count)

-- the open's number; whether the calls may follow, with these numbers; their counts; the pieces fed; message, log, count and output;
-- and of the message's tree the nodes that the log is to have and, after an end, the digest
pub record Checked : Type 0 where
  pub opens : ℕ
  pub goes : Bool
  pub counts : List ℕ
  pub pieces : List Piece
  pub share : Share
  pub nodes : List ℕ
  pub digest : Option (List ℕ)

abbrev pub computed : Example → Checked
computed x =
    let answers : List Answered = answered (opened x) (calls_of x.list) in
    record {
      opens = (open_of used x.params).number;
      goes = goes_if (opened x) None x.list;
      counts = counts_in answers;
      pieces = pieces_in answers;
      share = shares answers;
      nodes = node_log (nodes_for x.share.output (order x.params x.share.bits));
      digest = option_map (λ (out : List ℕ). digest x.params x.share.bits) x.share.output;
    }

abbrev pub expected : Example → Checked
expected x = record {
  opens = 0;
  goes = true;
  counts = x.counts;
  pieces = x.pieces;
  share = x.share;
  nodes = x.share.log;
  digest = option_map (digest_in x.params) x.share.output;
}

-- ---- the run

unfoldable pub run_of : (x : Example) → Bytes x.params.key → computed x ≡ expected x → Run
run_of x b e = record {
  area = used;
  params = x.params;
  calls = calls_of x.list;
  words = lent used refl;
  bytes = b;
  opened = ap (λ (c : Checked). c.opens) e;
  goes = (goes_is (opened x) None x.list (ap (λ (c : Checked). c.goes) e)).0;
}

-- the numbers and counts of a run's calls, the pieces fed, and what the calls add up to; by the definition of the tree the log and the
-- digest are the same
pub record Gives (r : Run) (ns cs : List ℕ) (ps : List Piece) (s : Share) : Type 0 where
  pub numbers : map (λ (a : Answered). a.outcome.number) (answers_of r) ≡ ns
  pub counts : counts_in (answers_of r) ≡ cs
  pub pieces : pieces_of r ≡ ps
  pub share : shares (answers_of r) ≡ s
  pub log : node_log (nodes_for s.output (order r.params s.bits)) ≡ s.log
  pub digest : option_map (λ (out : List ℕ). digest r.params s.bits) s.output ≡ option_map (digest_in r.params) s.output

pub gives : (x : Example) (b : Bytes x.params.key) (e : computed x ≡ expected x)
    → Gives (run_of x b e) (map (λ (n : Numbered). n.1) x.list) x.counts x.pieces x.share
unfolding run_of
gives x b e = record {
  numbers = (goes_is (opened x) None x.list (ap (λ (c : Checked). c.goes) e)).1;
  counts = ap (λ (c : Checked). c.counts) e;
  pieces = ap (λ (c : Checked). c.pieces) e;
  share = ap (λ (c : Checked). c.share) e;
  log = ap (λ (c : Checked). c.nodes) e;
  digest = ap (λ (c : Checked). c.digest) e;
}
