-- Laws: the effect of each call of a run on an area that stands for a message: none, bits fed, ended, or moved to another area.
-- A call of a later request costs one constructor of `Call`, its line in each definition of `Runs`, and one lemma here.
use Rattle.std.specs.Prelude.{◌≡◌, Bool, true, false, Option, Some, None, List, [], ◌++◌, ℕ, zero, suc, ◌+◌, ◌^◌, ◌<◌, length, take, drop}
use Rattle.std.proofs.Math.Path.{refl, ap}
use Rattle.std.proofs.Common.{sym, ◌∙◌, subst, arith, take_all, take_at}
use Rattle.bits.specs.BitsLaws.{length-numbers}
use Rattle.bits.specs.Piece.{Piece}
use Rattle.tree.specs.Tree.{Params, order, digest, digest_bytes, node_log}
use Rattle.calls.specs.Calls.{Opened, AreaLog, Finished, open_number, open_of, feed_number, feed_of, end_number, end_of, preview_number, close_number, log_words_number}
use Rattle.calls.specs.Marks.{all_nodes, settled}
use Rattle.calls.proofs.CallLaws.{OpenArea, open_number_lem, open_refused, feed-number, feed-refused, feed-passed, end-number, end_refused, end-passed, preview-number, close-number, close-refused, close_passed, log_words-number}
use Rattle.calls.proofs.Stands.{Stands, HasEnded}
use Rattle.calls.proofs.Meets.{feed-one, end-one, close-one}
use Rattle.texts.specs.Text.{Taken, text_of, write_number, read_number, read_of}
use Rattle.texts.proofs.ReadLaws.{read_number_lem, read-refused, write-number, written-text}
use Rattle.runs.specs.Runs.{Bytes, Words, Call, feed, end, preview, close, show, log_words, write, read, read_into, reopen, unless, outcome_of, accepted_role, role_of, suspended, Allowed, Share, nothing, accepted_share, share_of, digest_in}
use Rattle.runs.proofs.Suspend.{At, is_open, has_ended, at_resumed}

-- all of a list
all-taken : (l : List ℕ) (n : ℕ) → length l ≡ n → take n l ≡ l
all-taken l n e = take_all n l (omega arith)

-- ---- effects

-- an accepted feed: the area stands for a longer message, and the log goes on to the nodes that do not reach its last bit
pub record Feeds (P : Params) (M : List Bool) (add : Share) (to : List ℕ) : Type 0 where
  pub stands : Stands P (M ++ add.bits) to
  pub log : node_log (settled (order P (M ++ add.bits))) ≡ node_log (settled (order P M)) ++ add.log
  pub count : length (settled (order P (M ++ add.bits))) ≡ length (settled (order P M)) + add.count
  pub output : add.output ≡ None

-- an accepted end: the area has ended, the log goes on to all nodes, and the digest is the tree's
pub record Ends (P : Params) (M : List Bool) (add : Share) (to : List ℕ) : Type 0 where
  pub ended : HasEnded P M to
  pub bits : add.bits ≡ []
  pub log : node_log (all_nodes (order P M)) ≡ node_log (settled (order P M)) ++ add.log
  pub count : length (order P M) ≡ length (settled (order P M)) + add.count
  pub out : List ℕ
  pub output : add.output ≡ Some out
  pub digest : digest_in P out ≡ digest P M

-- what a call makes of an area that stands for M: what it adds to the run, where the stream then is, and whether it had and has
-- ended
pub data Effect (P : Params) (M : List Bool) (area : List ℕ) (add : Share) (to : List ℕ) : Bool → Bool → Type 0 where
  still : {e : Bool} → add ≡ nothing → to ≡ area → Effect P M area add to e e
  fed : Feeds P M add to → Effect P M area add to false false
  ended : Ends P M add to → Effect P M area add to false true
  moved : {e : Bool} → add ≡ nothing → At P M to e → Effect P M area add to e e

-- the text that may be read is the area's own
abbrev pub Held : Option (List ℕ) → List ℕ → Type 0
Held None area = Unit {0}
Held (Some text) area = text ≡ text_of area

-- a call with its effect, after which the text that may be read is still the area's own
pub record Step (P : Params) (M : List Bool) (area : List ℕ) (e : Bool) (text : Option (List ℕ)) (c : Call) : Type 0 where
  pub after : Bool
  pub effect : Effect P M area (share_of c (outcome_of area c)) (outcome_of area c).area e after
  pub held : Held (suspended text (role_of c (outcome_of area c))) (outcome_of area c).area

module _ (P : Params) (M : List Bool) (area : List ℕ) (text : Option (List ℕ)) (h : Held text area) where
  -- a refused call
  refused : {e : Bool} (c : Call) (k : ℕ) → (outcome_of area c).number ≡ suc k → (outcome_of area c).area ≡ area → Step P M area e text c
  unfolding share_of role_of
  refused {e} c k n a = record { after = e; effect = still (rw n refl) a; held = rw (n, a) h }

  -- an accepted one, in which the definitions of `Runs` go by the call alone
  share_of_lem : (c : Call) → (outcome_of area c).number ≡ 0 → share_of c (outcome_of area c) ≡ accepted_share c (outcome_of area c)
  unfolding share_of
  share_of_lem c n = rw n refl

  role_of_lem : (c : Call) → (outcome_of area c).number ≡ 0 → role_of c (outcome_of area c) ≡ accepted_role c (outcome_of area c)
  unfolding role_of
  role_of_lem c n = rw n refl

  -- ---- one lemma a call

  feed-step : {e : Bool} (piece : Piece) (log : List ℕ) (b : Bytes piece.bytes) (t : piece.start < 2 ^ 64) (s : piece.count < 2 ^ 64) (w : Words log) → At P M area e
      → Step P M area e text (feed piece log b t s w)
  unfolding outcome_of
  feed-step piece log b t s w at = by (feed_number area piece log) refl at
    where
      c : Call
      c = feed piece log b t s w

      f : AreaLog
      f = feed_of area piece log

      number : f.number ≡ feed_number area piece log
      number = feed-number area piece log

      by : {e : Bool} (k : ℕ) → feed_number area piece log ≡ k → At P M area e → Step P M area e text c
      by (suc k) q at = refused c k (number ∙ q) (ap (λ (x : AreaLog). x.area) (sym (feed-refused area piece log (suc k) (sym q) (omega arith))))
      by zero q (is_open s) =
          let o = feed-one P M area piece log s (number ∙ q) in
          record {
            after = false;
            effect = fed (rw (share_of_lem c (number ∙ q)) (record { stands = o.stands; log = o.log; count = o.count; output = refl }));
            held = rw (role_of_lem c (number ∙ q)) tt;
          }
      by zero q (has_ended s) = absurd ((feed-passed area piece log q).opened.phase s.phase)

  -- a call that ends the stream if it is accepted
  ending : {e : Bool} (c : Call) (k : ℕ) → (outcome_of area c).number ≡ k → ((j : ℕ) → k ≡ suc j → (outcome_of area c).area ≡ area)
      → (k ≡ 0 → OpenArea area) → (k ≡ 0 → Stands P M area → Ends P M (accepted_share c (outcome_of area c)) (outcome_of area c).area)
      → suspended text (accepted_role c (outcome_of area c)) ≡ None → At P M area e → Step P M area e text c
  ending c (suc k) n a o f r at = refused c k n (a k refl)
  ending c zero n a o f r (is_open s) = record { after = true; effect = ended (rw (share_of_lem c n) (f refl s)); held = rw (role_of_lem c n, r) tt }
  ending c zero n a o f r (has_ended s) = absurd ((o refl).phase s.phase)

  end_step : {e : Bool} (out log : List ℕ) (b : Bytes out) (w : Words log) → At P M area e → Step P M area e text (end out log b w)
  unfolding outcome_of
  end_step out log b w =
      ending (end out log b w) (end_number area out log) (end-number area out log)
      (λ j q. ap (λ (x : Finished). x.area) (sym (end_refused area out log (suc j) (sym q) (omega arith))))
      (λ q. (end-passed area out log q).opened)
      (λ q s. let o = end-one P M area out log s (end-number area out log ∙ q) in
      record {
        ended = o.ended;
        bits = refl;
        log = o.log;
        count = o.count;
        out = (end_of area out log).digest;
        output = refl;
        digest = rw o.digest (take_at (digest P M) (drop (digest_bytes P.d) out) (digest_bytes P.d) (length-numbers 8 (digest_bytes P.d) _));
      })
      refl

  close-step : {e : Bool} (figure log : List ℕ) (b : Bytes figure) (w : Words log) → At P M area e → Step P M area e text (close figure log b w)
  unfolding outcome_of
  close-step figure log b w =
      ending (close figure log b w) (close_number area figure log) (close-number area figure log)
      (λ j q. ap (λ (x : AreaLog). x.area) (sym (close-refused area figure log (suc j) (sym q) (omega arith))))
      (λ q. (close_passed area figure log q).opened)
      (λ q s. let o = close-one P M area figure log s (close-number area figure log ∙ q) in
      record {
        ended = o.ended;
        bits = refl;
        log = o.log;
        count = o.count;
        out = figure;
        output = refl;
        digest = rw o.digest (all-taken (digest P M) (digest_bytes P.d) (length-numbers 8 (digest_bytes P.d) _));
      })
      refl

  show-step : {e : Bool} (level : ℕ) → Step P M area e text (show level)
  unfolding outcome_of share_of role_of
  show-step {e} level = record { after = e; effect = still refl refl; held = h }

  -- a call that leaves the area as it was and adds nothing to the run, whether it is accepted or not
  quiet : {e : Bool} (c : Call) (k : ℕ) → (outcome_of area c).number ≡ k → (outcome_of area c).area ≡ area
      → accepted_share c (outcome_of area c) ≡ nothing → (k ≡ 0 → Held (suspended text (accepted_role c (outcome_of area c))) area) → Step P M area e text c
  quiet c (suc k) n a s r = refused c k n a
  quiet {e} c zero n a s r = record {
    after = e;
    effect = still (share_of_lem c n ∙ s) a;
    held = rw (role_of_lem c n) (subst (λ (l : List ℕ). Held (suspended text (accepted_role c (outcome_of area c))) l) (sym a) (r refl));
  }

  log_words-step : {e : Bool} (bits : ℕ) (s : bits < 2 ^ 64) → Step P M area e text (log_words bits s)
  unfolding outcome_of
  log_words-step bits s = quiet (log_words bits s) (log_words_number area bits) (log_words-number area bits) refl refl (λ q. tt)

  preview-step : {e : Bool} (out : List ℕ) (b : Bytes out) → Step P M area e text (preview out b)
  unfolding outcome_of
  preview-step out b = quiet (preview out b) (preview_number area out) (preview-number area out) refl refl (λ q. tt)

  write_step : {e : Bool} (out : List ℕ) (b : Bytes out) → Step P M area e text (write out b)
  unfolding outcome_of
  write_step out b = quiet (write out b) (write_number area out) (write-number area out) refl refl (written-text area out)

  -- the text of an accepted read is the area's own
  read-text : (x : List ℕ) → text ≡ Some x → x ≡ text_of area
  read-text x t = subst (λ (o : Option (List ℕ)). Held o area) t h

  read_step : {e : Bool} (x : List ℕ) (b : Bytes x) → At P M area e → Allowed text (role_of (read x b) (outcome_of area (read x b)))
      → Step P M area e text (read x b)
  unfolding outcome_of
  read_step {e} x b at a = by (read_number area x) refl
    where
      c : Call
      c = read x b

      number : (read_of area x).number ≡ read_number area x
      number = read_number_lem area x

      by : (k : ℕ) → read_number area x ≡ k → Step P M area e text c
      by (suc k) q = refused c k (number ∙ q) (ap (λ (t : Taken). t.area) (sym (read-refused area x (suc k) (sym q) (omega arith))))
      by zero q =
          let t : text ≡ Some x = rw (role_of_lem c (number ∙ q)) at a in
          record {
            after = e;
            effect = moved (share_of_lem c (number ∙ q)) (at_resumed area area x at (read-text x t) q);
            held = rw (role_of_lem c (number ∙ q)) tt;
          }

  read_into-step : {e : Bool} (other x : List ℕ) (w : Words other) (b : Bytes x) → At P M area e
      → Allowed text (role_of (read_into other x w b) (outcome_of area (read_into other x w b))) → Step P M area e text (read_into other x w b)
  unfolding outcome_of
  read_into-step {e} other x w b at a = by (read_number other x) refl
    where
      c : Call
      c = read_into other x w b

      number : (read_of other x).number ≡ read_number other x
      number = read_number_lem other x

      by : (k : ℕ) → read_number other x ≡ k → Step P M area e text c
      by (suc k) q = refused c k (number ∙ q) (ap (λ (j : ℕ). unless j area (read_of other x).area) (number ∙ q))
      by zero q =
          let t : text ≡ Some x = rw (role_of_lem c (number ∙ q)) at a in
          let z : (read_of other x).number ≡ 0 = number ∙ q in
          let to : (outcome_of area c).area ≡ (read_of other x).area = cc in
          record {
            after = e;
            effect = moved {e = e} (share_of_lem c z) (subst (λ (l : List ℕ). At P M l e) (sym to) (at_resumed area other x at (read-text x t) q));
            held = rw (role_of_lem c (number ∙ q)) tt;
          }

  reopen-step : {e : Bool} (Q : Params) (b : Bytes Q.key) → Allowed text (role_of (reopen Q b) (outcome_of area (reopen Q b)))
      → Step P M area e text (reopen Q b)
  unfolding outcome_of
  reopen-step {e} Q b a = by (open_number area Q) refl
    where
      c : Call
      c = reopen Q b

      number : (open_of area Q).number ≡ open_number area Q
      number = open_number_lem area Q

      by : (k : ℕ) → open_number area Q ≡ k → Step P M area e text c
      by (suc k) q = refused c k (number ∙ q) (ap (λ (o : Opened). o.area) (sym (open_refused area Q (suc k) (sym q) (omega arith))))
      by zero q = absurd (rw (role_of_lem c (number ∙ q)) at a)

  -- every call has an effect
  pub step : {e : Bool} (c : Call) → At P M area e → Allowed text (role_of c (outcome_of area c)) → Step P M area e text c
  step (feed piece log b t s w) at a = feed-step piece log b t s w at
  step (end out log b w) at a = end_step out log b w at
  step (preview out b) at a = preview-step out b
  step (close figure log b w) at a = close-step figure log b w at
  step (show level) at a = show-step level
  step (log_words bits s) at a = log_words-step bits s
  step (write out b) at a = write_step out b
  step (read x b) at a = read_step x b at a
  step (read_into other x w b) at a = read_into-step other x w b at a
  step (reopen Q b) at a = reopen-step Q b a
