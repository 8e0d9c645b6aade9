-- Laws: what is a run, and what is none.
use Rattle.std.specs.Prelude.{◌≡◌, Option, Some, None, List, ◌∷◌, ℕ, suc, ◌^◌, ◌<◌}
use Rattle.std.proofs.Math.Path.{refl, ap}
use Rattle.bits.specs.Piece.{Piece}
use Rattle.tree.specs.Tree.{Params}
use Rattle.calls.specs.Calls.{open_of, feed_of, preview_of, log_words_of}
use Rattle.texts.specs.Text.{read_of}
use Rattle.runs.specs.Runs.{Bytes, Words, Call, feed, preview, log_words, read, read_into, reopen, unless, outcome_of, role_of, suspended, Goes}

module _ (area : List ℕ) (text : Option (List ℕ)) where
  -- a list with an accepted open is no run
  pub no_open : (P : Params) (b : Bytes P.key) (cs : List Call) → (open_of area P).number ≡ 0 → ¬ Goes area text (reopen P b ∷ cs)
  unfolding Goes role_of outcome_of
  no_open P b cs e g = rw e at g.0

  -- nor is one with an accepted read of another text than that of a suspension, into this area or another
  pub no_read : (x : List ℕ) (b : Bytes x) (cs : List Call) → (read_of area x).number ≡ 0 → ¬ (text ≡ Some x) → ¬ Goes area text (read x b ∷ cs)
  unfolding Goes role_of outcome_of
  no_read x b cs e n g = n (rw e at g.0)

  pub no-read_into : (other x : List ℕ) (w : Words other) (b : Bytes x) (cs : List Call) → (read_of other x).number ≡ 0 → ¬ (text ≡ Some x)
      → ¬ Goes area text (read_into other x w b ∷ cs)
  unfolding Goes role_of outcome_of
  no-read_into other x w b cs e n g = n (rw e at g.0)

  -- an accepted read ends its suspension, and so do an accepted feed, of 0 bits too, an accepted telling of log words and an accepted
  -- preview
  pub read-once : (x : List ℕ) (b : Bytes x) → (read_of area x).number ≡ 0 → suspended text (role_of (read x b) (outcome_of area (read x b))) ≡ None
  unfolding role_of outcome_of
  read-once x b e = rw e refl

  pub feed-ends : (piece : Piece) (log : List ℕ) (b : Bytes piece.bytes) (t : piece.start < 2 ^ 64) (s : piece.count < 2 ^ 64) (w : Words log) → (feed_of area piece log).number ≡ 0
      → suspended text (role_of (feed piece log b t s w) (outcome_of area (feed piece log b t s w))) ≡ None
  unfolding role_of outcome_of
  feed-ends piece log b t s w e = rw e refl

  pub log_words-ends : (bits : ℕ) (s : bits < 2 ^ 64) → (log_words_of area bits).number ≡ 0
      → suspended text (role_of (log_words bits s) (outcome_of area (log_words bits s))) ≡ None
  unfolding role_of outcome_of
  log_words-ends bits s e = rw e refl

  pub preview-ends : (out : List ℕ) (b : Bytes out) → (preview_of area out).number ≡ 0
      → suspended text (role_of (preview out b) (outcome_of area (preview out b))) ≡ None
  unfolding role_of outcome_of
  preview-ends out b e = rw e refl

-- a refused read into another area leaves the stream where it was; an accepted one moves it there
module _ (area other x : List ℕ) (w : Words other) (b : Bytes x) where
  pub refused_stays : (k : ℕ) → (read_of other x).number ≡ suc k → (outcome_of area (read_into other x w b)).area ≡ area
  unfolding outcome_of
  refused_stays k e = ap (λ (j : ℕ). unless j area (read_of other x).area) e

  pub accepted_moves : (read_of other x).number ≡ 0 → (outcome_of area (read_into other x w b)).area ≡ (read_of other x).area
  unfolding outcome_of
  accepted_moves e = ap (λ (j : ℕ). unless j area (read_of other x).area) e
