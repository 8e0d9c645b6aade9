-- Laws: the collision theorem about the whole-message call: `hash_of` says all that the call answers and leaves.
use Rattle.std.specs.Prelude.{◌≡◌, ◌⊎◌, List, ℕ, ◌^◌, ◌<◌, take, drop}
use Rattle.std.proofs.Common.{sym, ◌∙◌, arith, length-take, take_at}
use Rattle.lists.specs.Below.{Below}
use Rattle.bits.specs.BitsLaws.{length-numbers}
use Rattle.bits.specs.Piece.{Piece, piece_bits}
use Rattle.tree.specs.Tree.{Params, Valid, digest, digest_bytes}
use Rattle.refusals.specs.RefusalLaws.{ranges-valid}
use Rattle.hash.specs.Hash.{hash_of}
use Rattle.hash.specs.Accepted.{Accepted}
use Rattle.hash.proofs.HashLaws.{hash_number_lem, number-accepted}
use Rattle.collision.specs.Clash.{Different, RootsDiffer, Meeting}
use Rattle.collision.proofs.Collision.{collision}

-- an accepted call's parameters are valid, and its digest is the tree's
pub accepted_hash : (message : Piece) (P : Params) (out : List ℕ) → (hash_of message P out).number ≡ 0 → Accepted message P out
accepted_hash message P out e = number-accepted message P out (sym (hash_number_lem message P out) ∙ e)

pub accepted-valid : (message : Piece) (P : Params) (out : List ℕ) → Below 256 P.key → (hash_of message P out).number ≡ 0 → Valid P
accepted-valid message P out hk e = ranges-valid P hk (accepted_hash message P out e).ranges

pub hash_digest : (message : Piece) (P : Params) (out : List ℕ) → (hash_of message P out).number ≡ 0
    → take (digest_bytes P.d) (hash_of message P out).digest ≡ digest P (piece_bits message)
unfolding hash_of
hash_digest message P out e =
    rw (sym (hash_number_lem message P out) ∙ e) (take_at (digest P (piece_bits message)) (drop (digest_bytes P.d) out) (digest_bytes P.d) (length-numbers 8 (digest_bytes P.d) _))

-- Two accepted calls with one digest size whose digests, the first bytes of what they leave in the output, are equal, and that
-- got different message bits, key, height limit or rounds.
pub hash_collision : (message message' : Piece) (P Q : Params) (out out' : List ℕ) → Below 256 P.key → Below 256 Q.key
    → message.count < 2 ^ 64 → message'.count < 2 ^ 64 → (hash_of message P out).number ≡ 0 → (hash_of message' Q out').number ≡ 0
    → Different P Q (piece_bits message) (piece_bits message') → P.d ≡ Q.d
    → take (digest_bytes P.d) (hash_of message P out).digest ≡ take (digest_bytes Q.d) (hash_of message' Q out').digest
    → RootsDiffer P Q (piece_bits message) (piece_bits message') ⊎ Meeting P Q (piece_bits message) (piece_bits message')
hash_collision message message' P Q out out' hk hk' hn hn' h h' different hd e =
    collision P Q (piece_bits message) (piece_bits message') (accepted-valid message P out hk h) (accepted-valid message' Q out' hk' h')
    (simp length-take (omega arith)) (simp length-take (omega arith)) different hd
    (sym (hash_digest message P out h) ∙ e ∙ hash_digest message' Q out' h')
