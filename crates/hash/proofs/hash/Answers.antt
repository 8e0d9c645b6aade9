-- `hash::hash` meets its contract: one equation for every input.
use mathlib.Core.Path.{◌≡◌, sym, ap, ◌∙◌}
use Rattle.std.proofs.Common.{List, ℕ, length}
use Rattle.std.proofs.lemmas.Result.{err_from_is_err_and}
use Rattle.bits.specs.Piece.{Piece, piece_of}
use Rattle.tree.specs.Sizes.{tree_nodes}
use Rattle.refusals.specs.declared.Params.{Params}
use Rattle.refusals.specs.Refusals.{told_number}
use Rattle.refusals.specs.RefusalLaws.{number_not0, told_ok}
use Rattle.hash.specs.Hash.{hash_number, hash_of}
use Rattle.hash.specs.Accepted.{with_key, number_for}
use Rattle.hash.proofs.HashLaws.{number_for_lem, number-accepted, hash_refused, hash_accepted}
use Rattle.hash.proofs.hash.Goals as goal

-- the number is that of the definition, by the parameters that were made
numbered : (m : Piece) (key : List ℕ) (params : Params) (d limit rounds : ℕ) (out : List ℕ) (number : ℕ)
    → params ≡ record { keylen = length key; d = d; limit = limit; rounds = rounds } → number ≡ number_for m params out
    → number ≡ hash_number m (with_key key params) out
numbered m key params d limit rounds out number p e = e ∙ number_for_lem m key params out (ap (λ (p : Params). p.keylen) p)

pub returns-in_err-check : goal.returns-in_err-check
returns-in_err-check c =
    let a = c.args in
    let m = piece_of a.message.now a.start a.bits in
    let p = err_from_is_err_and c.from_residual.result c.from_residual.ensures.1 in
    rw (p.1, p.2)
    (hash_refused m (with_key a.key.now c.new-params.result) a.digest.now _
    (sym (ap told_number c.in_err-check.was) ∙ numbered _ _ _ _ _ _ _ _ c.new-params.ensures c.check.ensures) (number_not0 _)
    ∙ ap (λ (p : Params). hash_of m (with_key a.key.now p) a.digest.now) c.new-params.ensures)

pub put_digest-requires : goal.put_digest-requires
put_digest-requires c =
    (number-accepted _ _ _ (told_ok c.in_ok-check.was (numbered _ _ _ _ _ _ _ _ c.new-params.ensures c.check.ensures)), ap (λ (p : Params). p.keylen) c.new-params.ensures)

pub tree_nodes-requires : goal.tree_nodes-requires
tree_nodes-requires c =
    rw (ap (λ (p : Params). p.limit) c.new-params.ensures) at
    (number-accepted _ _ _ (told_ok c.in_ok-check.was (numbered _ _ _ _ _ _ _ _ c.new-params.ensures c.check.ensures))).ranges.limit_high

pub returns : goal.returns
returns c =
    let a = c.args in
    let m = piece_of a.message.now a.start a.bits in
    hash_accepted m (with_key a.key.now c.new-params.result) a.digest.now _ _ (told_ok c.in_ok-check.was (numbered _ _ _ _ _ _ _ _ c.new-params.ensures c.check.ensures))
    (c.tree_nodes.ensures ∙ ap (λ (p : Params). tree_nodes p.limit a.bits) (sym c.new-params.ensures)) c.put_digest.ensures
    ∙ ap (λ (p : Params). hash_of m (with_key a.key.now p) a.digest.now) c.new-params.ensures
