-- `layers` meets its contract: one equation for every input.
use mathlib.Core.Path.{◌≡◌, sym, ap, ◌∙◌}
use mathlib.Core.List.{List}
use Prim.Native.Nat.{ℕ}
use lib.ListN.{length}
use Rattle.std.proofs.lemmas.Result.{err_from_is_err_and}
use Rattle.bits.specs.Piece.{Piece, piece_of}
use Rattle.layers.specs.Accepted.{number_for}
use Rattle.tree.specs.Sizes.{tree_nodes}
use Rattle.refusals.specs.declared.Params.{Params}
use Rattle.refusals.specs.Refusals.{told_number}
use Rattle.refusals.specs.RefusalLaws.{number_not0, told_ok}
use Rattle.hash.specs.Accepted.{with_key}
use Rattle.layers.specs.Layers.{layers_number, layers_of}
use Rattle.layers.proofs.CallLaws.{number_for_lem, number-accepted, layers_refused, layers_made}
use Rattle.layers.proofs.layers.Goals as goal

-- the number is that of the definition, by the parameters that were made
numbered : (m : Piece) (key words log digest : List ℕ) (p : Params) {d limit rounds n : ℕ} → p ≡ record { keylen = length key; d = d; limit = limit; rounds = rounds }
    → n ≡ number_for m p words log digest → n ≡ layers_number m (with_key key p) words log digest
numbered m key words log digest p e f = f ∙ number_for_lem m key p words log digest (ap (λ (q : Params). q.keylen) e)

pub returns-in_err-check : goal.returns-in_err-check
returns-in_err-check c =
    let a = c.args in
    let m = piece_of a.message.now a.start a.bits in
    let P = with_key a.key.now c.new-params.result in
    let p = err_from_is_err_and c.from_residual.result c.from_residual.ensures.1 in
    rw (p.1, p.2)
    (layers_refused m P a.words.now a.log.now a.digest.now _
    (sym (ap told_number c.in_err-check.was) ∙ numbered _ _ _ _ _ _ c.new-params.ensures c.check.ensures) (number_not0 _)
    ∙ ap (λ (p : Params). layers_of m (with_key a.key.now p) a.words.now a.log.now a.digest.now) c.new-params.ensures)

pub put_layers-requires : goal.put_layers-requires
put_layers-requires c =
    let none = told_ok c.in_ok-check.was (numbered _ _ _ _ _ _ c.new-params.ensures c.check.ensures) in
    (number-accepted _ _ _ _ _ none, ap (λ (p : Params). p.keylen) c.new-params.ensures)

pub tree_nodes-requires : goal.tree_nodes-requires
tree_nodes-requires c =
    let none = told_ok c.in_ok-check.was (numbered _ _ _ _ _ _ c.new-params.ensures c.check.ensures) in
    rw (ap (λ (p : Params). p.limit) c.new-params.ensures) at (number-accepted _ _ _ _ _ none).whole.ranges.limit_high

pub returns : goal.returns
returns c =
    let a = c.args in
    let m = piece_of a.message.now a.start a.bits in
    let P = with_key a.key.now c.new-params.result in
    let none = told_ok c.in_ok-check.was (numbered _ _ _ _ _ _ c.new-params.ensures c.check.ensures) in
    let count = c.tree_nodes.ensures ∙ ap (λ (p : Params). tree_nodes p.limit a.bits) (sym c.new-params.ensures) in
    layers_made m P a.words.now a.log.now a.digest.now _ _ _ _ none count c.put_layers.ensures
    ∙ ap (λ (p : Params). layers_of m (with_key a.key.now p) a.words.now a.log.now a.digest.now) c.new-params.ensures
