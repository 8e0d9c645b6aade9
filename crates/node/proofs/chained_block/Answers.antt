-- `node::chained_block` meets its contract.
use Rattle.std.proofs.Common.{◌++◌, List, ℕ, replicate, sym, ap, ◌∙◌, append-nil, refl}
use Rattle.std.proofs.lemmas.Slice.{put_mid-paste}
use Rattle.std.proofs.Math.Seq.{paste}
use Rattle.node.specs.NodeLaws.{paste-at}
use Rattle.node.proofs.chained_block.Goals as goal

pub returns : goal.returns
returns c =
    let chain = c.args.chain.now in
    let rest = c.args.rest.now in
    put_mid-paste 16 48 (c.copy_from_slice.new.self ++ replicate 48 0) _ rest 48 c.copy_from_slice-2.ensures.after refl (sym c.requires.1)
    ∙ ap (λ (w : List ℕ). paste (w ++ replicate 48 0) 16 rest 48) c.copy_from_slice.ensures.after
    ∙ paste-at chain rest (replicate 48 0) 16 48 c.requires.0 c.requires.1
    ∙ ap (λ (w : List ℕ). chain ++ w) (append-nil rest)
