-- `node::Compressor::fill_window` meets its contract: Q, K, U, V and the block are written one after the other.
use Rattle.std.proofs.Common.{◌≡◌, ℕ, ◌-◌, List, ◌++◌, length, drop, set, replicate, refl, ap, ◌∙◌, arith, length-set, length-append}
use borrow.Rule.Slice.PartMut.{put_mid}
use Rattle.std.proofs.lemmas.Slice.{put_mid-paste}
use Rattle.compress.specs.Compress.{Q}
use Rattle.node.specs.NodeLaws.{window-made}
use Rattle.node.proofs.Compressor.fill_window.Goals as goal

pub returns : goal.returns
returns c =
    let k = c.args.self.now.keyed.k in
    let block = c.args.block.now in
    let u = c.node_u.result in
    let v = c.node_v.result in
    let head : put_mid 15 8 (c.copy_from_slice.new.self ++ drop 15 c.args.w.now) c.copy_from_slice-2.new.self ≡ (Q ++ k) ++ replicate 66 0 =
    rw (c.copy_from_slice.ensures.after, c.q_words.ensures, c.copy_from_slice-2.ensures.after, c.requires.1) refl in
    let written : List ℕ = set (set ((Q ++ k) ++ replicate 66 0) 23 u) 24 v in
    let full : length written ≡ 89 = simp (length-set, length-append) (omega (arith, c.args.self.now.ready.words)) in
    ap (λ (w : List ℕ). put_mid 25 (length (set (set w 23 u) 24 v) - 25) (set (set w 23 u) 24 v) c.copy_from_slice-3.new.self) head
    ∙ put_mid-paste 25 (length written - 25) written c.copy_from_slice-3.new.self block (length block)
    c.copy_from_slice-3.ensures.after (omega (arith, full, c.requires.0.4)) refl
    ∙ window-made k block u v c.args.self.now.ready.words c.requires.0.4
    ∙ rw (c.node_u.ensures, c.node_v.ensures)
