-- `node::digest::write_digest` meets its contract.
use Rattle.tree.specs.Tree.{digest_bytes}
use Rattle.node.specs.DigestLaws.{digest-bytes}
use Rattle.bits.specs.Bits.{bits_of, numbers, filled}
use lib.ListN.{drop, replicate}
use Prim.Native.Nat.{ℕ, ◌+◌, ◌-◌, ◌*◌, ◌/◌, ◌%◌}
use mathlib.Core.List.{List, ◌++◌, append-nil}
use mathlib.Core.Path.{◌≡◌, ap, ◌∙◌}
use native.Mathlib.Omega.{arith}
use Rattle.node.proofs.digest.write_digest.Goals as goal

pub returns : goal.returns
returns c =
    let root = c.args.root.now in
    let d = c.args.d in
    let start = 1024 - d in
    let n = digest_bytes d in
    let bytes : c.put_bytes.new.out ≡ numbers 8 128 (bits_of 64 root) = c.put_bytes.ensures ∙ append-nil (numbers 8 128 (bits_of 64 root)) in
    let last : c.fill.new.block ≡ filled (replicate 8 0) 0 (numbers 8 128 (bits_of 64 root)) (8 * (start / 8) + start % 8) d =
    c.fill.ensures ∙ ap (λ (w : List ℕ). filled (replicate 8 0) 0 w (8 * (start / 8) + start % 8) d) bytes in
    rw c.digest_bytes-n.ensures at c.put_bytes-2.ensures
    ∙ ap (λ (w : List ℕ). numbers 8 n (bits_of 64 w) ++ drop n c.args.out.now) last
    ∙ ap (λ (w : List ℕ). w ++ drop n c.args.out.now) (digest-bytes root d (8 * (start / 8) + start % 8) c.requires.0 c.requires.1 c.requires.2 (omega arith))
