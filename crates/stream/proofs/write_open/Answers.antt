-- `stream::write_open` meets its contract.
use mathlib.Core.List.{List}
use mathlib.Core.Path.{◌≡◌, ap, ◌∙◌}
use Prim.Native.Nat.{ℕ, ◌-◌}
use native.Mathlib.Omega.{arith}
use lib.ListN.{length, set, take, drop, replicate, length-set, length-take, length-drop}
use Rattle.stream.specs.OpenLaws.{open_written}
use Rattle.stream.proofs.write_open.Goals as goal

pub returns : goal.returns
returns c =
    let p = c.args.params in
    let n : ℕ = c.words-e.result - 6 in
    let six : List ℕ = set (set (set (set (set (set c.args.area.now 0 c.from.result) 1 0) 2 p.keylen) 3 p.d) 4 p.limit) 5 p.rounds in
    let size : length (take n (drop 6 six)) ≡ n = simp (length-take, length-drop, length-set) (omega (arith, c.words-e.ensures, c.requires.0)) in
    let zs = c.fill.ensures.after (λ y z. z) ∙ ap (λ (k : ℕ). replicate k 0) size in
    rw (c.fill-2.ensures, zs, c.from.ensures, c.requires.2)
    (open_written c.args.area.now c.args.key.now p.d p.limit p.rounds c.words-e.result (omega (arith, c.words-e.ensures))
    (omega (arith, c.words-e.ensures, c.requires.0)) c.requires.1)
