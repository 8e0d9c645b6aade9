-- `ending::check_figure` meets its contract.
use native.Mathlib.Omega.{arith}
use mathlib.Core.Path.{ap, ◌∙◌}
use Prim.Native.Nat.{ℕ}
use lib.ListN.{length, take, replicate, length-take}
use Rattle.numbers.specs.NumberLaws.{digest-small}
use Rattle.calls.proofs.Previews.{digest-front, length-digest_out}
use Rattle.std.proofs.lemmas.Grind.{common_steps}
use Rattle.ending.proofs.check_figure.Goals as goal

pub make_digest-requires : goal.make_digest-requires
make_digest-requires c = record { opened = c.requires.0; output = digest-small c.requires.0; room = c.requires.1 }

pub slice_bounds-digest-end : goal.slice_bounds-digest-end
slice_bounds-digest-end c =
    let small = digest-small c.requires.0 in
    omega (arith, c.digest_bytes-bytes.ensures, small, ap length c.make_digest.ensures.0 ∙ length-digest_out c.args.area.now (replicate 64 0) small)

pub slice_bounds-same_bytes-end : goal.slice_bounds-same_bytes-end
slice_bounds-same_bytes-end c =
    let small = digest-small c.requires.0 in
    omega (arith, length-take {A = ℕ}, c.digest_bytes-bytes.ensures, small, ap length c.make_digest.ensures.0 ∙ length-digest_out c.args.area.now (replicate 64 0) small)

pub returns-then-not-same : goal.returns-then-not-same
returns-then-not-same c =
    let front = ap (take c.digest_bytes-bytes.result) c.make_digest.ensures.0 ∙ digest-front c.args.area.now (replicate 64 0) c.digest_bytes-bytes.result (omega (arith, c.digest_bytes-bytes.ensures)) in
    grind (arith, common_steps)

pub returns : goal.returns
returns c =
    let front = ap (take c.digest_bytes-bytes.result) c.make_digest.ensures.0 ∙ digest-front c.args.area.now (replicate 64 0) c.digest_bytes-bytes.result (omega (arith, c.digest_bytes-bytes.ensures)) in
    grind (arith, common_steps)
