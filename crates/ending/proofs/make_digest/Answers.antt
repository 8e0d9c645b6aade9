-- `ending::make_digest` meets its contract.
use mathlib.Core.Path.{refl, ◌∙◌}
use lib.ListN.{get_or}
use Rattle.climb.specs.OpenArea.{open_range}
use Rattle.ending.specs.EndLaws.{digest-room, digest-written}
use native.Mathlib.Omega.{arith}
use Rattle.ending.proofs.make_digest.Goals as goal

pub write_digest-requires : goal.write_digest-requires
write_digest-requires c =
    let r = open_range c.requires.opened in
    (omega arith, r.d_low, r.d_high, digest-room c.requires)

pub returns : goal.returns
returns c =
    let a = c.args in
    let area = a.area.now in (
      c.write_digest.ensures ∙ digest-written area a.digest.now c.make-root.result (get_or area 3 0)
          c.requires.opened.long refl c.make-root.ensures.value,
      c.make-root.ensures.log_after,
    )
