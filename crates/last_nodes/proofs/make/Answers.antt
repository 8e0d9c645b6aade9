-- `last_nodes::make` meets its contract.
use mathlib.Core.Path.{◌∙◌}
use Rattle.lists.specs.Slices.{words-below}
use Rattle.calls.proofs.AreaLaws.{limit-word}
use Rattle.calls.specs.Calls.{last_nodes_of}
use Rattle.climb.specs.OpenArea.{open_ready, params-read}
use Rattle.climb.specs.ReceiveLaws.{log-written}
use Rattle.last_nodes.specs.LastLaws.{last-read}
use native.Mathlib.Omega.{arith}
use Rattle.last_nodes.proofs.make.Goals as goal

pub new-with-requires : goal.new-with-requires
new-with-requires c =
    let area = c.args.area.now in
    rw c.keyed_of.ensures (open_ready c.requires.0 c.first_part-first.result (words-below area c.type_inv.area) c.first_part-first.ensures (omega (arith, c.first_part-first.type_inv)))

pub levels-requires : goal.levels-requires
levels-requires c =
    let area = c.args.area.now in
    rw (c.new-with.ensures, c.keyed_of.ensures) record { long = c.requires.0.long; own = limit-word area; room = rw (last-read area) c.requires.1 }

pub returns : goal.returns
returns c =
    let area = c.args.area.now in
    let r = rw (c.new-with.ensures, c.keyed_of.ensures, last-read area, params-read area) at c.levels.ensures.words in
    let l = rw (c.new-with.ensures, c.keyed_of.ensures, last-read area) at c.levels.ensures.logged in
    record { value = r; log_after = l ∙ log-written (last_nodes_of area) c.args.log.now c.requires.1 }
