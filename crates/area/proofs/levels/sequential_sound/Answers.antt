-- `area::levels::sequential_sound` meets its contract.
use Rattle.std.proofs.Common.{◌+◌, take, sym, ◌∙◌}
use Rattle.tree.specs.Tree.{output_bits, output_words}
use Rattle.calls.proofs.SoundParts.{empty_from}
use Rattle.lists.specs.And.{and_first, and_second}
use Rattle.area.specs.SoundLaws.{sequential-kept, sequential_none}
use Rattle.area.proofs.levels.sequential_sound.Goals.{else-done-eq0-via-then-done-eq0+else-not-empty_from, else-done-eq0-via-else-done-eq0}
use Rattle.area.proofs.levels.sequential_sound.Goals as goal

pub returns-then-not-empty_from : goal.returns-then-not-empty_from
returns-then-not-empty_from c =
    let part = c.args.part.now in
    let e = sym c.empty_from.ensures ∙ c.if-not-empty_from.true in
    sym (sequential_none c.args.done c.args.held part c.if-done-eq0.true ∙ and_first (empty_from 0 (take output_words part)) (empty_from (output_bits + c.args.held) part) e)

pub returns : goal.returns
returns c =
    let part = c.args.part.now in
    c.empty_from-2.ensures
    ∙ sym (elim c.else-done-eq0.branch [
      | else-done-eq0-via-then-done-eq0+else-not-empty_from w ↦
          sequential_none c.args.done c.args.held part w.if-done-eq0.true
          ∙ and_second (empty_from 0 (take output_words part)) (empty_from (output_bits + c.args.held) part) (sym w.empty_from.ensures ∙ w.if-not-empty_from.false)
      | else-done-eq0-via-else-done-eq0 w ↦ sequential-kept c.args.done c.args.held part w.if-done-eq0.false
    ])
