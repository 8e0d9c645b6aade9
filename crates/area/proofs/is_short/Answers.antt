-- `area::is_short` meets its contract.
use Rattle.std.proofs.Common.{ltb, length, sym, ap, ◌∙◌}
use Rattle.calls.specs.Area.{area_words}
use Rattle.calls.proofs.AreaLaws.{limit-word}
use Rattle.area.proofs.is_short.Goals as goal

pub returns-else-area-le-LIMIT : goal.returns-else-area-le-LIMIT
returns-else-area-le-LIMIT c =
    let area = c.args.area.now in
    ap (ltb (length area)) (c.words.ensures ∙ ap area_words (sym (limit-word area)))
