-- `text::spell::spell_area`: a refused digit refuses at once, and the length is tested as soon as the head is known.
use Rattle.text.proofs.Readable.{short-text, head-refused, HeadRead, wrong_length, levels-ready, spelt-whole}
use native.Mathlib.Omega.{arith}
use Rattle.text.proofs.spell.spell_area.Goals as goal

pub returns-in_err-level_lines : goal.returns-in_err-level_lines
returns-in_err-level_lines c =
    let h = short-text c.args.form.width c.head_bytes.result c.args.form.few c.head_bytes.ensures c.args.text.now (omega (arith, c.in_err-level_lines.ensures.lookup.0)) in
    rw c.from_residual.ensures h

pub returns-in_err-spell_head : goal.returns-in_err-spell_head
returns-in_err-spell_head c = rw c.from_residual-in_err-spell_head.ensures (head-refused c.args.form.width c.args.text.now c.in_err-spell_head.ensures)

pub returns-then-text-text_bytes : goal.returns-then-text-text_bytes
returns-then-text-text_bytes c =
    let h : HeadRead c.args.form.width c.head_bytes.result c.args.text.now c.spell_head.new.head c.args.area.now =
    record { small = c.args.form.few; size = c.head_bytes.ensures; zeros = c.requires; told = c.in_ok-spell_head.ensures } in
    wrong_length h c.text_bytes.result c.text_bytes.ensures c.if-text-text_bytes.true

pub spell_levels-requires : goal.spell_levels-requires
spell_levels-requires c =
    let h : HeadRead c.args.form.width c.head_bytes.result c.args.text.now c.spell_head.new.head c.args.area.now =
    record { small = c.args.form.few; size = c.head_bytes.ensures; zeros = c.requires; told = c.in_ok-spell_head.ensures } in
    levels-ready h c.text_bytes.result c.words-n.result c.words-n.ensures c.text_bytes.ensures c.if-text-text_bytes.false
    c.in_ok-level_lines.level_lines.now c.in_ok-level_lines.ensures.lookup.0.2

pub returns : goal.returns
returns c =
    let h : HeadRead c.args.form.width c.head_bytes.result c.args.text.now c.spell_head.new.head c.args.area.now =
    record { small = c.args.form.few; size = c.head_bytes.ensures; zeros = c.requires; told = c.in_ok-spell_head.ensures } in
    spelt-whole h c.text_bytes.result c.words-n.result c.words-n.ensures c.text_bytes.ensures c.if-text-text_bytes.false
    c.in_ok-level_lines.level_lines.now c.in_ok-level_lines.ensures.lookup.0.2
    c.spell_levels.new.area c.spell_levels.result c.spell_levels.ensures
