-- `text::spell::spell_levels`: the loop keeps `Spelling`, until a byte is refused.
use mathlib.Core.Path.{sym, ◌∙◌}
use Rattle.text.proofs.SpellLevels.{spelling_none, spelling_own, spelling_room, spelling_yes, spelling_no, spelling_refused, spelling_all}
use native.Mathlib.Omega.{arith}
use Rattle.text.proofs.spell.spell_levels.Goals as goal
use Rattle.text.proofs.spell.spell_levels.Goals.{then-has_line+in_ok-spell_level, else-has_line}

pub loop-level-init : goal.loop-level-init
loop-level-init c = spelling_none c.args.area.now c.args.text.now c.requires.0 c.requires.1 c.requires.2

pub has_line-requires : goal.has_line-requires
has_line-requires c =
    let s = c.loop-level.invariant in
    (omega (arith, s.long), omega arith, omega (arith, spelling_own s))

pub split_at-requires : goal.split_at-requires
split_at-requires c =
    spelling_room c.loop-level.invariant (omega arith) (omega arith) (omega (arith, c.requires.0)) (sym c.has_line.ensures ∙ c.if-has_line.true)

pub spell_level-requires : goal.spell_level-requires
spell_level-requires c =
    let s = c.loop-level.invariant in
    (omega (arith, s.long, spelling_own s), c.split_at.ensures.front_len, omega arith, omega (arith, spelling_own s))

pub returns-in_err-spell_level : goal.returns-in_err-spell_level
returns-in_err-spell_level c =
    rw c.from_residual.ensures
    (spelling_refused c.loop-level.invariant (omega arith) (omega arith) (omega (arith, c.requires.0)) (sym c.has_line.ensures ∙ c.if-has_line.true)
    c.split_at.result.0.now c.split_at.ensures.front c.in_err-spell_level.ensures)

pub loop-level-preserved : goal.loop-level-preserved
loop-level-preserved c =
    let s = c.loop-level.invariant in
    elim c.if-has_line.branch [
      | then-has_line+in_ok-spell_level w ↦
          rw (w.area-is, w.rest-is)
          (spelling_yes s (omega arith) (omega arith) (omega (arith, c.requires.0)) (sym c.has_line.ensures ∙ w.if-has_line.true)
          w.split_at.result.0.now w.split_at.ensures.front w.split_at.result.1.now w.spell_level.new.area w.split_at.ensures.back w.in_ok-spell_level.ensures)
      | else-has_line w ↦ rw (w.area-is, w.rest-is) (spelling_no s (omega arith) (omega arith) (sym c.has_line.ensures ∙ w.if-has_line.false))
    ]

pub returns-after-has_line : goal.returns-after-has_line
returns-after-has_line c =
    let s = c.loop-level.invariant in
    elim c.if-has_line.branch [
      | then-has_line+in_ok-spell_level w ↦
          rw w.area-is
          (spelling_all
          (spelling_yes s (omega arith) (omega arith) (omega (arith, c.requires.0)) (sym c.has_line.ensures ∙ w.if-has_line.true)
          w.split_at.result.0.now w.split_at.ensures.front w.split_at.result.1.now w.spell_level.new.area w.split_at.ensures.back w.in_ok-spell_level.ensures)
          (omega arith) (omega arith))
      | else-has_line w ↦
          rw w.area-is (spelling_all (spelling_no s (omega arith) (omega arith) (sym c.has_line.ensures ∙ w.if-has_line.false)) (omega arith) (omega arith))
    ]
