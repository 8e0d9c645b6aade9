-- `last_nodes::joined_block` meets its contract.
use Rattle.std.proofs.Common.{◌≡◌, ◌+◌, ◌-◌, ◌<◌, sym, ◌∙◌, arith, add-one, length, get_or, take-suc, take-suc-set, take_all, length-set}
use Rattle.calls.specs.Area.{level_words}
use Rattle.last_nodes.proofs.joined_block.Goals as goal

pub loop-i-preserved : goal.loop-i-preserved
loop-i-preserved c =
    let block = c.loop-i.block in
    let held = c.level-held.result.now in
    let i = c.loop-i.i in
    let h : i < length block = omega (arith, c.loop-i.invariant.0, c.loop-i-test.true) in
    let g : i < length held = omega (arith, c.level-held.ensures.level_part.size, c.loop-i-test.true) in (
      length-set block i (get_or held i 0) ∙ c.loop-i.invariant.0,
      rw (add-one, take-suc-set block i (get_or held i 0) h, take-suc held i 0 g, c.loop-i.invariant.1),
    )

pub returns : goal.returns
returns c =
    let block = c.loop-i.block in
    let held = c.level-held.result.now in
    let i = c.loop-i.i in
    let s : c.args.place + 16 - c.args.place ≡ 16 = omega arith in
    let all = take_all i block (omega (arith, c.loop-i.invariant.0, c.loop-i-test.false)) in
    let both = take_all i held (omega (arith, c.level-held.ensures.level_part.size, c.loop-i-test.false)) in
    let b : block ≡ level_words c.args.area.now c.args.level = sym all ∙ c.loop-i.invariant.1 ∙ both ∙ c.level-held.ensures.level_part.words in
    rw (b, s, c.copy_from_slice.ensures.after)
