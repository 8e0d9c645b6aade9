-- `climb::level::clear_level` meets its contract.
use Rattle.std.proofs.Common.{◌≡◌, ◌+◌, ◌-◌, length, take, drop, arith, length-take, length-drop}
use Rattle.calls.specs.Area.{block_words, empty_level}
use Rattle.climb.specs.Levels.{lent-put}
use Rattle.climb.proofs.level.clear_level.Goals as goal

pub returns : goal.returns
unfolding empty_level
returns c =
    let area = c.args.area.now in
    let a = c.level_start-a.result in
    let size : length (take (a + block_words - a) (drop a area)) ≡ block_words =
    simp (length-take, length-drop) (omega (arith, c.level_start-a.ensures, c.requires.long, c.requires.high)) in
    let zeros = c.fill.ensures.after (λ y e. e) in
    rw (zeros, size, c.level_start-a.ensures) (lent-put area c.args.level empty_level)
