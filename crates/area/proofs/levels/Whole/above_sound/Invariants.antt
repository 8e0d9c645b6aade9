-- `area::levels::Whole::above_sound` meets its contract. At every turn k, the level at hand, is at most the sequential level.
use Rattle.std.proofs.Common.{◌≡◌, ◌+◌, ◌-◌, ◌≤◌}
use Rattle.calls.specs.Area.{params_of, levels_up}
use Rattle.area.specs.LevelTests.{sound_above}
use Rattle.area.proofs.levels.Whole.above_sound.Given as goal

abbrev pub invariant-loop-k : goal.invariant-loop-k
invariant-loop-k l =
    let limit = (params_of l.self.words.now).limit in
    record { below : l.k ≤ limit + 1; rest : sound_above (limit + 1 - l.k) l.i (levels_up l.self.words.now l.k) ≡ sound_above (limit - 1) l.outputs (levels_up l.self.words.now 2) }
