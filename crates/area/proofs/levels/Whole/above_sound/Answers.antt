-- `area::levels::Whole::above_sound` meets its contract.
use Rattle.std.proofs.Common.{◌≡◌, Bool, ◌&&◌, List, ℕ, ◌+◌, ◌-◌, ◌*◌, ◌/◌, ◌%◌, ◌≤◌, sym, ap, ◌∙◌, arith}
use Rattle.tree.specs.Tree.{output_bits}
use Rattle.calls.specs.Area.{params_of, level_words, levels_up, own_levels}
use Rattle.calls.proofs.AreaLaws.{limit-word}
use Rattle.calls.proofs.SoundParts.{empty_from}
use Rattle.area.specs.LevelTests.{sound_sequential, sound_above}
use Rattle.area.specs.SoundLaws.{above_more, above-last}
use Rattle.area.proofs.levels.Whole.above_sound.Goals as goal

-- after the test of the level at hand: it and the levels above it are sound if the levels from it up are
turn : (area : List ℕ) (n i k m : ℕ) (b : Bool) (part : List ℕ) → b ≡ empty_from (output_bits * (i % 4)) part → part ≡ level_words area k → m + 1 ≡ n → k ≤ own_levels area
    → (b && sound_above m (i / 4) (levels_up area (k + 1))) ≡ sound_above n i (levels_up area k)
turn area n i k m b part e f h g =
    let one : n - 1 ≡ m = omega arith in
    ap (λ (x : Bool). x && sound_above m (i / 4) (levels_up area (k + 1))) (e ∙ ap (empty_from (output_bits * (i % 4))) f)
    ∙ ap (λ (x : ℕ). empty_from (output_bits * (i % 4)) (level_words area k) && sound_above x (i / 4) (levels_up area (k + 1))) (sym one)
    ∙ sym (above_more area n i k (omega arith) g)

pub returns-then-limit-k : goal.returns-then-limit-k
returns-then-limit-k c =
    let at = c.loop-k in
    let area = c.args.self.now.words.now in
    let limit = (params_of area).limit in
    c.sequential_sound.ensures
    ∙ ap (sound_sequential (at.i / 3) (output_bits * (at.i % 3))) c.level-part.ensures.level_part.words
    ∙ sym (above-last area (limit + 1 - at.k) at.i at.k (omega (arith, limit-word area)) (omega (arith, limit-word area)))
    ∙ at.invariant.rest

pub returns-then-not-empty_from : goal.returns-then-not-empty_from
returns-then-not-empty_from c =
    let at = c.loop-k in
    let area = c.args.self.now.words.now in
    let limit = (params_of area).limit in
    let m = limit + 1 - (at.k + 1) in
    ap (λ (x : Bool). x && sound_above m (at.i / 4) (levels_up area (at.k + 1))) (sym c.if-not-empty_from.true)
    ∙ turn area (limit + 1 - at.k) at.i at.k m c.empty_from.result c.level-part.result.now c.empty_from.ensures c.level-part.ensures.level_part.words (omega (arith, limit-word area)) (omega (arith, limit-word area))
    ∙ at.invariant.rest

pub loop-k-preserved : goal.loop-k-preserved
loop-k-preserved c =
    let at = c.loop-k in
    let area = c.args.self.now.words.now in
    let limit = (params_of area).limit in
    let m = limit + 1 - (at.k + 1) in
    record {
      below = omega (arith, limit-word area);
      rest = ap (λ (x : Bool). x && sound_above m (at.i / 4) (levels_up area (at.k + 1))) (sym c.if-not-empty_from.false)
          ∙ turn area (limit + 1 - at.k) at.i at.k m c.empty_from.result c.level-part.result.now c.empty_from.ensures c.level-part.ensures.level_part.words (omega (arith, limit-word area)) (omega (arith, limit-word area))
          ∙ at.invariant.rest;
    }
