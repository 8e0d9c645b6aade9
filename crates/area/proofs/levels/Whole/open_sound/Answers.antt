-- `area::levels::Whole::open_sound` meets its contract.
use Rattle.std.proofs.Common.{◌≡◌, refl, Bool, ◌&&◌, List, ℕ, ◌-◌, ◌≤◌, get_or, sym, ap, ◌∙◌, arith}
use Rattle.tree.specs.Tree.{block_bits}
use Rattle.calls.specs.Area.{level_words, levels_up, levels_of, done_blocks, held_bits}
use Rattle.calls.proofs.AreaLaws.{limit-word}
use Rattle.calls.proofs.SoundParts.{empty_from}
use Rattle.area.specs.LevelTests.{sound_above, sound_open}
use Rattle.area.specs.SoundLaws.{open_none, open_more}
use Rattle.area.proofs.levels.Whole.open_sound.Goals as goal

-- after the test of level 1: it and the levels above it are sound if all are
turn : (area : List ℕ) (limit T held : ℕ) (b : Bool) → b ≡ empty_from held (level_words area 1) → held ≡ held_bits block_bits T → 1 ≤ limit
    → (b && sound_above (limit - 1) (done_blocks block_bits T) (levels_up area 2)) ≡ sound_open limit T (levels_of area)
turn area limit T held b e f h =
    ap (λ (x : Bool). x && sound_above (limit - 1) (done_blocks block_bits T) (levels_up area 2)) (e ∙ ap (λ (x : ℕ). empty_from x (level_words area 1)) f)
    ∙ sym (open_more area limit T h)

pub returns-then-area-lt1 : goal.returns-then-area-lt1
returns-then-area-lt1 c =
    let area = c.args.self.now.words.now in
    c.sequential_sound.ensures
    ∙ rw (c.held_bits-held.ensures, c.done_blocks-done.ensures) refl
    ∙ sym (open_none area (get_or area 4 0) (get_or area 1 0) (sym (limit-word area)) c.if-area-lt1.true)

pub above_sound-requires : goal.above_sound-requires
above_sound-requires c = omega (arith, limit-word c.args.self.now.words.now)

pub returns-then-empty_from : goal.returns-then-empty_from
returns-then-empty_from c =
    let area = c.args.self.now.words.now in
    let T = get_or area 1 0 in
    c.above_sound.ensures
    ∙ ap (λ (limit : ℕ). sound_above (limit - 1) c.done_blocks.result (levels_up area 2)) (limit-word area)
    ∙ ap (λ (done : ℕ). sound_above (get_or area 4 0 - 1) done (levels_up area 2)) c.done_blocks.ensures
    ∙ ap (λ (x : Bool). x && sound_above (get_or area 4 0 - 1) (done_blocks block_bits T) (levels_up area 2)) (sym c.if-empty_from.true)
    ∙ turn area (get_or area 4 0) T c.held_bits-held-2.result c.empty_from.result c.empty_from.ensures c.held_bits-held-2.ensures c.if-area-lt1.false

pub returns-else-empty_from : goal.returns-else-empty_from
returns-else-empty_from c =
    let area = c.args.self.now.words.now in
    let T = get_or area 1 0 in
    c.if-empty_from.false
    ∙ ap (λ (x : Bool). x && sound_above (get_or area 4 0 - 1) (done_blocks block_bits T) (levels_up area 2)) (sym c.if-empty_from.false)
    ∙ turn area (get_or area 4 0) T c.held_bits-held-2.result c.empty_from.result c.empty_from.ensures c.held_bits-held-2.ensures c.if-area-lt1.false
