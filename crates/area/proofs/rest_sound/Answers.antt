-- `area::rest_sound` meets its contract.
use Rattle.std.proofs.Common.{◌≡◌, ◌&&◌, List, ℕ, eqb, get_or, sym, ap, ◌∙◌, eq-eqb, ne_eqb}
use Rattle.lists.specs.And.{and_first, and_second}
use Rattle.calls.specs.Area.{phase_of, sound_key, sound_count, sound_last, count_for}
use Rattle.area.specs.SoundLaws.{count_word}
use Rattle.area.proofs.rest_sound.Goals as goal

-- word 14 is tested against the count of the phase that word 0 says
counted : (area : List ℕ) (phase count : ℕ) → count ≡ count_for phase (get_or area 4 0) (get_or area 1 0) → phase ≡ phase_of area → sound_count area ≡ eqb (get_or area 14 0) count
counted area phase count e p = count_word area ∙ ap (eqb (get_or area 14 0)) (ap (λ (x : ℕ). count_for x (get_or area 4 0) (get_or area 1 0)) (sym p) ∙ sym e)

pub returns-then-not-empty_from : goal.returns-then-not-empty_from
returns-then-not-empty_from c =
    let area = c.args.whole.now.words.now in
    sym (and_first (sound_key area) (sound_count area && sound_last area) (sym c.empty_from.ensures ∙ c.if-not-empty_from.true))

pub returns-then-area-count : goal.returns-then-area-count
returns-then-area-count c =
    let area = c.args.whole.now.words.now in
    sym (and_second (sound_key area) (sound_count area && sound_last area) (sym c.empty_from.ensures ∙ c.if-not-empty_from.false)
    ∙ and_second (sound_count area) (sound_last area) (counted area _ _ c.count_for-count.ensures c.args.whole.now.phased ∙ eq-eqb _ _ c.if-area-count.true))

pub returns-else-area-count : goal.returns-else-area-count
returns-else-area-count c =
    let area = c.args.whole.now.words.now in
    let fails = ne_eqb (get_or area 14 0) c.count_for-count.result c.if-area-count.false in
    fails
    ∙ sym (and_second (sound_key area) (sound_count area && sound_last area) (sym c.empty_from.ensures ∙ c.if-not-empty_from.false)
    ∙ and_first (sound_count area) (sound_last area) (counted area _ _ c.count_for-count.ensures c.args.whole.now.phased ∙ fails))
