-- `area::is_sound` meets its contract.
use Rattle.std.proofs.Common.{not, ◌&&◌, sym, ap, ◌∙◌}
use Rattle.lists.specs.And.{and_first, and_second}
use Rattle.calls.specs.Area.{sound_key, sound_count, sound_last, sound_levels}
use Rattle.area.specs.SoundLaws.{phase_sound, phase_fails, params_fail, rest_tests, params_told, params_in_range}
use Rattle.area.proofs.is_sound.Goals as goal

pub returns-in_default : goal.returns-in_default
returns-in_default c = sym (phase_fails c.args.area.now c.in_default.ensures.1)

pub returns-then-is_err : goal.returns-then-is_err
returns-then-is_err c =
    let area = c.args.area.now in
    let told = params_told area c.params.result c.check_params.result c.check_params.ensures c.params.ensures in
    sym (params_fail area (phase_sound c.in-Ok.phase area c.in-Ok.ensures) (told ∙ ap not (sym c.is_err.ensures.value ∙ c.if-is_err.true)))

pub rest_sound-requires : goal.rest_sound-requires
rest_sound-requires c =
    let area = c.args.area.now in
    let told = params_told area c.params.result c.check_params.result c.check_params.ensures c.params.ensures in
    let r = params_in_range area (told ∙ ap not (sym c.is_err.ensures.value ∙ c.if-is_err.false)) in
    (r.key_high, r.limit_high)

pub returns-then-rest_sound : goal.returns-then-rest_sound
returns-then-rest_sound c =
    let area = c.args.area.now in
    let told = params_told area c.params.result c.check_params.result c.check_params.ensures c.params.ensures in
    c.levels_sound.ensures
    ∙ sym (rest_tests area (phase_sound c.in-Ok.phase area c.in-Ok.ensures) (told ∙ ap not (sym c.is_err.ensures.value ∙ c.if-is_err.false))
    ∙ and_second (sound_key area && (sound_count area && sound_last area)) (sound_levels area) (sym c.rest_sound.ensures ∙ c.if-rest_sound.true))

pub returns-else-rest_sound : goal.returns-else-rest_sound
returns-else-rest_sound c =
    let area = c.args.area.now in
    let told = params_told area c.params.result c.check_params.result c.check_params.ensures c.params.ensures in
    c.if-rest_sound.false
    ∙ sym (rest_tests area (phase_sound c.in-Ok.phase area c.in-Ok.ensures) (told ∙ ap not (sym c.is_err.ensures.value ∙ c.if-is_err.false))
    ∙ and_first (sound_key area && (sound_count area && sound_last area)) (sound_levels area) (sym c.rest_sound.ensures ∙ c.if-rest_sound.false))
