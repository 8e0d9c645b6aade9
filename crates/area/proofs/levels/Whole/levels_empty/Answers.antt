-- `area::levels::Whole::levels_empty` meets its contract.
use Rattle.std.proofs.Common.{◌≡◌, ℕ, ◌-◌, ◌*◌, take, drop, sym, ap, ◌∙◌, arith}
use Rattle.calls.specs.Area.{head_words, block_words, own_levels}
use Rattle.calls.proofs.AreaLaws.{limit-word}
use Rattle.calls.proofs.SoundParts.{empty_from}
use Rattle.area.specs.SoundLaws.{empty-all}
use Rattle.area.proofs.levels.Whole.levels_empty.Goals as goal

pub slice_bounds-empty_from-end : goal.slice_bounds-empty_from-end
slice_bounds-empty_from-end c = omega (arith, c.words-e.ensures, limit-word c.args.self.now.words.now)

pub returns : goal.returns
returns c =
    let area = c.args.self.now.words.now in
    let e : c.words-e.result - head_words ≡ block_words * own_levels area = omega (arith, c.words-e.ensures, limit-word area) in
    c.empty_from.ensures ∙ ap (λ (m : ℕ). empty_from 0 (take m (drop head_words area))) e ∙ sym (empty-all area)
