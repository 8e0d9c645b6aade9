-- `text::spell::writes`: the area's text is written again and compared.
use mathlib.Core.Path.{sym, ap, ◌∙◌}
use mathlib.Core.List.{List}
use Prim.Native.Nat.{ℕ}
use lib.ListN.{length, drop, replicate}
use lib.Seq.{take_at, length-take-le}
use Rattle.lists.specs.Same.{same}
use Rattle.texts.proofs.LengthLaws.{most_text}
use Rattle.text.proofs.Again.{again_room}
use Rattle.text.proofs.spell.writes.Goals as goal

pub slice_bounds-again-end : goal.slice_bounds-again-end
slice_bounds-again-end c = let a = c.args in again_room a.form.width a.area.now a.text.now a.form.few c.requires.0 c.requires.1

pub slice_bounds-put_text-end : goal.slice_bounds-put_text-end
slice_bounds-put_text-end c =
    let a = c.args in
    sym (length-take-le (length a.text.now) (replicate most_text 0) (again_room a.form.width a.area.now a.text.now a.form.few c.requires.0 c.requires.1))

pub put_text-requires : goal.put_text-requires
put_text-requires c =
    let a = c.args in
    (c.requires.0, length-take-le (length a.text.now) (replicate most_text 0) (again_room a.form.width a.area.now a.text.now a.form.few c.requires.0 c.requires.1) ∙ c.requires.1)

pub returns : goal.returns
returns c =
    let ys = c.put_text.new.part in
    let t = c.args.text.now in
    let front = take_at ys (drop (length t) (replicate most_text 0)) (length t) (ap length c.put_text.ensures ∙ sym c.requires.1) in
    c.same_bytes.ensures ∙ ap (λ (x : List ℕ). same x t) (front ∙ c.put_text.ensures)
