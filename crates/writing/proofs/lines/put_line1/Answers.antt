-- `writing::lines::put_line1` writes the fields of line 1, one after the other, and its end.
use mathlib.Core.Path.{refl, ap, ◌∙◌}
use mathlib.Core.List.{List, flatten}
use Prim.Native.Nat.{ℕ}
use lib.ListN.{get_or, set}
use Rattle.texts.specs.Text as text
use Rattle.texts.specs.Text.{line1_fields, digits_of}
use Rattle.writing.specs.FieldAt.{digits_more}
use Rattle.writing.specs.Told.{told-at}
use Rattle.writing.proofs.LineStores.{field_stored, line1-stored}
use native.Mathlib.Omega.{arith}
use Rattle.writing.proofs.lines.put_line1.Goals as goal

pub loop-field-init : goal.loop-field-init
unfolding flatten
loop-field-init c = record { at = refl; is = refl }

pub loop-field-preserved : goal.loop-field-preserved
loop-field-preserved c =
    let z = c.loop-field in
    let a = c.args in
    let fs = line1_fields a.form.width in
    let f = c.field-item in
    let told = told-at c.fields-field-items.result fs z.field-index f.result c.fields-field-items.ensures (omega arith) in
    let size = c.digits.ensures ∙ ap digits_of told in
    record {
      at = omega (arith, z.invariant.at, size, digits_more fs z.field-index (omega arith));
      is =
          field_stored fs a.area.now a.part.now z.part c.put_digits.new.part z.at z.field-index c.digits.result _
          (omega arith) size (ap (λ (g : text.Field). get_or a.area.now g.word 0) told) z.invariant.at (omega arith) z.invariant.is c.put_digits.ensures;
    }

pub returns : goal.returns
returns c =
    let z = c.loop-field in
    let a = c.args in
    ap (λ (x : List ℕ). set x z.at 10) z.invariant.is ∙ line1-stored (line1_fields a.form.width) a.area.now a.part.now z.at z.field-index (omega arith) z.invariant.at (omega arith)
