-- `text::spell::spell_head` stores the fields of line 1 in their words, then those of K, until a byte is refused.
use mathlib.Core.Path.{◌≡◌, refl, sym, ap, ◌∙◌}
use Prim.Native.Nat.{ℕ, ◌+◌}
use lib.ListN.{length, take, drop, length-set}
use lib.Seq.{drop-drop}
use Rattle.std.proofs.lemmas.List.{length-drop}
use Rattle.texts.specs.Text as text
use Rattle.texts.specs.Text.{line1_fields, digits_of, digits_in, spelt_fields}
use Rattle.writing.specs.FieldAt.{digits_more, digits_end}
use Rattle.writing.specs.Told.{told-at}
use Rattle.text.proofs.LinesSpelt.{field-read, field-refused, head_none, head_known}
use native.Mathlib.Omega.{arith}
use Rattle.text.proofs.spell.spell_head.Goals as goal

pub loop-field-init : goal.loop-field-init
loop-field-init c =
    let e = c.requires.0 in
    record { rest = refl; size = ap length e; is = ap (spelt_fields (line1_fields c.args.form.width) c.args.text.now) (sym e) }

pub split_at-requires : goal.split_at-requires
split_at-requires c =
    let z = c.loop-field in
    let fs = line1_fields c.args.form.width in
    let told = told-at c.fields-field-items.result fs z.field-index c.field-item.result c.fields-field-items.ensures (omega arith) in
    let size = c.digits.ensures ∙ ap digits_of told in
    let left = ap length z.invariant.rest ∙ length-drop (digits_in (take z.field-index fs)) c.args.text.now in
    omega (arith, size, left, digits_end fs z.field-index (omega arith), c.requires.1)

pub returns-in_err-head : goal.returns-in_err-head
returns-in_err-head c =
    let z = c.loop-field in
    let fs = line1_fields c.args.form.width in
    let told = told-at c.fields-field-items.result fs z.field-index c.field-item.result c.fields-field-items.ensures (omega arith) in
    let size = c.digits.ensures ∙ ap digits_of told in
    rw c.from_residual.ensures
    (head_none c.args.form.width c.args.text.now
    (z.invariant.is ∙ field-refused fs z.field-index (omega arith) z.rest.now c.split_at.result.0.now z.head c.digits.result size c.split_at.ensures.front c.in_err-head.ensures))

pub loop-field-preserved : goal.loop-field-preserved
loop-field-preserved c =
    let z = c.loop-field in
    let t = c.args.text.now in
    let fs = line1_fields c.args.form.width in
    let told = told-at c.fields-field-items.result fs z.field-index c.field-item.result c.fields-field-items.ensures (omega arith) in
    let size = c.digits.ensures ∙ ap digits_of told in
    let s = c.split_at in
    record {
      rest =
          s.ensures.back ∙ ap (drop c.digits.result) z.invariant.rest ∙ drop-drop c.digits.result (digits_in (take z.field-index fs)) t
          ∙ ap (λ (n : ℕ). drop (digits_in (take z.field-index fs) + n) t) size ∙ ap (λ (n : ℕ). drop n t) (sym (digits_more fs z.field-index (omega arith)));
      size = rw (length-set z.head) z.invariant.size;
      is =
          z.invariant.is
          ∙ field-read fs z.field-index (omega arith) z.rest.now s.result.0.now z.head c.digits.result size s.ensures.front
          s.result.1.now s.ensures.back _ (ap (λ (f : text.Field). f.word) told) c.in_ok-head.field-0 c.in_ok-head.ensures;
    }

pub returns : goal.returns
returns c =
    let z = c.loop-field in
    let t = c.args.text.now in
    let fs = line1_fields c.args.form.width in
    let w = c.spell_words in
    let from = c.line1_bytes-from in
    head_known c.args.form.width from.result t z.head w.new.words w.result from.ensures
    (z.invariant.is ∙ ap (λ (k : ℕ). spelt_fields (drop k fs) z.rest.now z.head) (let e : z.field-index ≡ 7 = omega arith in e)) z.invariant.size w.ensures
