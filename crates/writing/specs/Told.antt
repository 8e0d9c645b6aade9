-- Laws: the fields of line 1 as the code has them.
use Rattle.std.specs.Prelude.{◌≡◌, List, ℕ, ◌<◌, map, length, get_or}
use Rattle.std.proofs.lemmas.List.{get_or-map}
use Rattle.std.proofs.Common.{sym, ap, ◌∙◌}
use Rattle.texts.specs.Text.{field_of}
use Rattle.texts.specs.Text as text
use Rattle.writing.specs.FieldAt.{field_at}
use Rattle.writing.specs.declared.form.Field.{Field}

abbrev pub told_field : Field → text.Field
told_field f = field_of f.word f.bytes

-- field i, as the definitions have it
pub told-at : (xs : List Field) (fs : List text.Field) (i : ℕ) (x : Field) → map told_field xs ≡ fs → i < length xs → told_field (get_or xs i x) ≡ field_at fs i
told-at xs fs i x e h = sym (get_or-map told_field xs i x (field_of 0 0) h) ∙ ap (λ (l : List text.Field). field_at l i) e
