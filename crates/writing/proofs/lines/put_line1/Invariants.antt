-- `writing::lines::put_line1` writes the fields of line 1, one after the other, and its end.
use mathlib.Core.Path.{◌≡◌}
use mathlib.Core.List.{◌++◌}
use lib.ListN.{take, drop}
use Rattle.texts.specs.Text.{line1_fields, field_digits, digits_in}
use Rattle.writing.proofs.lines.put_line1.Given as goal

abbrev pub invariant-loop-field : goal.invariant-loop-field
invariant-loop-field l =
    record {
      at : l.at ≡ digits_in (take l.field-index (line1_fields l.fn.form.width));
      is : l.part ≡ field_digits (take l.field-index (line1_fields l.fn.form.width)) l.area ++ drop l.at l.initial.part;
    }
