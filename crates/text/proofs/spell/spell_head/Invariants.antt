-- `text::spell::spell_head` stores the fields of line 1 in their words, then those of K, until a byte is refused.
use mathlib.Core.Path.{◌≡◌}
use lib.ListN.{length, take, drop, replicate}
use Rattle.calls.specs.Area.{head_words}
use Rattle.texts.specs.Text.{line1_fields, digits_in, spelt_fields}
use Rattle.text.proofs.spell.spell_head.Given as goal

abbrev pub invariant-loop-field : goal.invariant-loop-field
invariant-loop-field l =
    record {
      rest : l.rest ≡ drop (digits_in (take l.field-index (line1_fields l.form.width))) l.text;
      size : length l.head ≡ head_words;
      is : spelt_fields (line1_fields l.form.width) l.text (replicate head_words 0) ≡ spelt_fields (drop l.field-index (line1_fields l.form.width)) l.rest l.head;
    }
