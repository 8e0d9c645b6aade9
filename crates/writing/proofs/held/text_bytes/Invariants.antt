-- `writing::held::text_bytes`: the bytes so far and the lines still to come are the whole text.
use mathlib.Core.Path.{◌≡◌}
use Prim.Native.Nat.{◌+◌}
use lib.ListN.{length}
use Rattle.texts.specs.Text.{text_with}
use Rattle.writing.specs.Lines.{lines_from}
use Rattle.writing.proofs.held.text_bytes.Given as goal

abbrev pub invariant-loop-level : goal.invariant-loop-level
invariant-loop-level l = l.n + length (lines_from l.area l.level) ≡ length (text_with l.fn.form.width l.area)
