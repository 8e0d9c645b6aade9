-- Laws: what the report's lines give is what document 01's formula gives.
use Rattle.std.specs.Prelude.{◌≡◌, List, ℕ}
use Rattle.std.proofs.Common.{sym, ap, ◌∙◌}
use Rattle.std.specs.Int.Bits.{bit_xor, xor_assoc}
use Rattle.std.proofs.lemmas.Nat.{xor_comm}
use Rattle.compress.specs.Compress.{stepped, formula_word}
use Rattle.compress.specs.Report.{report_step, report_word}

-- two words are taken into an exclusive or in either order
xor_swap : (s a b : ℕ) → bit_xor (bit_xor s a) b ≡ bit_xor (bit_xor s b) a
xor_swap s a b = xor_assoc s a b ∙ ap (bit_xor s) (xor_comm a b) ∙ sym (xor_assoc s b a)

-- ---- the step

-- for all words, constants and shifts
pub report_step_lem : (s an a0 a1 a2 a3 a4 r l : ℕ) → report_step s an a0 a1 a2 a3 a4 r l ≡ stepped s a0 an a1 a2 a3 a4 r l
unfolding report_step stepped
report_step_lem s an a0 a1 a2 a3 a4 r l = rw (xor_swap s an a0)

-- M-107: "Show that for every window, word and constant it gives what document 01's formula gives."
pub report_word_lem : (A : List ℕ) (i s : ℕ) → report_word s i A ≡ formula_word s i A
unfolding report_word
report_word_lem A i s = report_step_lem s _ _ _ _ _ _ _ _
