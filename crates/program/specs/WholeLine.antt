-- Laws: the first line of an input that is cut into reads.
use Rattle.std.specs.Prelude.{Option, Some, None, ◌≡◌, refl, Bool, true, false, cond, List, [], ◌∷◌, ◌++◌, ℕ, ◌≤◌, eqb, length}
use Rattle.std.proofs.Common.{ap, ◌∙◌, arith}
use Rattle.line.specs.Fold.{step_of, fold_of}
use Rattle.line.specs.declared.State.{State}
use Rattle.program.specs.Printed.{Cut, longer, first_line}
use Rattle.program.specs.WholeInput.{message_in}

-- bytes without byte 10 come before the first line of what follows
abbrev pub before : List ℕ → Option Cut → Option Cut
before q None = None
before q (Some c) = Some (record { line = q ++ c.line; rest = c.rest })

-- the first line of two parts, by the first line of the first part: it goes on in the second part, or that is all message
abbrev pub in_parts : List ℕ → Option Cut → List ℕ → Option Cut
in_parts q None bs = before q (first_line bs)
in_parts q (Some c) bs = Some (record { line = c.line; rest = c.rest ++ bs })

pub before_none : (o : Option Cut) → o ≡ before [] o
before_none None = refl
before_none (Some c) = refl

before_more : (b : ℕ) (q : List ℕ) (o : Option Cut) → longer b (before q o) ≡ before (b ∷ q) o
before_more b q None = refl
before_more b q (Some c) = refl

pub first-parts : (q bs : List ℕ) → first_line (q ++ bs) ≡ in_parts q (first_line q) bs
first-parts [] bs = before_none (first_line bs)
first-parts (b ∷ q) bs = by (eqb b 10) (first_line q) (first-parts q bs)
  where
    by : (t : Bool) (o : Option Cut) → first_line (q ++ bs) ≡ in_parts q o bs
        → cond t (Some (record { line = []; rest = q ++ bs })) (longer b (first_line (q ++ bs)))
        ≡ in_parts (b ∷ q) (cond t (Some (record { line = []; rest = q })) (longer b o)) bs
    by true o e = refl
    by false None e = ap (longer b) e ∙ before_more b q (first_line bs)
    by false (Some c) e = ap (longer b) e

-- the message is a part of the input
pub message-length : (bs : List ℕ) → length (message_in (first_line bs)) ≤ length bs
message-length [] = omega arith
message-length (b ∷ bs) = by (eqb b 10) (first_line bs) (message-length bs)
  where
    by : (t : Bool) (o : Option Cut) → length (message_in o) ≤ length bs
        → length (message_in (cond t (Some (record { line = []; rest = bs })) (longer b o))) ≤ length (b ∷ bs)
    by true o h = omega arith
    by false None h = omega arith
    by false (Some c) h = omega arith

-- a line's state after two parts
pub fold_parts : (s : State) (q bs : List ℕ) → fold_of s (q ++ bs) ≡ fold_of (fold_of s q) bs
fold_parts s [] bs = refl
fold_parts s (b ∷ q) bs = fold_parts (step_of s b) q bs
