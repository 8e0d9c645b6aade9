-- Laws: where byte 10 ends the first line, by the place that a search for it gives, and what a step makes of that.
use Rattle.std.specs.Prelude.{Some, None, option_map, ◌≡◌, ◌==◌, refl, Bool, true, false, cond, not, List, [], ◌∷◌, ℕ, suc, ◌+◌, ◌-◌, nat_lt, length, take, drop}
use Rattle.std.specs.List.{position, position_or_len}
use Rattle.std.proofs.Common.{◌∙◌, add-one, arith, lt-ltb, le-ltb, ltb-true, ltb-false, take_all, length-drop}
use borrow.Rule.Slice.PartMut.{mid_of}
use Rattle.line.specs.Fold.{fold_of, reading_of}
use Rattle.line.specs.declared.State.{State}
use Rattle.program.specs.Printed.{Cut, longer, first_line}
use Rattle.program.specs.Steps.{line_step, scanned}
use Rattle.program.specs.declared.Program.TheVariants.{Line as InLine}

abbrev pub ends : ℕ → Bool
ends b = b == 10

abbrev cut_at : List ℕ → ℕ → Cut
cut_at bytes n = record { line = take n bytes; rest = drop (suc n) bytes }

first-end : (bytes : List ℕ) → first_line bytes ≡ option_map (cut_at bytes) (position ends bytes)
first-end [] = refl
first-end (b ∷ bs) = by (ends b) (nat_lt n l) refl (first-end bs)
  where
    n : ℕ
    n = position_or_len ends bs

    l : ℕ
    l = length bs

    by : (t s : Bool) → nat_lt n l ≡ s → first_line bs ≡ option_map (cut_at bs) (cond (nat_lt n l) (Some n) None)
        → cond t (Some (record { line = []; rest = bs })) (longer b (first_line bs))
        ≡ option_map (cut_at (b ∷ bs)) (cond (nat_lt (cond (not t) (1 + n) 0) (suc l)) (Some (cond (not t) (1 + n) 0)) None)
    by true s p e = rw (lt-ltb 0 (suc l) (omega arith))
    by false true p e =
        let k : 1 + n ≡ suc n = omega arith in
        rw (e, p, k, lt-ltb (suc n) (suc l) (omega (arith, ltb-true n l p)))
    by false false p e = rw (e, p, le-ltb (1 + n) (suc l) (omega (arith, ltb-false n l p)))

module _ (line : State) (area bytes : List ℕ) where
  -- the line has ended: what it opens takes the bytes behind it
  pub scan_ended : (n : ℕ) → position ends bytes ≡ Some n
      → (let l : State = fold_of line (take n bytes) in line_step (reading_of l) l area (mid_of (n + 1) (length bytes - (n + 1)) bytes))
      ≡ scanned (first_line bytes) line area bytes
  scan_ended n e =
      let t : mid_of (n + 1) (length bytes - (n + 1)) bytes ≡ drop (suc n) bytes =
      take_all (length bytes - (n + 1)) (drop (n + 1) bytes) (simp length-drop (omega arith)) ∙ rw add-one in
      rw (first-end bytes, e, t)

  -- it goes on
  pub scan_goes_on : position ends bytes ≡ None → record { program = InLine (fold_of line bytes); area = area; text = [] } ≡ scanned (first_line bytes) line area bytes
  scan_goes_on e = rw (first-end bytes, e)
