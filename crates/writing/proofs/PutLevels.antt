-- The lines of the levels, written one after the other, and the whole text.
use mathlib.Core.Path.{◌≡◌, refl, sym, ap, ◌∙◌}
use mathlib.Core.Bool.{true, false}
use mathlib.Core.List.{List, [], ◌++◌, append-nil, append_assoc}
use Prim.Native.Nat.{ℕ, ◌+◌, ◌-◌, ◌≤◌, ◌<◌}
use native.Mathlib.Omega.{arith}
use borrow.Rule.Slice.PartMut.{mid_of, put_mid, mid_len}
use lib.ListN.{length, take, drop}
use lib.Seq.{drop-length, take_all}
use Rattle.calls.specs.Area.{own_levels, level_words, Long}
use Rattle.texts.specs.Text.{line1_fields, line1, line2, level_line, text_with, level_bytes, head_bytes}
use Rattle.texts.proofs.LengthLaws.{length-level_line}
use Rattle.calls.proofs.AreaLaws.{length-level_words}
use Rattle.writing.specs.Lines.{has_line_at, lines_from, from-yes, from-no, length-yes, from-end, text-lines, length-head, length-text}
use Rattle.lists.specs.PartLaws.{put-length, put-take}
use Rattle.digits.proofs.Loops.{lent-next}

-- a part that begins with the lines of the levels below one, up to a place
pub record Putting (area part : List ℕ) (at level : ℕ) : Type 0 where
  pub size : length part ≡ at + length (lines_from area level)
  pub whole : take at part ++ lines_from area level ≡ lines_from area 1

pub put_none : (area part : List ℕ) → length part ≡ length (lines_from area 1) → Putting area part 0 1
put_none area part h = record { size = omega (arith, h); whole = refl }

module _ {area part : List ℕ} {at level : ℕ} (p : Putting area part at level) (long : Long area) (lo : 1 ≤ level) (hi : level ≤ own_levels area) where
  pub put-room : has_line_at area level ≡ true → at + level_bytes ≤ length part
  put-room y = omega (arith, p.size, length-yes area level lo hi long y)

  pub put-yes : (ys : List ℕ) → has_line_at area level ≡ true → ys ≡ level_line level (level_words area level)
      → Putting area (put_mid at (at + level_bytes - at) part ys) (at + level_bytes) (level + 1)
  put-yes ys y z =
      let n : at + level_bytes - at ≡ level_bytes = omega arith in
      let l : length ys ≡ level_bytes = ap length z ∙ length-level_line level (level_words area level) (length-level_words area level long hi) in
      rw n (record {
        size = put-length at level_bytes part ys (put-room y) l ∙ omega (arith, p.size, length-yes area level lo hi long y);
        whole =
            ap (λ (x : List ℕ). x ++ lines_from area (level + 1)) (put-take at level_bytes part ys (put-room y) l)
            ∙ append_assoc (take at part) ys (lines_from area (level + 1))
            ∙ ap (λ (x : List ℕ). take at part ++ (x ++ lines_from area (level + 1))) z
            ∙ ap (λ (x : List ℕ). take at part ++ x) (sym (from-yes area level lo hi y)) ∙ p.whole;
      })

  pub put-no : has_line_at area level ≡ false → Putting area part at (level + 1)
  put-no y =
      let n : lines_from area level ≡ lines_from area (level + 1) = from-no area level lo hi y in
      record { size = p.size ∙ ap (λ (x : List ℕ). at + length x) n; whole = ap (λ (x : List ℕ). take at part ++ x) (sym n) ∙ p.whole }

pub put_all : {area part : List ℕ} {at level : ℕ} → Putting area part at level → own_levels area < level → part ≡ lines_from area 1
put_all {area} {part} {at} {level} p h =
    let e = from-end area level h in
    let n : length part ≤ at = omega (arith, p.size, ap length e) in
    sym (take_all at part n) ∙ sym (append-nil (take at part)) ∙ ap (λ (x : List ℕ). take at part ++ x) (sym e) ∙ p.whole

-- ---- the text in two parts, the first two lines, of n bytes, and those of the levels

module _ (w n : ℕ) (area part y0 : List ℕ) (size : n ≡ head_bytes w) (h : Long area) (l : length part ≡ length (text_with w area))
    (e : y0 ≡ line1 (line1_fields w) area ++ line2 area) where
  abbrev put : List ℕ
  put = put_mid 0 (n - 0) part y0

  head_bytes_lem : length y0 ≡ n
  head_bytes_lem = ap length e ∙ length-head w area (omega arith) ∙ sym size

  room : n ≤ length part
  room = omega (arith, length-text w area (omega arith))

  head-put : put ≡ y0 ++ drop n part
  head-put = lent-next 0 n [] part part y0 refl refl (omega arith) room (head_bytes_lem ∙ omega arith)

  head-length : length put ≡ length part
  head-length = put-length 0 (n - 0) part y0 (omega (arith, room)) (head_bytes_lem ∙ omega arith)

  pub head-room : n ≤ length put
  head-room = omega (arith, head-length, room)

  pub levels-length : length (mid_of n (length put - n) put) ≡ length (lines_from area 1)
  levels-length = mid_len n (length put) put (omega arith) ∙ omega (arith, head-length, length-text w area (omega arith))

  pub text-put : (y1 : List ℕ) → y1 ≡ lines_from area 1 → put_mid n (length put - n) put y1 ≡ text_with w area
  text-put y1 f =
      let m : length y1 ≡ length part - n = ap length f ∙ omega (arith, length-text w area (omega arith)) in
      ap (λ (x : ℕ). put_mid n (x - n) put y1) head-length
      ∙ lent-next n (length part) y0 put part y1 head_bytes_lem head-put room (omega arith) m
      ∙ rw (drop-length part, e, f) (append-nil ((line1 (line1_fields w) area ++ line2 area) ++ lines_from area 1) ∙ sym (text-lines w area))
