-- Laws: the fields of line 1 by their sizes and words, and the lines of an area's levels above the first k.
use Rattle.std.specs.Prelude.{◌≡◌, refl, Bool, ℕ, zero, suc, ◌+◌, ◌-◌, ◌*◌, ◌≤◌, ◌<◌, length, take, drop, get_or}
use Rattle.std.proofs.Common.{sym, ap, ◌∙◌, append_assoc, add-one, le_of_suc-le-suc, arith, length-append, drop_of_length-le, drop-cons}
use Rattle.std.proofs.Math.Bool.{true, false}
use mathlib.Core.List.{List, [], ◌∷◌, ◌++◌, append-nil, flatten}
use Rattle.std.proofs.Math.ListN.{get_or-map}
use Rattle.std.proofs.Math.Seq.{take-suc}
use Rattle.lists.specs.BelowLaws.{below_at}
use Rattle.lists.specs.Flatten.{flatten-append, map-append}
use Rattle.calls.specs.Area.{head_words, own_levels, Long, level_words, levels_from, levels_of}
use Rattle.calls.proofs.AreaLaws.{length-level_words}
use Rattle.digits.specs.Digits.{hex_digits}
use Rattle.digits.proofs.DigitLaws.{length_digits}
use Rattle.texts.specs.Text.{Field, field_of, rounds_bytes, line1_fields, line1, line2, level_line, held_of, level_lines, text_with, level_bytes, head_bytes, digits_of, field_digits, digits_in}
use Rattle.texts.proofs.FieldLaws.{field_words, field_sizes, words-head, sizes-word, length_fields}
use Rattle.texts.proofs.LengthLaws.{length-level_line, length-held, text-most}
use Rattle.writing.specs.FieldAt.{digits_some, field_at}
use Rattle.writing.specs.Lines.{has_line_at, length-head}

-- ---- field i, after those before it: its digits, and the word that it stands for

abbrev pub size_at : List Field → ℕ → ℕ
size_at fs i = get_or (field_sizes fs) i 0

abbrev pub word_at : List Field → ℕ → ℕ
word_at fs i = get_or (field_words fs) i 0

module _ (fs : List Field) (i : ℕ) (h : i < length fs) where
  abbrev n : ℕ
  n = size_at fs i

  abbrev w : ℕ
  w = word_at fs i

  pub size_is : n ≡ digits_of (field_at fs i)
  size_is = get_or-map digits_of fs i (field_of 0 0)

  pub word_is : w ≡ (field_at fs i).word
  word_is = get_or-map (λ (g : Field). g.word) fs i (field_of 0 0)

  pub field-more : (area : List ℕ) → field_digits (take (i + 1) fs) area ≡ field_digits (take i fs) area ++ hex_digits n (get_or area w 0)
  unfolding flatten
  field-more area = rw (add-one i, take-suc fs i (field_of 0 0) h, size_is, word_is, map-append, flatten-append, append-nil)

  pub digits_more : digits_in (take (i + 1) fs) ≡ digits_in (take i fs) + n
  digits_more =
      sym (length_fields (take (i + 1) fs) []) ∙ ap length (field-more []) ∙ rw (length-append, length_fields (take i fs) [], length_digits n (get_or {A = ℕ} [] w 0))

  -- its word is one before the levels, it has at most 16 digits, and they end within the line's
  pub record InLine : Type 0 where
    pub word : w < head_words
    pub size : n ≤ 16
    pub ends : digits_in (take i fs) + n ≤ digits_in fs

in_line : (w : ℕ) → w ≤ rounds_bytes → (i : ℕ) (h : i < length (line1_fields w)) → InLine (line1_fields w) i h
in_line w b i h = record {
  word = below_at (words-head w) i h;
  size = le_of_suc-le-suc (below_at (sizes-word w b) i h);
  ends = omega (arith, digits_more (line1_fields w) i h, digits_some (line1_fields w) (i + 1));
}

-- the same of the sizes that an array has
pub record Sized (w : ℕ) (sizes : List ℕ) (i : ℕ) : Type 0 where
  pub is : get_or sizes i 0 ≡ size_at (line1_fields w) i
  pub word : word_at (line1_fields w) i < head_words
  pub size : get_or sizes i 0 ≤ 16
  pub ends : digits_in (take i (line1_fields w)) + get_or sizes i 0 ≤ digits_in (line1_fields w)
  pub more : digits_in (take (i + 1) (line1_fields w)) ≡ digits_in (take i (line1_fields w)) + get_or sizes i 0

pub sized : (w : ℕ) → w ≤ rounds_bytes → (sizes : List ℕ) → sizes ≡ field_sizes (line1_fields w) → (i : ℕ) → i < length (line1_fields w) → Sized w sizes i
sized w b sizes e i h =
    let f = in_line w b i h in
    let s : get_or sizes i 0 ≡ size_at (line1_fields w) i = ap (λ (l : List ℕ). get_or l i 0) e in
    record {
      is = s;
      word = f.word;
      size = omega (arith, s, f.size);
      ends = omega (arith, s, f.ends);
      more = omega (arith, s, digits_more (line1_fields w) i h);
    }

-- the lines of the levels above the first k
unfoldable pub lines_above : List ℕ → ℕ → List ℕ
lines_above area k = level_lines (suc k) (drop k (held_of area)) (levels_from area (own_levels area - k) (suc k))

-- ---- one level more

-- the line of a level, if it has one
line_of : Bool → ℕ → List ℕ → List ℕ
line_of true level ws = level_line level ws
line_of false level ws = []

above-next : (area : List ℕ) (k : ℕ) → k < own_levels area
    → lines_above area k ≡ line_of (get_or (held_of area) k false) (suc k) (level_words area (suc k)) ++ lines_above area (suc k)
unfolding lines_above line_of
above-next area k h =
    let e : own_levels area - k ≡ suc (own_levels area - suc k) = omega arith in
    rw (e, drop-cons (held_of area) k false (omega (arith, length-held area))) (by (get_or (held_of area) k false))
  where
    by : (b : Bool) → level_lines (suc k) (b ∷ drop (suc k) (held_of area)) (level_words area (suc k) ∷ levels_from area (own_levels area - suc k) (suc (suc k)))
        ≡ line_of b (suc k) (level_words area (suc k)) ++ level_lines (suc (suc k)) (drop (suc k) (held_of area)) (levels_from area (own_levels area - suc k) (suc (suc k)))
    by true = refl
    by false = refl

pub held_at : (area : List ℕ) (k : ℕ) → has_line_at area (k + 1) ≡ get_or (held_of area) k false
unfolding has_line_at
held_at area k = let e : k + 1 - 1 ≡ k = omega arith in ap (λ (i : ℕ). get_or (held_of area) i false) e

-- the lines of fewer levels are no longer
pub above_less : (area : List ℕ) (k : ℕ) → k ≤ own_levels area → length (lines_above area k) ≤ length (lines_above area 0)
above_less area zero h = omega arith
above_less area (suc k) h =
    let n = above-next area k (omega arith) in
    let l = length-append (line_of (get_or (held_of area) k false) (suc k) (level_words area (suc k))) (lines_above area (suc k)) in
    omega (arith, ap length n ∙ l, above_less area k (omega arith))

module _ (area : List ℕ) (k : ℕ) (h : k < own_levels area) where
  above-by : (b : Bool) → has_line_at area (k + 1) ≡ b → lines_above area k ≡ line_of b (k + 1) (level_words area (k + 1)) ++ lines_above area (k + 1)
  above-by b e =
      above-next area k h ∙ ap (λ (t : Bool). line_of t (suc k) (level_words area (suc k)) ++ lines_above area (suc k)) (sym (held_at area k) ∙ e)
      ∙ ap (λ (i : ℕ). line_of b i (level_words area i) ++ lines_above area i) (sym (add-one k))

  pub above-yes : has_line_at area (k + 1) ≡ true → lines_above area k ≡ level_line (k + 1) (level_words area (k + 1)) ++ lines_above area (k + 1)
  unfolding line_of
  above-yes e = above-by true e

  pub above-no : has_line_at area (k + 1) ≡ false → lines_above area k ≡ lines_above area (k + 1)
  unfolding line_of
  above-no e = above-by false e

  pub length-yes : Long area → has_line_at area (k + 1) ≡ true → length (lines_above area k) ≡ level_bytes + length (lines_above area (k + 1))
  length-yes l e =
      ap length (above-yes e)
      ∙ rw (length-append, length-level_line (k + 1) (level_words area (k + 1)) (length-level_words area (k + 1) l (omega arith)))

pub above-all : (area : List ℕ) (k : ℕ) → own_levels area ≤ k → lines_above area k ≡ []
unfolding lines_above
above-all area k h = rw (drop_of_length-le (held_of area) {i = k} (omega (arith, length-held area)))

-- ---- the whole text

pub text-lines : (w : ℕ) (area : List ℕ) → text_with w area ≡ (line1 (line1_fields w) area ++ line2 area) ++ lines_above area 0
unfolding text_with lines_above levels_of
text-lines w area =
    let e : own_levels area - 0 ≡ own_levels area = omega arith in
    rw e (sym (append_assoc (line1 (line1_fields w) area) (line2 area) (level_lines 1 (held_of area) (levels_of area))))

pub length-text : (w : ℕ) (area : List ℕ) → head_words ≤ length area → length (text_with w area) ≡ head_bytes w + length (lines_above area 0)
length-text w area h =
    ap length (text-lines w area) ∙ rw (length-append (line1 (line1_fields w) area ++ line2 area) (lines_above area 0), length-head w area h)

pub above_most : (area : List ℕ) → Long area → length (lines_above area 0) ≤ own_levels area * level_bytes
above_most area h = omega (arith, length-text rounds_bytes area (omega arith), text-most rounds_bytes area h)
