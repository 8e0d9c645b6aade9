-- What the stores of each line leave in the part that is lent for it.
use mathlib.Core.Path.{◌≡◌, refl, sym, ap, ◌∙◌}
use mathlib.Core.List.{List, [], ◌∷◌, ◌++◌, append_assoc}
use Prim.Native.Nat.{ℕ, suc, ◌+◌, ◌-◌, ◌*◌, ◌≤◌, ◌<◌}
use native.Mathlib.Omega.{arith}
use borrow.Rule.Slice.PartMut.{mid_of, put_mid}
use lib.ListN.{length, take, drop, get_or, set, length-append, drop_of_length-le}
use lib.Seq.{drop-cons, set_at, take_all}
use Rattle.calls.specs.Area.{head_words, k_of, own_levels, level_words, Long}
use Rattle.digits.specs.Digits.{hex_digits, word_digits, line}
use Rattle.texts.specs.Text.{Field, digits_of, line1_fields, field_digits, line1, line2, level_line, digits_in, line1_bytes, level_bytes, head_bytes}
use Rattle.texts.proofs.FieldLaws.{length_fields}
use Rattle.writing.specs.FieldAt.{field_at, field-more, digits_end}
use Rattle.digits.proofs.DigitLaws.{length_digits, length-word_digits}
use Rattle.calls.proofs.AreaLaws.{length-level_words}
use Rattle.texts.proofs.LayoutLaws.{length-key_of}
use Rattle.texts.proofs.LengthLaws.{length-line1}
use Rattle.digits.proofs.Loops.{lent-next, lent_digits}

-- the last byte of a line is stored
line-end : (P part : List ℕ) (n : ℕ) → length P ≡ n → length part ≡ suc n → set (P ++ drop n part) n 10 ≡ line P
line-end P part n p h =
    rw (drop-cons part n 0 (omega arith), drop_of_length-le part {i = suc n} (omega arith)) (set_at P (get_or part n 0) [] 10 n p)

-- ---- line 1, field i after those before it

-- it has n digits and tells the number x
pub field_stored : (fs : List Field) (area part₀ part ys : List ℕ) (a i n x : ℕ) → i < length fs → n ≡ digits_of (field_at fs i) → x ≡ get_or area (field_at fs i).word 0
    → a ≡ digits_in (take i fs) → length part₀ ≡ line1_bytes fs → part ≡ field_digits (take i fs) area ++ drop a part₀
    → ys ≡ hex_digits (length (mid_of a (a + n - a) part)) x
    → put_mid a (a + n - a) part ys ≡ field_digits (take (i + 1) fs) area ++ drop (a + n) part₀
field_stored fs area part₀ part ys a i n x h e t s l is y =
    let P : List ℕ = field_digits (take i fs) area in
    lent_digits a (a + n) P part part₀ ys (length_fields (take i fs) area ∙ sym s) is (omega arith)
    (omega (arith, digits_end fs i h)) n x (omega arith) y
    ∙ ap (λ (Q : List ℕ). Q ++ drop (a + n) part₀) (ap (λ (m : ℕ). P ++ hex_digits m x) e ∙ ap (λ (z : ℕ). P ++ hex_digits (digits_of (field_at fs i)) z) t ∙ sym (field-more fs i h area))

pub line1-stored : (fs : List Field) (area part₀ : List ℕ) (a i : ℕ) → length fs ≤ i → a ≡ digits_in (take i fs) → length part₀ ≡ line1_bytes fs
    → set (field_digits (take i fs) area ++ drop a part₀) a 10 ≡ line1 fs area
line1-stored fs area part₀ a i e s l =
    let t : take i fs ≡ fs = take_all i fs e in
    line-end (field_digits (take i fs) area) part₀ a (length_fields (take i fs) area ∙ sym s) (omega (arith, ap digits_in t))
    ∙ ap (λ (gs : List Field). line1 gs area) t

-- ---- a level's line

pub level-stored : (part area y0 y1 : List ℕ) (level : ℕ) → length part ≡ level_bytes → Long area → level ≤ own_levels area
    → y0 ≡ hex_digits (length (mid_of 0 2 part)) level
    → y1 ≡ word_digits (level_words area level)
    → set (put_mid 2 1024 (put_mid 0 2 part y0) y1) 1026 10 ≡ level_line level (level_words area level)
level-stored part area y0 y1 level l h g e w =
    let ws : List ℕ = level_words area level in
    let k : length (word_digits ws) ≡ 1024 = length-word_digits ws ∙ ap (λ (m : ℕ). 16 * m) (length-level_words area level h g) in
    let s0 = lent_digits 0 2 [] part part y0 refl refl (omega arith) (omega arith) 2 level refl e in
    let s1 = lent-next 2 1026 (hex_digits 2 level) (put_mid 0 2 part y0) part y1 (length_digits 2 level) s0 (omega arith) (omega arith) (ap length w ∙ k) in
    ap (λ (x : List ℕ). set x 1026 10) (s1 ∙ ap (λ (x : List ℕ). (hex_digits 2 level ++ x) ++ drop 1026 part) w)
    ∙ line-end (hex_digits 2 level ++ word_digits ws) part 1026 (rw (length-append, length_digits 2 level, k)) l

-- ---- the first two lines

-- line 1 has a bytes
pub head-stored : (w a : ℕ) (part area y0 y1 : List ℕ) → a ≡ line1_bytes (line1_fields w) → length part ≡ head_bytes w → head_words ≤ length area → y0 ≡ line1 (line1_fields w) area
    → y1 ≡ word_digits (k_of area) → set (put_mid a (a + 128 - a) (put_mid 0 (a - 0) part y0) y1) (a + 128) 10 ≡ line1 (line1_fields w) area ++ line2 area
head-stored w a part area y0 y1 is l h e f =
    let k : length y1 ≡ 128 = ap length f ∙ rw (length-word_digits (k_of area), length-key_of area h) in
    let n : length y0 ≡ a = ap length e ∙ length-line1 (line1_fields w) area ∙ sym is in
    let s0 = lent-next 0 a [] part part y0 refl refl (omega arith) (omega arith) (n ∙ omega arith) in
    let s1 = lent-next a (a + 128) y0 (put_mid 0 (a - 0) part y0) part y1 n s0 (omega arith) (omega arith) (k ∙ omega arith) in
    ap (λ (x : List ℕ). set x (a + 128) 10) s1 ∙ line-end (y0 ++ y1) part (a + 128) (rw (length-append, n, k)) (omega arith)
    ∙ rw (e, f) (append_assoc (line1 (line1_fields w) area) (word_digits (k_of area)) (10 ∷ []))
