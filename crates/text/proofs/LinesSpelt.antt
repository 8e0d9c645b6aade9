-- What the digits of each line spell, in the words that are lent for them.
use Rattle.std.proofs.Common.{Option, Some, None}
use Rattle.std.specs.Prelude.{option_map}
use mathlib.Core.Path.{◌≡◌, refl, sym, ap, ◌∙◌}
use mathlib.Core.List.{List}
use Prim.Native.Nat.{ℕ, zero, suc, ◌+◌, ◌-◌, ◌*◌, ◌≤◌, ◌<◌}
use native.Mathlib.Numerals.{add-one}
use native.Mathlib.Omega.{arith}
use borrow.Rule.Slice.PartMut.{mid_of, put_mid, mid_len}
use lib.ListN.{length, take, drop, set, replicate}
use lib.Seq.{drop-cons, take-take}
use Rattle.lists.specs.Append.{cons_eq}
use Rattle.lists.specs.Part.{put}
use Rattle.lists.specs.Take.{drop-take}
use Rattle.calls.specs.Area.{head_words, block_words, own_levels, Long, level_start}
use Rattle.digits.specs.Digits.{spelt, spelt_words, all_spelt}
use Rattle.texts.specs.Text.{Field, field_of, digits_of, line1_fields, line1_bytes, with_spelt, spelt_fields, spelt_head}
use Rattle.writing.specs.FieldAt.{field_at}
use Rattle.text.specs.Spelling.{level_spelt}

-- ---- words from digits

pub words-front : (n : ℕ) (text : List ℕ) → spelt_words n (take (16 * n) text) ≡ spelt_words n text
unfolding spelt_words
words-front zero text = refl
words-front (suc n) text =
    let e : 16 * suc n ≡ 16 + 16 * n = omega arith in
    rw e (cons_eq (ap (spelt 0) (take-take 16 (16 + 16 * n) text (omega arith))) (ap (spelt_words n) (drop-take 16 (16 * n) text) ∙ words-front n (drop 16 text)))

-- what is made of the words that a call lends, if it answers some
made : {A X Y : Type 0} (f : X → Y) (x : X) (r : Option A) → option_map (λ _. f x) r ≡ option_map f (option_map (λ _. x) r)
made f x None = refl
made f x (Some a) = refl

pub level-spelt : {A : Type 0} (area line ys : List ℕ) (level : ℕ) (r : Option A) → Long area → level ≤ own_levels area
    → option_map (λ _. ys) r ≡ all_spelt (spelt_words (length (mid_of (level_start level) (level_start level + block_words - level_start level) area)) (take 1024 (drop 2 line)))
    → option_map (λ _. put_mid (level_start level) (level_start level + block_words - level_start level) area ys) r
    ≡ option_map (put (level_start level) block_words area) (all_spelt (level_spelt line))
level-spelt area line ys level r h g e =
    let a : ℕ = level_start level in
    let n : a + 64 - a ≡ 64 = omega arith in
    let m : length (mid_of a (a + 64 - a) area) ≡ 64 = mid_len a (a + 64) area (omega arith) ∙ n in
    let x : spelt_words (length (mid_of a (a + 64 - a) area)) (take 1024 (drop 2 line)) ≡ level_spelt line =
    ap (λ (k : ℕ). spelt_words k (take 1024 (drop 2 line))) m ∙ words-front 64 (drop 2 line) in
    made (put_mid a (a + 64 - a) area) ys r ∙ ap (option_map (put_mid a (a + 64 - a) area)) (e ∙ ap all_spelt x)
    ∙ ap (λ (k : ℕ). option_map (put a k area) (all_spelt (level_spelt line))) n

-- ---- field i of line 1: its n digits, the first of what is left of the text, are read or refused

module _ (fs : List Field) (i : ℕ) (h : i < length fs) (rest own ws : List ℕ) (n : ℕ) (size : n ≡ digits_of (field_at fs i)) (front : own ≡ take n rest) where
  spells : spelt 0 (take (digits_of (field_at fs i)) rest) ≡ spelt 0 own
  spells = sym (ap (spelt 0) (front ∙ ap (λ (m : ℕ). take m rest) size))

  pub field-read : (after : List ℕ) → after ≡ drop n rest → (w : ℕ) → w ≡ (field_at fs i).word → (x : ℕ) → Some x ≡ spelt 0 own
      → spelt_fields (drop i fs) rest ws ≡ spelt_fields (drop (i + 1) fs) after (set ws w x)
  field-read after back w is x e = rw (add-one i, drop-cons fs i (field_of 0 0) h, spells, ← e, back, size, is)

  pub field-refused : None ≡ spelt 0 own → spelt_fields (drop i fs) rest ws ≡ None
  field-refused e = rw (drop-cons fs i (field_of 0 0) h, spells, ← e)

-- ---- words 0 to 15 from the first two lines: a field is refused, or K comes after the fields

pub head_none : (w : ℕ) (text : List ℕ) → spelt_fields (line1_fields w) text (replicate head_words 0) ≡ None → None ≡ spelt_head (line1_fields w) text
unfolding spelt_head
head_none w text e = rw e

pub head_known : {A : Type 0} (w a : ℕ) (text ws ks : List ℕ) (r : Option A) → a ≡ line1_bytes (line1_fields w)
    → spelt_fields (line1_fields w) text (replicate head_words 0) ≡ Some ws → length ws ≡ head_words
    → option_map (λ _. ks) r ≡ all_spelt (spelt_words (length (mid_of 6 8 ws)) (take (a + 128 - a) (drop a text)))
    → option_map (λ _. put_mid 6 8 ws ks) r ≡ spelt_head (line1_fields w) text
unfolding spelt_head
head_known w a text ws ks r is f n e =
    let m : a + 128 - a ≡ 128 = omega arith in
    let k : all_spelt (spelt_words 8 (drop (line1_bytes (line1_fields w)) text)) ≡ option_map (λ _. ks) r =
    sym (e ∙ ap (λ (x : ℕ). all_spelt (spelt_words (length (mid_of 6 8 ws)) (take x (drop a text)))) m
    ∙ ap (λ (x : ℕ). all_spelt (spelt_words x (take 128 (drop a text)))) (mid_len 6 14 ws (omega arith))
    ∙ ap all_spelt (words-front 8 (drop a text)) ∙ ap (λ (x : ℕ). all_spelt (spelt_words 8 (drop x text))) is) in
    rw (f, k) (by r)
  where
    by : {A : Type 0} (r : Option A) → option_map (λ _. put_mid 6 8 ws ks) r ≡ with_spelt (option_map (λ _. ks) r) (λ (key : List ℕ). Some (put 6 8 ws key))
    by None = refl
    by (Some a) = refl
