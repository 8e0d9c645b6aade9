-- Laws: the length of a text: the bytes of the first two lines, and of a line for each level that has one.
use Rattle.std.specs.Prelude.{◌≡◌, refl, Bool, true, false, List, [], ◌∷◌, ◌++◌, ℕ, zero, suc, ◌+◌, ◌*◌, ◌≤◌, length}
use Rattle.std.proofs.Common.{◌∙◌, arith, length-append}
use Rattle.std.proofs.lemmas.List.{length-map}
use Rattle.tree.specs.Tree.{most_levels}
use Rattle.calls.specs.Area.{head_words, block_words, Long, phase_of, total_of, k_of, holds_for, level_words, levels_from, levels_of, params_of, area_levels, own_levels}
use Rattle.digits.specs.Digits.{hex_digits, word_digits}
use Rattle.texts.specs.Text.{Field, line1_fields, field_digits, line1, line2, level_line, has_line, held_levels, held_of, level_lines, text_with, text_of, rounds_bytes, line1_bytes, line2_bytes, level_bytes, head_bytes}
use Rattle.digits.proofs.DigitLaws.{length_digits, length-word_digits}
use Rattle.texts.proofs.FieldLaws.{length_fields}
use Rattle.texts.proofs.LayoutLaws.{length-key_of}
use Rattle.calls.proofs.AreaLaws.{length-level_words}
use Rattle.calls.proofs.MoreLevels.{holds-length}

pub length-line1 : (fs : List Field) (area : List ℕ) → length (line1 fs area) ≡ line1_bytes fs
length-line1 fs area = rw (length-append (field_digits fs area) (10 ∷ []), length_fields fs area)

pub length-line2 : (area : List ℕ) → head_words ≤ length area → length (line2 area) ≡ line2_bytes
length-line2 area h = rw (length-append (word_digits (k_of area)) (10 ∷ []), length-word_digits (k_of area), length-key_of area h)

pub length-level_line : (k : ℕ) (ws : List ℕ) → length ws ≡ block_words → length (level_line k ws) ≡ level_bytes
length-level_line k ws h =
    rw (
      length-append (hex_digits 2 k ++ word_digits ws) (10 ∷ []),
      length-append (hex_digits 2 k) (word_digits ws),
      length_digits 2 k,
      length-word_digits ws,
      h,
    )

-- ---- how many levels have a line

abbrev pub lines : List Bool → ℕ
lines [] = 0
lines (true ∷ hs) = suc (lines hs)
lines (false ∷ hs) = lines hs

lines_le : (hs : List Bool) → lines hs ≤ length hs
lines_le [] = omega arith
lines_le (true ∷ hs) = omega (arith, lines_le hs)
lines_le (false ∷ hs) = omega (arith, lines_le hs)

pub length-held_levels : (phase limit T : ℕ) → length (held_levels phase limit T) ≡ area_levels limit
length-held_levels phase limit T = length-map (holds_for (area_levels limit) phase limit T) has_line ∙ holds-length (area_levels limit) phase limit T

pub length-held : (area : List ℕ) → length (held_of area) ≡ own_levels area
length-held area = length-held_levels (phase_of area) (params_of area).limit (total_of area)

-- ---- the length of a text

length-level_lines : (area : List ℕ) (hs : List Bool) (n k level : ℕ) → Long area → length hs ≡ n → n + k ≤ own_levels area + 1
    → length (level_lines level hs (levels_from area n k)) ≡ level_bytes * lines hs
length-level_lines area [] zero k level h e g = refl
length-level_lines area [] (suc n) k level h e g = refl
length-level_lines area (b ∷ hs) zero k level h e g = absurd (omega arith)
length-level_lines area (true ∷ hs) (suc n) k level h e g =
    rw (
      length-append (level_line level (level_words area k)) (level_lines (suc level) hs (levels_from area n (suc k))),
      length-level_line level (level_words area k) (length-level_words area k h (omega arith)),
      length-level_lines area hs n (suc k) (suc level) h (omega arith) (omega arith),
    )
    (omega arith)
length-level_lines area (false ∷ hs) (suc n) k level h e g = length-level_lines area hs n (suc k) (suc level) h (omega arith) (omega arith)

pub text-length : (w : ℕ) (area : List ℕ) → Long area → length (text_with w area) ≡ head_bytes w + level_bytes * lines (held_of area)
unfolding text_with levels_of
text-length w area h =
    rw (
      length-append (line1 (line1_fields w) area) (line2 area ++ level_lines 1 (held_of area) (levels_from area (own_levels area) 1)),
      length-append (line2 area) (level_lines 1 (held_of area) (levels_from area (own_levels area) 1)),
      length-line1 (line1_fields w) area,
      length-line2 area (omega arith),
      length-level_lines area (held_of area) (own_levels area) 1 1 h (length-held area) (omega arith),
    )
    (omega arith)

pub text-most : (w : ℕ) (area : List ℕ) → Long area → length (text_with w area) ≤ head_bytes w + own_levels area * level_bytes
text-most w area h = omega (arith, text-length w area h, lines_le (held_of area), length-held area)

abbrev pub most_text : ℕ
most_text = head_bytes rounds_bytes + most_levels * level_bytes

-- so 27,905 bytes are always enough, and for L = 0 1,203
pub longest : (area : List ℕ) → Long area → length (text_of area) ≤ 27905
longest area h = omega (arith, text-most rounds_bytes area h)

pub longest-flat : (area : List ℕ) → Long area → (params_of area).limit ≡ 0 → length (text_of area) ≤ 1203
longest-flat area h e = omega (arith, text-most rounds_bytes area h, e)
