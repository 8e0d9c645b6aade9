-- Laws: document 02, M-109, "Texts do not change": levels above L + 1 hold nothing and have no line, so that an area of 27 levels wrote
-- what it writes now, what was sound is sound, and a text is read exactly if an area that was sound wrote it.
use Rattle.std.specs.Prelude.{◌≡◌, refl, Bool, true, false, ◌&&◌, List, [], ◌∷◌, ◌++◌, map, ◌↔◌, ◌⊎◌, ℕ, zero, suc, ◌+◌, ◌-◌, ◌*◌, ◌^◌, ◌≤◌, length, take, drop, get_or, replicate}
use Rattle.std.proofs.Common.{sym, ap, ◌∙◌, append_assoc, append-nil, inl, inr, arith, length-append, take_at, drop_at, length-take-le}
use Rattle.std.proofs.Math.Bool.{and_assoc}
use Rattle.std.proofs.lemmas.List.{length-replicate}
use Rattle.lists.specs.Below.{Below}
use Rattle.lists.specs.And.{and_parts, and_intro}
use Rattle.lists.specs.BelowLaws.{below-append, below-take, below-zeros}
use Rattle.lists.specs.Replicate.{take-replicate}
use Rattle.bits.specs.Bits.{bits_of}
use Rattle.bits.specs.BitsLaws.{bits_of-zeros}
use Rattle.tree.specs.Tree.{most_levels, most_limit}
use Rattle.calls.specs.Area.{Hold, block_words, area_words, all_false, parallel_hold, holds_for, clean_all, levels_from, levels_of, phase_of, total_of, params_of, own_levels, own_words, sound_levels, sound}
use Rattle.calls.proofs.AreaLaws.{length-levels_from, all_false-replicate}
use Rattle.calls.proofs.MoreLevels.{holds_more, holds-length, levels-more, clean-more}
use Rattle.calls.proofs.Moved.{SameParts, same-front, same-sound}
use Rattle.calls.proofs.SoundParts.{empty_from, clean-empty, empty-levels, sound_head, parts-joined, sound-parts}
use Rattle.calls.specs.Vocabulary.{SameFront}
use Rattle.texts.specs.Text.{rounds_bytes, old_rounds_bytes, line1_fields, line1, line2, level_line, has_line, level_lines, text_with, readable}
use Rattle.texts.specs.Vocabulary.{SoundArea, old_most_rounds, Writing, new_writing, old_writing, WrittenBy, holds_before, sound_before, text_before, WroteBefore}
use Rattle.texts.proofs.LayoutLaws.{same_text}
use Rattle.texts.proofs.ReadForms.{writing_read, readable-sound}

-- ---- the lines of two parts of a list of levels

lines_more : (a : ℕ) (hs ks : List Hold) (st up : List (List ℕ)) → length hs ≡ length st →
    level_lines a (map has_line (hs ++ ks)) (st ++ up) ≡ level_lines a (map has_line hs) st ++ level_lines (a + length hs) (map has_line ks) up
lines_more a [] ks [] up e = let z : a + 0 ≡ a = omega arith in rw z refl
lines_more a [] ks (ws ∷ st) up e = absurd (omega arith)
lines_more a (h ∷ hs) ks [] up e = absurd (omega arith)
lines_more a (h ∷ hs) ks (ws ∷ st) up e = by (has_line h) (rw s (lines_more (suc a) hs ks st up (omega arith)))
  where
    s : a + suc (length hs) ≡ suc a + length hs
    s = omega arith

    rest : List ℕ
    rest = level_lines (a + suc (length hs)) (map has_line ks) up

    by : (b : Bool) → level_lines (suc a) (map has_line (hs ++ ks)) (st ++ up) ≡ level_lines (suc a) (map has_line hs) st ++ rest →
        level_lines a (b ∷ map has_line (hs ++ ks)) (ws ∷ (st ++ up)) ≡ level_lines a (b ∷ map has_line hs) (ws ∷ st) ++ rest
    by true q = ap (λ (l : List ℕ). level_line a ws ++ l) q ∙ sym (append_assoc (level_line a ws) (level_lines (suc a) (map has_line hs) st) rest)
    by false q = q

-- levels that hold nothing have no line
no_lines : (a n : ℕ) (st : List (List ℕ)) → level_lines a (map has_line (replicate n (parallel_hold 0))) st ≡ []
no_lines a zero st = refl
no_lines a (suc n) [] = refl
no_lines a (suc n) (ws ∷ st) = no_lines (suc a) n st

-- ---- an area with all levels that a tree can have

module _ (area : List ℕ) where
  abbrev here : List Hold
  here = holds_for (own_levels area) (phase_of area) (params_of area).limit (total_of area)

  abbrev more : ℕ
  more = most_levels - own_levels area

  abbrev above : List (List ℕ)
  above = levels_from area more (1 + own_levels area)

  holds_split : holds_before area ≡ here ++ replicate more (parallel_hold 0)
  holds_split = holds_more most_levels (own_levels area) more (phase_of area) (params_of area).limit (total_of area) (omega arith) refl

  levels-all : levels_from area most_levels 1 ≡ levels_from area (own_levels area) 1 ++ above
  levels-all = levels-more area most_levels (own_levels area) more 1 (omega arith)

  sizes : length here ≡ length (levels_from area (own_levels area) 1)
  sizes = holds-length (own_levels area) (phase_of area) (params_of area).limit (total_of area) ∙ sym (length-levels_from area (own_levels area) 1)

-- what it wrote is what it writes: every area, and with r in any number of bytes
pub texts_same : (w : ℕ) (area : List ℕ) → text_before w area ≡ text_with w area
unfolding text_with levels_of
texts_same w area =
    ap (λ (l : List ℕ). line1 (line1_fields w) area ++ (line2 area ++ l))
    (rw (holds_split area, levels-all area)
    (lines_more 1 (here area) (replicate (more area) (parallel_hold 0)) (levels_from area (own_levels area) 1) (above area) (sizes area)
    ∙ ap (λ (l : List ℕ). level_lines 1 (map has_line (here area)) (levels_from area (own_levels area) 1) ++ l) (no_lines (1 + length (here area)) (more area) (above area))
    ∙ append-nil (level_lines 1 (map has_line (here area)) (levels_from area (own_levels area) 1))))

-- it was sound exactly if it is sound and no bit is set in the words of its 27 levels past those that its L gives
pub sound-before : (area : List ℕ) → sound_before area ≡ (sound area && all_false (bits_of 64 (take (block_words * (most_levels - own_levels area)) (drop (own_words area) area))))
unfolding levels_of
sound-before area =
    parts-joined area (clean_all (holds_before area) (levels_from area most_levels 1))
    ∙ ap (◌&&◌ (sound_head area))
    (rw (holds_split area, levels-all area)
    (clean-more (here area) (replicate (more area) (parallel_hold 0)) (levels_from area (own_levels area) 1) (above area) (sizes area)
    ∙ ap (◌&&◌ (sound_levels area)) empty))
    ∙ sym (and_assoc (sound_head area) (sound_levels area) tail) ∙ ap (λ (b : Bool). b && tail) (sym (sound-parts area))
  where
    tail : Bool
    tail = all_false (bits_of 64 (take (block_words * more area) (drop (own_words area) area)))

    start : 16 + 64 * (1 + own_levels area - 1) ≡ own_words area
    start = omega arith

    empty : clean_all (replicate (more area) (parallel_hold 0)) (above area) ≡ tail
    empty =
        clean-empty area (more area) (1 + own_levels area) ∙ empty-levels area (more area) (1 + own_levels area) (omega arith)
        ∙ ap (λ (n : ℕ). empty_from 0 (take (block_words * more area) (drop n area))) start

-- so what was sound, in the 1,744 words that it had to have, is sound, and its texts are read as any sound area's
pub was_sound : (area : List ℕ) → Below (2 ^ 64) area → area_words most_limit ≤ length area → sound_before area ≡ true → SoundArea area
was_sound area b h e = record { words = b; long = omega arith; is_sound = (and_parts (sound area) _ (sym (sound-before area) ∙ e)).0 }

-- the other way round: what a sound area writes, in either form, an area of 1,744 words wrote that was sound before M-109: the words that L
-- gives, followed by zeros
pub wrote-before : (text : List ℕ) → WrittenBy text → WroteBefore text
wrote-before text w = record {
  area = b;
  size = rw (length-append front zs, length-take-le n a w.is.long, length-replicate {A = ℕ} m 0) (omega arith);
  words = below-append (below-take n w.is.words) (below-zeros (2 ^ 64) m (omega arith));
  sound_then = sound-before b ∙ and_intro is tail;
  wrote = by w.writes;
}
  where
    a : List ℕ
    a = w.area

    n : ℕ
    n = own_words a

    m : ℕ
    m = area_words most_limit - n

    front : List ℕ
    front = take n a

    zs : List ℕ
    zs = replicate {A = ℕ} m 0

    b : List ℕ
    b = front ++ zs

    alike : SameFront (params_of a).limit a b
    alike = sym (take_at front zs n (length-take-le n a w.is.long))

    same : SameParts a b
    same = same-front a b w.is.long alike

    is : sound b ≡ true
    is = sym (same-sound a b same) ∙ w.is.is_sound

    above-a : ℕ
    above-a = block_words * (most_levels - own_levels a)

    tail : all_false (bits_of 64 (take (block_words * (most_levels - own_levels b)) (drop (own_words b) b))) ≡ true
    tail =
        rw (← same.params, drop_at front zs n (length-take-le n a w.is.long), take-replicate {A = ℕ} above-a m 0 (omega arith), bits_of-zeros 64 above-a)
        (all_false-replicate (above-a * 64))

    wrote : (k : ℕ) → text_before k b ≡ text_with k a
    wrote k = texts_same k b ∙ sym (same_text k a b same)

    by : Writing a text → (text_before rounds_bytes b ≡ text) ⊎ ((get_or b 5 0 ≤ old_most_rounds) × (text_before old_rounds_bytes b ≡ text))
    by (new_writing e) = inl (wrote rounds_bytes ∙ e)
    by (old_writing h e) = inr (rw (← same.word 5 (omega arith)) h, wrote old_rounds_bytes ∙ e)

-- "a text is read exactly if it is new writing or was old writing", and M-109 changed neither: exactly the texts are read that were
-- written before it
pub readable-before : (text : List ℕ) → (readable text ≡ true) ↔ WroteBefore text
readable-before text = (there, back)
  where
    there : readable text ≡ true → WroteBefore text
    there e = let r = readable-sound text e in wrote-before text (record { area = r.new; is = r.is; writes = r.writes })

    back : WroteBefore text → readable text ≡ true
    back w = (writing_read w.area text (was_sound w.area w.words w.size w.sound_then) (by w.wrote)).yes
      where
        by : (text_before rounds_bytes w.area ≡ text) ⊎ ((get_or w.area 5 0 ≤ old_most_rounds) × (text_before old_rounds_bytes w.area ≡ text)) → Writing w.area text
        by (inl e) = new_writing (sym (texts_same rounds_bytes w.area) ∙ e)
        by (inr (h, e)) = old_writing h (sym (texts_same old_rounds_bytes w.area) ∙ e)
