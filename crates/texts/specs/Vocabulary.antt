-- Definitions: the terms of the theorems about texts that docs/PROOFS.md cites.
use Rattle.std.specs.Prelude.{◌≡◌, Bool, true, ◌&&◌, List, ◌∷◌, ◌++◌, map, ◌⊎◌, ℕ, ◌^◌, ◌≤◌, length, take, drop, get_or}
use Rattle.lists.specs.Below.{Below}
use Rattle.tree.specs.Tree.{most_levels, most_limit}
use Rattle.calls.specs.Area.{Hold, Long, area_words, phase_of, total_of, params_of, levels_from, holds_for, clean_all, sound_phase, sound_params, sound_key, sound_count, sound_last, sound}
use Rattle.texts.specs.Text.{rounds_bytes, old_rounds_bytes, line1_fields, line1, line2, has_line, level_lines, text_of, old_text_of, Taken}
use Rattle.calls.specs.Vocabulary.{SameFront}

-- an area as a caller lends it, long enough and sound
pub record SoundArea (area : List ℕ) : Type 0 where
  pub words : Below (2 ^ 64) area
  pub long : Long area
  pub is_sound : sound area ≡ true

-- the most rounds before M-108
abbrev pub old_most_rounds : ℕ
old_most_rounds = 255

-- "new writing or was old writing": what writing an area gives, or, with r up to 255, what it gave before M-108
pub data Writing (area text : List ℕ) : Type 0 where
  new_writing : text_of area ≡ text → Writing area text
  old_writing : get_or area 5 0 ≤ old_most_rounds → old_text_of area ≡ text → Writing area text

-- a text that writing some sound area gives, or gave
pub record WrittenBy (text : List ℕ) : Type 0 where
  pub area : List ℕ
  pub is : SoundArea area
  pub writes : Writing area text

-- what reading a text into two areas gives that are alike in the words that its L asks: the same, and the areas are alike again
abbrev pub TakenAlike : ℕ → Taken → Taken → Type 0
TakenAlike limit f g = (f.number ≡ g.number) × (f.count ≡ g.count) × SameFront limit f.area g.area

-- before M-109, when every area had 1,744 words and 27 levels, whatever its L: what its levels held, ..
abbrev pub holds_before : List ℕ → List Hold
holds_before area = holds_for most_levels (phase_of area) (params_of area).limit (total_of area)

-- .. whether it was sound, ..
abbrev pub sound_before : List ℕ → Bool
sound_before area =
    sound_phase area
    && (sound_params area
    && (sound_key area && (sound_count area && (sound_last area && clean_all (holds_before area) (levels_from area most_levels 1)))))

-- .. and what writing it gave, with r in w bytes
abbrev pub text_before : ℕ → List ℕ → List ℕ
text_before w area =
    line1 (line1_fields w) area
    ++ (line2 area ++ level_lines 1 (map has_line (holds_before area)) (levels_from area most_levels 1))

-- a text that an area, which had to have 1,744 words and was sound then, wrote before M-109: with r in two bytes, or, before M-108, in one,
-- with r up to 255
pub record WroteBefore (text : List ℕ) : Type 0 where
  pub area : List ℕ
  pub size : area_words most_limit ≤ length area
  pub words : Below (2 ^ 64) area
  pub sound_then : sound_before area ≡ true
  pub wrote : (text_before rounds_bytes area ≡ text) ⊎ ((get_or area 5 0 ≤ old_most_rounds) × (text_before old_rounds_bytes area ≡ text))

-- a text of the old form in the new one: the two digits of r's high byte, 0 and 0, after those of the phase
abbrev pub widened : List ℕ → List ℕ
widened text = take 2 text ++ (48 ∷ 48 ∷ drop 2 text)
