-- Laws: what is said of digits that are spelt: of a level's line, and of a whole text.
use Rattle.std.specs.Prelude.{Option, Some, None, unwrap_or, ◌≡◌, Bool, true, false, List, [], ℕ, length, take}
use Rattle.lists.specs.Part.{put}
use Rattle.calls.specs.Area.{block_words, own_words, level_start}
use Rattle.digits.specs.Digits.{all_spelt}
use Rattle.texts.specs.Text.{text_with, spelt_area, readable_with}
use Rattle.text.specs.Spelling.{level_spelt}

-- the words, where each is spelt
abbrev pub values : List (Option ℕ) → List ℕ
values ws = unwrap_or (all_spelt ws) []

-- whether a line spells a level's words; if so, the area on exit, last, is the area on entry with these words in the level's place
pub record LevelSpelt (r : Bool) (level : ℕ) (line area last : List ℕ) : Type 0 where
  pub yes : r ≡ true → (all_spelt (level_spelt line) ≡ Some (values (level_spelt line))) × (last ≡ put (level_start level) block_words area (values (level_spelt line)))
  pub no : r ≡ false → all_spelt (level_spelt line) ≡ None

-- whether a text, with r in w bytes, spells an area whose text is as long; if so, that area is at hand, in the first of longer words
pub record Spelt (w : ℕ) (r : Bool) (text area : List ℕ) : Type 0 where
  pub yes : r ≡ true → (spelt_area w text ≡ Some (take (own_words area) area)) × (length text ≡ length (text_with w area))
  pub no : r ≡ false → readable_with w text ≡ false
