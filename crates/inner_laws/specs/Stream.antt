-- Laws: of `shown` and `level_of` in Calls, one for each way that a call can take, and the number of `open_of`.
use Rattle.std.specs.Prelude.{◌≡◌, Bool, ◌&&◌, List, [], ◌∷◌, ℕ, ◌≤◌, ◌<◌, length}
use Rattle.std.proofs.Math.Path.{refl}
use Rattle.std.proofs.Common.{◌∙◌}
use Rattle.std.proofs.Math.Bool.{true, false}
use Rattle.std.proofs.Math.Dec.{ltb, leb}
use borrow.Author.Tests.{ltb-true, ltb-false, lt-leb, le-leb, leb-true}
use Rattle.lists.specs.And.{and_parts}
use Rattle.tree.specs.Tree.{Params}
use Rattle.refusals.specs.Refusals.{first_refusal, param_tests}
use Rattle.calls.specs.Area.{own_levels, own_words, level_words, sound, Long}
use Rattle.calls.specs.Calls.{area_tests, short_test, open_number, shown, level_of}
use Rattle.area.specs.SoundLaws.{LongSound}
use Rattle.inner_laws.specs.Numbers.{part-number}

-- a level of an area
pub record There (area : List ℕ) (level : ℕ) : Type 0 where
  pub long : Long area
  pub low : 1 ≤ level
  pub high : level ≤ own_levels area

module _ (area : List ℕ) (level : ℕ) where
  -- nothing of an area that number 7 refuses
  pub shown-refused : {n : ℕ} → n ≡ first_refusal (area_tests area) → (n ≡ 0 → ⊥) → false ≡ shown area level
  unfolding shown
  shown-refused e h = by (ltb (length area) (own_words area)) (sound area) refl refl
    where
      by : (short s : Bool) → ltb (length area) (own_words area) ≡ short → sound area ≡ s → false ≡ shown area level
      by true s f g = rw (lt-leb (own_words area) (length area) (ltb-true _ _ f))
      by false false f g = rw (le-leb (own_words area) (length area) (ltb-false _ _ f), g)
      by false true f g = absurd (h (e ∙ rw (f, g) refl))

  pub shown_low : LongSound area → level < 1 → false ≡ shown area level
  unfolding shown
  shown_low s l = rw (le-leb (own_words area) (length area) s.long, s.is_sound, lt-leb 1 level l)

  pub shown_high : LongSound area → 1 ≤ level → leb level (own_levels area) ≡ shown area level
  unfolding shown
  shown_high s l = rw (le-leb (own_words area) (length area) s.long, s.is_sound, le-leb 1 level l)

  -- what is shown is there
  pub shown-there : shown area level ≡ true → There area level
  unfolding shown
  shown-there e =
      let a = and_parts (leb (own_words area) (length area)) (sound area && (leb 1 level && leb level (own_levels area))) e in
      let b = and_parts (sound area) (leb 1 level && leb level (own_levels area)) a.1 in
      let c = and_parts (leb 1 level) (leb level (own_levels area)) b.1 in
      record { long = leb-true (own_words area) (length area) a.0; low = leb-true 1 level c.0; high = leb-true level (own_levels area) c.1 }

  pub level_hidden : shown area level ≡ false → [] ≡ level_of area level
  unfolding level_of
  level_hidden e = rw (level_of, e)

  pub level-there : shown area level ≡ true → level_words area level ≡ level_of area level
  unfolding level_of
  level-there e = rw (level_of, e)

-- ---- open

-- its number, by that of the parameters and whether the area has too few words
pub open_numbers : {n range : ℕ} {few : Bool} (area : List ℕ) (P : Params) → range ≡ first_refusal (param_tests P) → few ≡ (short_test area P.limit).0
    → n ≡ first_refusal ((ltb 0 range, range) ∷ (few, 7) ∷ []) → n ≡ open_number area P
unfolding open_number
open_numbers area P r f e = e ∙ rw (r, f) (part-number (param_tests P) (short_test area P.limit ∷ []) refl)
