-- Laws: of words of an area copied out of it and into a lent level, and of the log's room for a node passed on.
use Rattle.std.specs.Prelude.{◌≡◌, [], ◌∷◌, ℕ, ◌+◌, ◌-◌, ◌≤◌, length, take, drop, replicate}
use Rattle.std.proofs.Common.{sym, ap, ◌∙◌, append_assoc, append-nil, arith, take_all, drop-drop}
use Rattle.std.proofs.Math.Seq.{paste}
use Rattle.std.proofs.lemmas.List.Edits.{sets}
use mathlib.Core.List.{List, ◌++◌}
use Rattle.lists.specs.Part.{put}
use Rattle.tree.specs.Tree.{node, node_u, node_v, node_log, output_words}
use Rattle.node.specs.declared.Keyed.{Keyed}
use Rattle.node.specs.Words.{sized, tree_params, Ready}
use Rattle.node.specs.WordLaws.{v-made}
use Rattle.calls.specs.Area.{level_start, block_words, Long, k_of, level_words, empty_level}
use Rattle.area.specs.SoundLaws.{LevelPart}
use Rattle.climb.specs.Levels.{with_level, lent-put, lent-size}
use Rattle.climb.specs.ReceiveLaws.{received, Coming, Climbed}
use Rattle.climb.specs.Left.{Left}
use Rattle.climb.specs.PassLaws as PassLaws
use Rattle.climb.specs.PassLaws.{Passing, passed_words}
use Rattle.climb.specs.OpenArea.{length-key_of}

-- K is copied out of the area
pub key_copied : (area : List ℕ) → Long area → paste (replicate 8 0) 0 (k_of area) (length (k_of area)) ≡ k_of area
key_copied area long =
    let l : length (k_of area) ≡ 8 = length-key_of area long in
    rw (l, take_all 8 (k_of area) (omega arith)) (append-nil (k_of area))

-- a copy of a whole list is that list put into its place
pub paste-put : (d : List ℕ) (at n : ℕ) (s : List ℕ) → length s ≡ n → paste d at s (length s) ≡ put at n d s
paste-put d at n s h =
    let t : take (length s) s ≡ s = take_all (length s) s (omega arith) in
    let e : at + length s ≡ at + n = omega arith in
    rw (t, e) (append_assoc (take at d) s (drop (at + n) d) ∙ ap (λ (x : List ℕ). take at d ++ (s ++ x)) (sym (drop-drop n at d)))

-- a level's part, copied whole
pub level_copied : {area part copy : List ℕ} {k : ℕ} → LevelPart area k part → copy ≡ paste (replicate block_words 0) 0 part (length part) → copy ≡ level_words area k
level_copied {part = part} l e = e ∙ paste-put (replicate block_words 0) 0 block_words part l.size ∙ append-nil part ∙ l.words

-- words copied into a lent level
pub lent_join : (area : List ℕ) (k place : ℕ) (out : List ℕ) → length out ≡ output_words
    → put (level_start k) ((level_start k + block_words) - level_start k) area (paste (take ((level_start k + block_words) - level_start k) (drop (level_start k) area)) place out (length out))
    ≡ with_level area k (put place output_words (level_words area k) out)
lent_join area k place out h =
    lent-put area k (paste (take ((level_start k + block_words) - level_start k) (drop (level_start k) area)) place out (length out))
    ∙ ap (λ (n : ℕ). with_level area k (paste (take n (drop (level_start k) area)) place out (length out))) (lent-size (level_start k))
    ∙ ap (with_level area k) (paste-put (level_words area k) place output_words out h)

module _ {keyed : Keyed} {index : ℕ} {out area log : List ℕ} {at : ℕ} (p : Passing keyed index out area log at) where
  -- the log has room for the node
  pub pass_room : at + 2 ≤ length log
  pass_room = omega (arith, p.room)

-- a node passed on, where the log has the U and V that the code gives
module _ {keyed : Keyed} {constants : List ℕ} {index : ℕ} {out area log : List ℕ} {at : ℕ} (ready : Ready keyed constants)
    (p : Passing keyed index out area log at) {log₁ area₁ : List ℕ} (l₁ : log₁ ≡ sets log at (node_u 1 index ∷ node_v (sized keyed.params) 0 0 ∷ []))
    (e₁ : area₁ ≡ with_level area 1 empty_level) where
  l : log₁ ≡ sets log at (node_log (node (tree_params keyed) 1 index 0 0 [] ∷ []))
  l = rw (v-made ready 0 0) at l₁

  pub pass_coming : Coming keyed 2 index out area₁ log₁ (at + 2)
  pass_coming = PassLaws.pass_coming p l e₁

  pub pass_up : {area' log' : List ℕ} {at' : ℕ} → Climbed 2 (received keyed 2 index out area₁) area₁ log₁ (at + 2) area' log' at'
      → Left (passed_words keyed index out area) area log at area' log' at'
  pass_up c = PassLaws.pass_up p l e₁ c
