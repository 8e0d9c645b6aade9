-- Laws: of `open_of` in Calls: the area as the code writes it.
use Rattle.std.specs.Prelude.{◌≡◌, refl, List, [], ◌∷◌, ◌++◌, ℕ, ◌+◌, ◌-◌, ◌*◌, ◌≤◌, length, take, drop, replicate}
use Rattle.std.proofs.Common.{ap, ◌∙◌, arith}
use Rattle.std.proofs.lemmas.List.{replicate-append-replicate}
use Rattle.std.proofs.lemmas.List.Edits.{sets}
use Rattle.lists.specs.Part.{put}
use Rattle.lists.specs.PartLaws.{next-part, first_stores}
use Rattle.bits.specs.Bits.{filled}
use Rattle.tree.specs.Tree.{key_words}
use Rattle.node.specs.DigestLaws.{key-filled}
use Rattle.calls.specs.Area.{block_words, area_levels, area_words}
use Rattle.calls.proofs.AreaLaws.{flatten-empty}
use Rattle.calls.specs.Calls.{opened_area}

-- the area after the first six words were stored, the rest cleared, and K written
pub open_written : (area key : List ℕ) (d limit rounds e : ℕ) → e ≡ area_words limit → e ≤ length area → length key ≤ 64
    → (let A : List ℕ = sets area 0 (1 ∷ 0 ∷ length key ∷ d ∷ limit ∷ rounds ∷ []) in
    let Z : List ℕ = put 6 (e - 6) A (replicate (e - 6) 0) in
    put 6 8 Z (filled (take 8 (drop 6 Z)) 0 key 0 (8 * length key)) ≡ opened_area area (record { key = key; d = d; limit = limit; rounds = rounds }))
unfolding opened_area
open_written area key d limit rounds e q h g =
    let vs : List ℕ = 1 ∷ 0 ∷ length key ∷ d ∷ limit ∷ rounds ∷ [] in
    let n : ℕ = e - 6 in
    let m : ℕ = block_words * area_levels limit in
    let tail : List ℕ = drop (area_words limit) area in
    let s : n ≡ 10 + m = omega arith in
    let t : 6 + n ≡ area_words limit = omega arith in
    let a : sets area 0 vs ≡ vs ++ drop 6 area = first_stores vs area (omega arith) in
    let z : put 6 n (sets area 0 vs) (replicate n 0) ≡ vs ++ (replicate 10 0 ++ (replicate m 0 ++ tail)) =
    ap (λ (l : List ℕ). put 6 n l (replicate n 0)) a ∙ next-part 6 n vs area (replicate n 0) refl
    ∙ rw (t, s, ← replicate-append-replicate {A = ℕ} 10 m 0) refl in
    let f : filled (take 8 (replicate 10 0 ++ (replicate m 0 ++ tail))) 0 key 0 (8 * length key) ≡ key_words key = key-filled key g in
    ap (λ (Z : List ℕ). put 6 8 Z (filled (take 8 (drop 6 Z)) 0 key 0 (8 * length key))) z
    ∙ ap (λ (K : List ℕ). vs ++ (K ++ (0 ∷ 0 ∷ (replicate m 0 ++ tail)))) f
    ∙ rw (flatten-empty (area_levels limit)) refl
