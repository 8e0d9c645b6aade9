-- Laws: for the code that makes a node's window.
use Rattle.std.specs.Prelude.{◌≡◌, refl, List, [], ◌∷◌, ◌++◌, ℕ, ◌+◌, length, drop, set, replicate}
use Rattle.std.proofs.Common.{sym, ap, ◌∙◌, append_assoc, append-nil, arith, length-append, take_at, take_all}
use Rattle.std.proofs.Math.Seq.{paste, drop-append-add}
use Rattle.std.proofs.lemmas.List.{set_at}
use Rattle.compress.specs.Compress.{Q, window_of}

-- a list is copied to the place after p
pub paste-at : (p s zs : List ℕ) (n k : ℕ) → length p ≡ n → length s ≡ k → paste (p ++ zs) n s k ≡ p ++ (s ++ drop k zs)
paste-at p s zs n k e f =
    let d : drop (n + k) (p ++ zs) ≡ drop k zs = ap (λ (x : ℕ). drop (x + k) (p ++ zs)) (sym e) ∙ drop-append-add p zs k in
    rw (take_at p zs n e, take_all k s (omega arith), d) (append_assoc p s (drop k zs))

-- U, V and the block are written to a window after Q and K
pub window-made : (k block : List ℕ) (u v : ℕ) → length k ≡ 8 → length block ≡ 64
    → paste (set (set ((Q ++ k) ++ replicate 66 0) 23 u) 24 v) 25 block (length block) ≡ window_of k u v block
window-made k block u v hk hb =
    let p : List ℕ = Q ++ k in
    let lp : length p ≡ 23 = simp length-append (omega arith) in
    let lu : length (p ++ (u ∷ [])) ≡ 24 = simp length-append (omega (arith, lp)) in
    let lv : length ((p ++ (u ∷ [])) ++ (v ∷ [])) ≡ 25 = simp length-append (omega (arith, lu)) in
    let b : set (p ++ replicate 66 0) 23 u ≡ (p ++ (u ∷ [])) ++ replicate 65 0 =
    set_at p 0 (replicate 65 0) u 23 lp ∙ sym (append_assoc p (u ∷ []) (replicate 65 0)) in
    let c : set ((p ++ (u ∷ [])) ++ replicate 65 0) 24 v ≡ ((p ++ (u ∷ [])) ++ (v ∷ [])) ++ replicate 64 0 =
    set_at (p ++ (u ∷ [])) 0 (replicate 64 0) v 24 lu ∙ sym (append_assoc (p ++ (u ∷ [])) (v ∷ []) (replicate 64 0)) in
    let d : paste (((p ++ (u ∷ [])) ++ (v ∷ [])) ++ replicate 64 0) 25 block (length block) ≡ ((p ++ (u ∷ [])) ++ (v ∷ [])) ++ (block ++ []) =
    paste-at ((p ++ (u ∷ [])) ++ (v ∷ [])) block (replicate 64 0) 25 (length block) lv refl ∙ rw hb refl in
    let e : ((p ++ (u ∷ [])) ++ (v ∷ [])) ++ (block ++ []) ≡ window_of k u v block =
    append_assoc (p ++ (u ∷ [])) (v ∷ []) (block ++ [])
    ∙ append_assoc p (u ∷ []) (v ∷ (block ++ []))
    ∙ append_assoc Q k (u ∷ v ∷ (block ++ []))
    ∙ ap (λ (w : List ℕ). Q ++ (k ++ (u ∷ v ∷ w))) (append-nil block) in
    ap (λ (w : List ℕ). paste (set w 24 v) 25 block (length block)) b
    ∙ ap (λ (w : List ℕ). paste w 25 block (length block)) c
    ∙ d
    ∙ e
