-- Laws: more levels than L gives: those above the sequential one hold nothing, and each part of a list of levels goes by its own holds.
use Rattle.std.specs.Prelude.{◌≡◌, refl, Bool, true, false, ◌&&◌, List, [], ◌∷◌, ◌++◌, ℕ, zero, suc, ◌+◌, ◌/◌, min, eqb, length, replicate}
use Rattle.std.proofs.Common.{sym, ap, ◌∙◌, arith}
use Rattle.std.proofs.Math.Bool.{and_assoc}
use Rattle.std.proofs.lemmas.List.{length-replicate, replicate-append-replicate}
use Rattle.lists.specs.Append.{cons_eq}
use Rattle.tree.specs.Tree.{block_bits}
use Rattle.calls.specs.Area.{Hold, parallel_hold, done_blocks, holds_above, open_holds, holds_for, clean, clean_all, levels_from}

-- m levels, of which k are those that L gives, and j stand above them
above_more : (m k j n i : ℕ) → m ≡ k + j → k ≡ min (n + 1) m → holds_above m n i ≡ holds_above k n i ++ replicate j (parallel_hold 0)
above_more zero zero zero n i e f = refl
above_more zero zero (suc j) n i e f = absurd (omega arith)
above_more zero (suc k) j n i e f = absurd (omega arith)
above_more (suc m) zero j n i e f = absurd (omega arith)
above_more (suc m) (suc k) j zero i e f =
    let z : k ≡ 0 = omega arith in
    let q : m ≡ j = omega arith in
    rw (z, q) refl
above_more (suc m) (suc k) j (suc n) i e f = cons_eq refl (above_more m k j n (i / 4) (omega arith) (omega arith))

open_more : (m k j limit T : ℕ) → m ≡ k + j → k ≡ min (limit + 1) m → open_holds m limit T ≡ open_holds k limit T ++ replicate j (parallel_hold 0)
open_more zero zero zero limit T e f = refl
open_more zero zero (suc j) limit T e f = absurd (omega arith)
open_more zero (suc k) j limit T e f = absurd (omega arith)
open_more (suc m) zero j limit T e f = absurd (omega arith)
open_more (suc m) (suc k) j zero T e f =
    let z : k ≡ 0 = omega arith in
    let q : m ≡ j = omega arith in
    rw (z, q) refl
open_more (suc m) (suc k) j (suc n) T e f = cons_eq refl (above_more m k j n (done_blocks block_bits T) (omega arith) (omega arith))

pub holds_more : (m k j phase limit T : ℕ) → m ≡ k + j → k ≡ min (limit + 1) m →
    holds_for m phase limit T ≡ holds_for k phase limit T ++ replicate j (parallel_hold 0)
holds_more m k j phase limit T e f = by (eqb phase 2)
  where
    holds : Bool → ℕ → List Hold
    holds t n = elim t [ true ↦ replicate n (parallel_hold 0) | false ↦ open_holds n limit T ]

    by : (t : Bool) → holds t m ≡ holds t k ++ replicate j (parallel_hold 0)
    by true = ap (λ (n : ℕ). replicate n (parallel_hold 0)) e ∙ sym (replicate-append-replicate k j (parallel_hold 0))
    by false = open_more m k j limit T e f

above-length : (k n i : ℕ) → length (holds_above k n i) ≡ k
above-length zero n i = refl
above-length (suc k) zero i = ap suc (length-replicate k (parallel_hold 0))
above-length (suc k) (suc n) i = ap suc (above-length k n (i / 4))

open_length : (k limit T : ℕ) → length (open_holds k limit T) ≡ k
open_length zero limit T = refl
open_length (suc k) zero T = ap suc (length-replicate k (parallel_hold 0))
open_length (suc k) (suc n) T = ap suc (above-length k n (done_blocks block_bits T))

pub holds-length : (k phase limit T : ℕ) → length (holds_for k phase limit T) ≡ k
holds-length k phase limit T = by (eqb phase 2)
  where
    by : (t : Bool) → length {A = Hold} (elim t [ true ↦ replicate k (parallel_hold 0) | false ↦ open_holds k limit T ]) ≡ k
    by true = length-replicate k (parallel_hold 0)
    by false = open_length k limit T

pub levels-more : (area : List ℕ) (m k j a : ℕ) → m ≡ k + j → levels_from area m a ≡ levels_from area k a ++ levels_from area j (a + k)
levels-more area m zero j a e =
    let q : m ≡ j = omega arith in
    let z : a + 0 ≡ a = omega arith in
    rw (q, z) refl
levels-more area zero (suc k) j a e = absurd (omega arith)
levels-more area (suc m) (suc k) j a e =
    let s : a + suc k ≡ suc a + k = omega arith in
    rw s (cons_eq refl (levels-more area m k j (suc a) (omega arith)))

pub clean-more : (hs ks : List Hold) (st up : List (List ℕ)) → length hs ≡ length st → clean_all (hs ++ ks) (st ++ up) ≡ (clean_all hs st && clean_all ks up)
clean-more [] ks [] up e = refl
clean-more [] ks (ws ∷ st) up e = absurd (omega arith)
clean-more (h ∷ hs) ks [] up e = absurd (omega arith)
clean-more (h ∷ hs) ks (ws ∷ st) up e =
    ap (◌&&◌ (clean h ws)) (clean-more hs ks st up (omega arith)) ∙ sym (and_assoc (clean h ws) (clean_all hs st) (clean_all ks up))
