-- The mathematics of the crate's proofs: the parts of the table.
use mathlib.Core.Path.{◌≡◌, sym, ap, ◌∙◌, subst}
use mathlib.Core.List.{List, [], ◌∷◌, map, flatten, nil≢cons, head-eq_of_cons-eq, tail-eq_of_cons-eq}
use Prim.Native.Nat.{ℕ, zero, suc, ◌+◌, ◌*◌, ◌<◌}
use native.Mathlib.Nat.{le_of_suc-le-suc, not-suc-le-zero}
use native.Mathlib.Omega.{arith}
use lib.ListN.{length, get_or, length-append, replicate, get_or-append}
use lib.Seq.{get_or-append-add}
use Rattle.constants.specs.Constants.{S, RoundTable, table_entries, table_parts, part_entries}

-- a table in parts that begins with the constant of round q: its first part, those after it, and part k
module _ (r : List ℕ) (rows : List (List ℕ)) (q : ℕ) (size : length r ≡ part_entries) (t : RoundTable q (flatten (r ∷ rows))) where
  first_part : RoundTable q r
  unfolding flatten
  first_part = record {
    rule = λ j l. sym (get_or-append r (flatten rows) 0 j l) ∙ t.rule j (rw length-append (omega arith));
  }

  later-parts : RoundTable (q + part_entries) (flatten rows)
  unfolding flatten
  later-parts = record {
    rule = λ j l.
        sym (get_or-append-add r (flatten rows) j 0) ∙ t.rule (length r + j) (rw length-append (omega arith)) ∙ ap S (omega arith);
  }

parts : (n : ℕ) (rows : List (List ℕ)) → map length rows ≡ replicate n part_entries → (q : ℕ) → RoundTable q (flatten rows) → (k : ℕ) → k < n
    → RoundTable (q + part_entries * k) (get_or rows k [])
parts zero rows e q t k h = absurd (not-suc-le-zero h)
parts (suc n) [] e q t k h = absurd (nil≢cons e)
parts (suc n) (r ∷ rows) e q t zero h =
    let from : q ≡ q + part_entries * 0 = omega arith in
    subst (λ (m : ℕ). RoundTable m r) from (first_part r rows q (head-eq_of_cons-eq e) t)
parts (suc n) (r ∷ rows) e q t (suc k) h =
    let from : q + part_entries + part_entries * k ≡ q + part_entries * suc k = omega arith in
    subst (λ (m : ℕ). RoundTable m (get_or rows k [])) from
    (parts n rows (tail-eq_of_cons-eq e) (q + part_entries) (later-parts r rows q (head-eq_of_cons-eq e) t) k (le_of_suc-le-suc h))

-- part k of the whole table
pub part : (rows : List (List ℕ)) → RoundTable 0 (flatten rows) × (length (flatten rows) ≡ table_entries) × (map length rows ≡ replicate table_parts part_entries)
    → (k : ℕ) → k < table_parts → RoundTable (part_entries * k) (get_or rows k [])
part rows t k h =
    let from : 0 + part_entries * k ≡ part_entries * k = omega arith in
    subst (λ (m : ℕ). RoundTable m (get_or rows k [])) from (parts table_parts rows t.2 0 t.0 k h)
