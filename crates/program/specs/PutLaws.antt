-- Laws: what the stores of each text leave in the bytes that were lent for it.
use Rattle.std.specs.Prelude.{◌≡◌, List, [], ◌∷◌, ◌++◌, ℕ, ◌+◌, ◌*◌, ◌/◌, ◌%◌, ◌-◌, ◌≤◌, ◌<◌, length, take, set}
use Rattle.std.proofs.Math.Path.{refl, ap}
use Rattle.std.proofs.Common.{sym, ◌∙◌, append_assoc, append-nil, arith, lt-ltb, le-ltb, length-append, length-drop, drop_at, take_all, drop-drop}
use borrow.Rule.Slice.PartMut.{mid_of, put_mid}
use Rattle.std.proofs.Math.ListN.{drop}
use Rattle.std.proofs.lemmas.List.Edits.{sets, sets-eq}
use Rattle.std.proofs.Math.Seq.{drop-length}
use Rattle.lists.specs.Part.{put}
use Rattle.lists.specs.PartLaws.{next-part}
use Rattle.print.specs.Print.{line_bytes, node_lines, digest_line}
use Rattle.print.specs.PrintLaws.{length-node_lines, length-digest_line}
use Rattle.program.specs.Printed.{refused_number}
use Rattle.program.specs.Taken.{text_bytes, Put, put_of}

module _ {count : ℕ} {out' : List ℕ} (text out : List ℕ) where
  pub put_is : count ≡ length text → out' ≡ text ++ drop count out → record { count = count; out = out' } ≡ put_of text out
  unfolding put_of
  put_is e o = λ i. record { count = e i; out = (o ∙ ap (λ (k : ℕ). text ++ drop k out) e) i }

  -- what a text that was put says
  put_count : record { count = count; out = out' } ≡ put_of text out → count ≡ length text
  unfolding put_of
  put_count e = ap (λ (t : Put). t.count) e

  put-out : record { count = count; out = out' } ≡ put_of text out → out' ≡ text ++ drop (length text) out
  unfolding put_of
  put-out e = ap (λ (t : Put). t.out) e

-- ---- refusals

-- "refused "
abbrev refused_word : List ℕ
refused_word = 114 ∷ 101 ∷ 102 ∷ 117 ∷ 115 ∷ 101 ∷ 100 ∷ 32 ∷ []

-- bytes are stored behind that word
stored : {out' : List ℕ} (vs out : List ℕ) → 8 + length vs ≤ length out → out' ≡ refused_word ++ drop 8 out → sets out' 8 vs ≡ (refused_word ++ vs) ++ drop (8 + length vs) out
stored vs out h e =
    let w : List ℕ = refused_word ++ drop 8 out in
    let n : length w ≡ length out = simp length-drop (omega arith) in
    let d : drop (8 + length vs) w ≡ drop (8 + length vs) out = sym (drop-drop (length vs) 8 w) ∙ drop-drop (length vs) 8 out in
    rw e (sets-eq vs w 8 (omega arith) ∙ ap (λ (l : List ℕ). (refused_word ++ vs) ++ l) d)

module _ {out' : List ℕ} (number : ℕ) (out : List ℕ) (h : text_bytes ≤ length out) (e : out' ≡ refused_word ++ drop 8 out) where
  pub one-digit : number < 10 → record { count = 10; out = set (set out' 8 (48 + number)) 9 10 } ≡ put_of (refused_number number) out
  unfolding refused_number
  one-digit l =
      rw (lt-ltb number 10 l) (put_is (refused_word ++ ((48 + number) ∷ 10 ∷ [])) out refl (stored ((48 + number) ∷ 10 ∷ []) out (omega arith) e))

  pub two_digits : 10 ≤ number → record { count = 11; out = set (set (set out' 8 (48 + number / 10)) 9 (48 + number % 10)) 10 10 } ≡ put_of (refused_number number) out
  unfolding refused_number
  two_digits l =
      rw (le-ltb number 10 l)
      (put_is (refused_word ++ ((48 + number / 10) ∷ (48 + number % 10) ∷ 10 ∷ [])) out refl (stored ((48 + number / 10) ∷ (48 + number % 10) ∷ 10 ∷ []) out (omega arith) e))

-- ---- the lines of nodes, and of a digest behind them

pub nodes-put : {out' : List ℕ} (log out : List ℕ) → (let n : ℕ = length log / 2 in out' ≡ node_lines n log ++ drop (line_bytes * n) out
    → record { count = line_bytes * n; out = out' } ≡ put_of (node_lines n log) out)
nodes-put log out e = put_is (node_lines (length log / 2) log) out (sym (length-node_lines (length log / 2) log)) e

pub nodes-count : {count : ℕ} {out' : List ℕ} (log out : List ℕ) → record { count = count; out = out' } ≡ put_of (node_lines (length log / 2) log) out
    → count ≡ line_bytes * (length log / 2)
nodes-count log out e = put_count (node_lines (length log / 2) log) out e ∙ length-node_lines (length log / 2) log

-- a text behind another
behind : (L D ys out : List ℕ) (m k : ℕ) → k + length L ≡ length out → ys ≡ D ++ drop m (take k (drop (length L) (L ++ drop (length L) out)))
    → put (length L) k (L ++ drop (length L) out) ys ≡ (L ++ D) ++ drop (length L + m) out
behind L D ys out m k h e =
    let t : take k (drop (length L) (L ++ drop (length L) out)) ≡ drop (length L) out =
    ap (take k) (drop_at L (drop (length L) out) (length L) refl) ∙ take_all k (drop (length L) out) (simp length-drop (omega arith)) in
    let j : length L + k ≡ length out = omega arith in
    let z : drop (length L + k) out ≡ [] = rw j (drop-length out) in
    let y : ys ≡ D ++ drop (length L + m) out = e ∙ ap (λ (l : List ℕ). D ++ drop m l) t ∙ rw (drop-drop m (length L) out) in
    next-part (length L) k L out ys refl ∙ rw (z, y, append-nil, append_assoc)

pub digest-put : {at : ℕ} {out₁ ys : List ℕ} (log digest out : List ℕ) → record { count = at; out = out₁ } ≡ put_of (node_lines (length log / 2) log) out
    → line_bytes * (length log / 2) + (2 * length digest + 1) ≤ length out → ys ≡ digest_line digest ++ drop (2 * length digest + 1) (mid_of at (length out₁ - at) out₁)
    → record { count = at + 2 * length digest + 1; out = put_mid at (length out₁ - at) out₁ ys } ≡ put_of (node_lines (length log / 2) log ++ digest_line digest) out
digest-put {at} {out₁} {ys} log digest out e g y =
    let n : ℕ = length digest in
    let L : List ℕ = node_lines (length log / 2) log in
    let D : List ℕ = digest_line digest in
    let d : length D ≡ 2 * n + 1 = length-digest_line digest in
    let a : at ≡ length L = put_count L out e in
    let o : out₁ ≡ L ++ drop (length L) out = put-out L out e in
    let l : length L ≡ line_bytes * (length log / 2) = length-node_lines (length log / 2) log in
    let s : length (L ++ drop (length L) out) ≡ length out = simp (length-append, length-drop) (omega arith) in
    let k : ℕ = length out - length L in
    let f : put_mid at (length out₁ - at) out₁ ys ≡ put (length L) k (L ++ drop (length L) out) ys = rw (a, o, s) in
    let y' : ys ≡ D ++ drop (2 * n + 1) (take k (drop (length L) (L ++ drop (length L) out))) = rw (a, o, s) at y in
    let j : length L + (2 * n + 1) ≡ at + 2 * n + 1 = omega arith in
    put_is (L ++ D) out (rw length-append (omega arith)) (f ∙ behind L D ys out (2 * n + 1) k (omega arith) y' ∙ ap (λ (m : ℕ). (L ++ D) ++ drop m out) j)
