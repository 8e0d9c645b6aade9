-- Laws: what the stores of each line leave in a text.
use Rattle.std.specs.Prelude.{◌≡◌, refl, ℕ, zero, suc, ◌+◌, ◌-◌, ◌*◌, ◌/◌, ◌≤◌, length, take, drop, get_or, set}
use Rattle.std.proofs.Common.{sym, ap, ◌∙◌, add-one, arith, length-append, length-take, length-take-le, get_or-drop, drop-cons}
use mathlib.Core.List.{List, [], ◌∷◌, ◌++◌, append_assoc, append-nil}
use borrow.Rule.Slice.PartMut.{mid_of, put_mid}
use Rattle.std.proofs.lemmas.List.{set_at}
use Rattle.std.proofs.Math.Seq.{append_snoc, drop-length}
use Rattle.digits.specs.Digits.{hex_digits}
use Rattle.digits.proofs.DigitLaws.{length_digits, length-digits_each}
use Rattle.digits.proofs.Loops.{lent-next, lent_digits}
use Rattle.print.specs.Print.{node_line, line_bytes, node_lines, byte_digits, digest_line}

-- ---- the line of a node

length-node_line : (u v : ℕ) → length (node_line u v) ≡ line_bytes
unfolding node_line
length-node_line u v = simp (length-append, length_digits) (omega arith)

-- in a part of the line's length
pub node-stored : (u v : ℕ) (p du dv : List ℕ) → length p ≡ line_bytes → du ≡ hex_digits (length (take 16 p)) u
    → dv ≡ hex_digits (length (mid_of 17 16 (set (du ++ drop 16 p) 16 32))) v
    → set (put_mid 17 16 (set (du ++ drop 16 p) 16 32) dv) 33 10 ≡ node_line u v
unfolding node_line
node-stored u v p du dv h d e =
    let n0 : length du ≡ 16 = ap length d ∙ length_digits (length (take 16 p)) u ∙ length-take-le 16 p (omega arith) in
    let n1 : length (du ++ (32 ∷ [])) ≡ 17 = simp length-append (omega arith) in
    let s1 : set (du ++ drop 16 p) 16 32 ≡ (du ++ (32 ∷ [])) ++ drop 17 p =
    ap (λ (l : List ℕ). set (du ++ l) 16 32) (drop-cons p 16 0 (omega arith)) ∙ set_at du (get_or p 16 0) (drop 17 p) 32 16 n0
    ∙ sym (append_snoc du 32 (drop 17 p)) in
    let s2 = lent_digits 17 33 (du ++ (32 ∷ [])) (set (du ++ drop 16 p) 16 32) p dv n1 s1 (omega arith) (omega arith) 16 v refl e in
    let f : du ≡ hex_digits 16 u = d ∙ ap (λ (k : ℕ). hex_digits k u) (length-take-le 16 p (omega arith)) in
    let P : List ℕ = (du ++ (32 ∷ [])) ++ hex_digits 16 v in
    let n2 : length P ≡ 33 = simp (length-append, length_digits) (omega arith) in
    let s3 : drop 33 p ≡ get_or p 33 0 ∷ [] = drop-cons p 33 0 (omega arith) ∙ ap (λ (l : List ℕ). get_or p 33 0 ∷ l) (ap (λ (k : ℕ). drop k p) (sym h) ∙ drop-length p) in
    ap (λ (l : List ℕ). set l 33 10) (s2 ∙ ap (λ (l : List ℕ). P ++ l) s3) ∙ set_at P (get_or p 33 0) [] 10 33 n2
    ∙ ap (λ (l : List ℕ). l ++ (10 ∷ [])) (append_snoc du 32 (hex_digits 16 v) ∙ ap (λ (l : List ℕ). l ++ (32 ∷ hex_digits 16 v)) f)

-- ---- the lines of nodes

node_lines-more : (n : ℕ) (log : List ℕ) → node_lines (suc n) log ≡ node_lines n log ++ node_line (get_or log (2 * n) 0) (get_or log (2 * n + 1) 0)
unfolding node_lines
node_lines-more zero log = append-nil (node_line (get_or log 0 0) (get_or log 1 0))
node_lines-more (suc n) log =
    let a : 2 + 2 * n ≡ 2 * suc n = omega arith in
    let b : 2 + (2 * n + 1) ≡ 2 * suc n + 1 = omega arith in
    let u : get_or (drop 2 log) (2 * n) 0 ≡ get_or log (2 * suc n) 0 = get_or-drop 2 log (2 * n) 0 ∙ ap (λ (k : ℕ). get_or log k 0) a in
    let v : get_or (drop 2 log) (2 * n + 1) 0 ≡ get_or log (2 * suc n + 1) 0 = get_or-drop 2 log (2 * n + 1) 0 ∙ ap (λ (k : ℕ). get_or log k 0) b in
    ap (λ (l : List ℕ). node_line (get_or log 0 0) (get_or log 1 0) ++ l) (node_lines-more n (drop 2 log) ∙ rw (u, v))
    ∙ sym (append_assoc (node_line (get_or log 0 0) (get_or log 1 0)) (node_lines n (drop 2 log)) (node_line (get_or log (2 * suc n) 0) (get_or log (2 * suc n + 1) 0)))

pub length-node_lines : (n : ℕ) (log : List ℕ) → length (node_lines n log) ≡ line_bytes * n
unfolding node_lines
length-node_lines zero log = refl
length-node_lines (suc n) log = rw (length-append, length-node_line, length-node_lines n (drop 2 log)) (omega arith)

pub nodes-step : (i : ℕ) (log text l ys : List ℕ) → line_bytes * (i + 1) ≤ length text → l ≡ node_lines i log ++ drop (line_bytes * i) text
    → ys ≡ node_line (get_or log (2 * i) 0) (get_or log (2 * i + 1) 0)
    → put_mid (line_bytes * i) (line_bytes * i + line_bytes - line_bytes * i) l ys ≡ node_lines (i + 1) log ++ drop (line_bytes * (i + 1)) text
nodes-step i log text l ys h is e =
    let a : line_bytes * i + line_bytes ≡ line_bytes * (i + 1) = omega arith in
    let b : i + 1 ≡ suc i = add-one i in
    let n : length ys ≡ line_bytes * i + line_bytes - line_bytes * i = rw (e, length-node_line) (omega arith) in
    lent-next (line_bytes * i) (line_bytes * i + line_bytes) (node_lines i log) l text ys (length-node_lines i log) is (omega arith) (omega arith) n
    ∙ rw (a, e, b, node_lines-more i log)

-- of the front of a log, which ends behind its nodes
pub nodes-front : (n : ℕ) (log : List ℕ) → 2 * n ≤ length log → node_lines (length (take (2 * n) log) / 2) (take (2 * n) log) ≡ node_lines n log
unfolding node_lines
nodes-front n log h =
    let e : length (take (2 * n) log) / 2 ≡ n = rw (length-take-le (2 * n) log h) (omega arith) in
    rw e (front n log h)
  where
    front : (n : ℕ) (log : List ℕ) → 2 * n ≤ length log → node_lines n (take (2 * n) log) ≡ node_lines n log
    front zero log h = refl
    front (suc n) [] h = absurd (omega arith)
    front (suc n) (u ∷ []) h = absurd (omega arith)
    front (suc n) (u ∷ v ∷ log) h =
        let e : 2 * suc n ≡ suc (suc (2 * n)) = omega arith in
        rw e (ap (λ (l : List ℕ). node_line u v ++ l) (front n log (omega arith)))

-- ---- the line of a digest

pub length-digest_line : (digest : List ℕ) → length (digest_line digest) ≡ 2 * length digest + 1
unfolding digest_line
length-digest_line digest = rw (length-append, length-digits_each 2 digest)

pub digest_line-most : (n : ℕ) (bytes : List ℕ) → length (digest_line (take n bytes)) ≤ 2 * n + 1
digest_line-most n bytes = rw (length-digest_line (take n bytes), length-take) (omega arith)

pub digest-stored : (text digest l : List ℕ) → 2 * length digest + 1 ≤ length text → l ≡ byte_digits digest ++ drop (2 * length digest) text
    → set l (2 * length digest) 10 ≡ digest_line digest ++ drop (2 * length digest + 1) text
unfolding digest_line
digest-stored text digest l h is =
    let n : ℕ = 2 * length digest in
    rw (is, drop-cons text n 0 (omega arith), add-one)
    (set_at (byte_digits digest) (get_or text n 0) (drop (suc n) text) 10 n (length-digits_each 2 digest)
    ∙ sym (append_snoc (byte_digits digest) 10 (drop (suc n) text)))
