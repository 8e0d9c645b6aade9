-- Laws: what the stores of each line leave at a place of a text.
use Rattle.std.specs.Prelude.{◌≡◌, refl, ℕ, zero, suc, ◌+◌, ◌*◌, ◌≤◌, ◌<◌, length, take, drop, get_or, set}
use Rattle.std.proofs.Common.{sym, ap, ◌∙◌, add-one, arith, length-append, length-take-le, take-suc, get_or-drop}
use mathlib.Core.List.{List, [], ◌∷◌, ◌++◌, append_assoc, append-nil}
use Rattle.lists.specs.Flatten.{flatten-append, map-append}
use Rattle.lists.specs.Part.{put}
use Rattle.lists.specs.PartLaws.{next-part, put-length, put-put, put_one}
use Rattle.digits.specs.Digits.{hex_digits}
use Rattle.digits.proofs.DigitLaws.{length_digits}
use Rattle.print.specs.Print.{node_line, line_bytes, node_lines, byte_digits, digest_line}
use Rattle.print.specs.PrintLaws.{length-node_lines}

pub node-stored : (at u v : ℕ) (text : List ℕ) → at + line_bytes ≤ length text
    → set (put (at + 17) 16 (set (put at 16 text (hex_digits 16 u)) (at + 16) 32) (hex_digits 16 v)) (at + 33) 10 ≡ put at line_bytes text (node_line u v)
unfolding node_line
node-stored at u v text h =
    let du : List ℕ = hex_digits 16 u in
    let dv : List ℕ = hex_digits 16 v in
    let n0 : length du ≡ 16 = length_digits 16 u in
    let n1 : length (du ++ (32 ∷ [])) ≡ 17 = simp (length-append, length_digits) in
    let n2 : length ((du ++ (32 ∷ [])) ++ dv) ≡ 33 = simp (length-append, length_digits) in
    let s1 : set (put at 16 text du) (at + 16) 32 ≡ put at 17 text (du ++ (32 ∷ [])) =
    put_one (at + 16) 32 (put at 16 text du) (rw (put-length at 16 text du (omega arith) n0) (omega arith)) ∙ put-put at 16 1 text du (32 ∷ []) (omega arith) n0 in
    let s2 = put-put at 17 16 text (du ++ (32 ∷ [])) dv (omega arith) n1 in
    let t : List ℕ = put at 33 text ((du ++ (32 ∷ [])) ++ dv) in
    let s3 = put_one (at + 33) 10 t (rw (put-length at 33 text ((du ++ (32 ∷ [])) ++ dv) (omega arith) n2) (omega arith))
    ∙ put-put at 33 1 text ((du ++ (32 ∷ [])) ++ dv) (10 ∷ []) (omega arith) n2 in
    rw (s1, s2) (s3 ∙ simp append_assoc)

node_lines-more : (n : ℕ) (log : List ℕ) → node_lines (suc n) log ≡ node_lines n log ++ node_line (get_or log (2 * n) 0) (get_or log (2 * n + 1) 0)
unfolding node_lines
node_lines-more zero log = append-nil (node_line (get_or log 0 0) (get_or log 1 0))
node_lines-more (suc n) log =
    let a : 2 + 2 * n ≡ 2 * suc n = omega arith in
    let b : 2 + (2 * n + 1) ≡ 2 * suc n + 1 = omega arith in
    let u : get_or (drop 2 log) (2 * n) 0 ≡ get_or log (2 * suc n) 0 = get_or-drop 2 log (2 * n) 0 ∙ ap (λ (k : ℕ). get_or log k 0) a in
    let v : get_or (drop 2 log) (2 * n + 1) 0 ≡ get_or log (2 * suc n + 1) 0 = get_or-drop 2 log (2 * n + 1) 0 ∙ ap (λ (k : ℕ). get_or log k 0) b in
    ap (λ (l : List ℕ). node_line (get_or log 0 0) (get_or log 1 0) ++ l) (node_lines-more n (drop 2 log) ∙ rw (u, v))
    ∙ sym (append_assoc (node_line (get_or log 0 0) (get_or log 1 0)) (node_lines n (drop 2 log)) (node_line (get_or log (2 * suc n) 0) (get_or log (2 * suc n + 1) 0)))

pub nodes_none : (text log : List ℕ) → text ≡ put 0 (line_bytes * 0) text (node_lines 0 log)
unfolding node_lines
nodes_none text log = refl

pub nodes-step : (i : ℕ) (text log : List ℕ) {t t' : List ℕ} → t ≡ put 0 (line_bytes * i) text (node_lines i log)
    → t' ≡ put (line_bytes * i) line_bytes t (node_line (get_or log (2 * i) 0) (get_or log (2 * i + 1) 0))
    → t' ≡ put 0 (line_bytes * (i + 1)) text (node_lines (i + 1) log)
nodes-step i text log e e' =
    let a : line_bytes * i + line_bytes ≡ line_bytes * (i + 1) = omega arith in
    let b : i + 1 ≡ suc i = add-one i in
    let m : List ℕ = node_line (get_or log (2 * i) 0) (get_or log (2 * i + 1) 0) in
    e' ∙ ap (λ (l : List ℕ). put (line_bytes * i) line_bytes l m) e ∙ next-part (line_bytes * i) line_bytes (node_lines i log) text m (length-node_lines i log)
    ∙ rw (a, b, node_lines-more i log)

-- ---- the line of a digest
length-byte_digits : (bytes : List ℕ) → length (byte_digits bytes) ≡ 2 * length bytes
unfolding mathlib.Core.List.flatten
length-byte_digits [] = refl
length-byte_digits (b ∷ bytes) = rw (length-append, length_digits 2 b, length-byte_digits bytes) (omega arith)

byte_digits-more : (bytes : List ℕ) (i : ℕ) → i < length bytes → byte_digits (take (i + 1) bytes) ≡ byte_digits (take i bytes) ++ hex_digits 2 (get_or bytes i 0)
unfolding mathlib.Core.List.flatten
byte_digits-more bytes i h = rw (add-one, take-suc bytes i 0 h, map-append, flatten-append, append-nil)

pub bytes-step : (i : ℕ) (text bytes : List ℕ) {x : ℕ} {t t' : List ℕ} → i < length bytes → x ≡ get_or bytes i 0
    → t ≡ put 0 (2 * i) text (byte_digits (take i bytes)) → t' ≡ put (2 * i) 2 t (hex_digits 2 x)
    → t' ≡ put 0 (2 * (i + 1)) text (byte_digits (take (i + 1) bytes))
bytes-step i text bytes {t = t} h d e e' =
    let a : 2 * i + 2 ≡ 2 * (i + 1) = omega arith in
    let n : length (byte_digits (take i bytes)) ≡ 2 * i = rw (length-byte_digits (take i bytes), length-take-le i bytes (omega arith)) in
    e' ∙ ap (λ (y : ℕ). put (2 * i) 2 t (hex_digits 2 y)) d ∙ ap (λ (l : List ℕ). put (2 * i) 2 l (hex_digits 2 (get_or bytes i 0))) e
    ∙ next-part (2 * i) 2 (byte_digits (take i bytes)) text (hex_digits 2 (get_or bytes i 0)) n ∙ rw (a, byte_digits-more bytes i h)

pub length-digest_line : (n : ℕ) (bytes : List ℕ) → n ≤ length bytes → length (digest_line (take n bytes)) ≡ 2 * n + 1
unfolding digest_line
length-digest_line n bytes h = rw (length-append, length-byte_digits (take n bytes), length-take-le n bytes h)

pub digest-stored : (n : ℕ) (text bytes : List ℕ) → n ≤ length bytes → 2 * n < length text
    → set (put 0 (2 * n) text (byte_digits (take n bytes))) (2 * n) 10 ≡ put 0 (2 * n + 1) text (digest_line (take n bytes))
unfolding digest_line
digest-stored n text bytes h g =
    let D : List ℕ = byte_digits (take n bytes) in
    let m : length D ≡ 2 * n = rw (length-byte_digits (take n bytes), length-take-le n bytes h) in
    put_one (2 * n) 10 (put 0 (2 * n) text D) (rw (put-length 0 (2 * n) text D (omega arith) m) g) ∙ next-part (2 * n) 1 D text (10 ∷ []) m
