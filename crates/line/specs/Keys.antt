-- Laws: the key's field, read byte by byte, says what its definition says, of a key over 64 bytes the first 65.
use Rattle.std.specs.Prelude.{Option, Some, None, ◌≡◌, refl, Bool, true, false, cond, List, [], ◌∷◌, ◌++◌, ℕ, suc, ◌+◌, ◌-◌, ◌≤◌, ◌<◌, min, ltb, eqb, length, take, set, replicate}
use Rattle.std.proofs.Common.{sym, ap, ◌∙◌, append-nil, arith, ltb-true, ltb-false, le-leb, ne_eqb, length-append, length-take, take_all, take_at}
use Rattle.std.proofs.lemmas.List.{set_at, take-append-le}
use Rattle.std.proofs.Math.Seq.{append_snoc}
use Rattle.digits.specs.Digits.{spelt, with_word, bytes_of}
use Rattle.line.specs.Line.{key_of}
use Rattle.line.specs.Fold.{kept_bytes, kept_of, put_byte, put_pair, push_key, key_bytes_in}
use Rattle.line.specs.declared.Pairs.TheVariants.{Whole, Half, Wrong}
use Rattle.line.specs.declared.Key.{Key}

-- what a key's field must say
abbrev pub SaysKey : Key → Option (List ℕ) → Type 0
SaysKey k None = key_bytes_in k.pairs ≡ None
SaysKey k (Some key) = (key_bytes_in k.pairs ≡ Some (min (length key) kept_bytes)) × (k.bytes ≡ kept_of key)

-- the bytes of a field, one after the other
abbrev pub push_keys : Key → List ℕ → Key
push_keys k [] = k
push_keys k (b ∷ bs) = push_keys (push_key k b) bs

stays_wrong : (bytes f : List ℕ) → key_bytes_in (push_keys (record { pairs = Wrong; bytes = bytes }) f).pairs ≡ None
stays_wrong bytes [] = refl
stays_wrong bytes (b ∷ bs) = stays_wrong bytes bs

-- the field when all its bytes so far are pairs of digits
abbrev keyed : List ℕ → Key
keyed key = record { pairs = Whole (min (length key) kept_bytes); bytes = kept_of key }

-- a byte more, where there is room for it
put-kept : (key : List ℕ) (x : ℕ) → length key < 65 → set (kept_of key) (length key) x ≡ kept_of (key ++ (x ∷ []))
put-kept key x h =
    let n : length (key ++ (x ∷ [])) ≡ suc (length key) = simp length-append (omega arith) in
    let a : 65 - length key ≡ suc (64 - length key) = omega arith in
    let b : 65 - suc (length key) ≡ 64 - length key = omega arith in
    rw (
      take_all 65 key (omega arith),
      take_all 65 (key ++ (x ∷ [])) (omega arith),
      n,
      a,
      b,
      set_at key 0 (replicate (64 - length key) 0) x (length key) refl,
    )
    (sym (append_snoc key x (replicate (64 - length key) 0)))

-- and where there is none
put-past : (key : List ℕ) (x : ℕ) → 65 ≤ length key → kept_of key ≡ kept_of (key ++ (x ∷ []))
put-past key x h =
    let n : length (key ++ (x ∷ [])) ≡ suc (length key) = simp length-append (omega arith) in
    let a : 65 - length key ≡ 0 = omega arith in
    let b : 65 - suc (length key) ≡ 0 = omega arith in
    rw (take-append-le 65 key (x ∷ []) h, n, a, b)

put : (key : List ℕ) (x : ℕ) → put_byte (kept_of key) (min (length key) kept_bytes) x ≡ keyed (key ++ (x ∷ []))
put key x = by (ltb (length key) 65) refl
  where
    n : length (key ++ (x ∷ [])) ≡ suc (length key)
    n = simp length-append (omega arith)

    by : (t : Bool) → ltb (length key) 65 ≡ t → put_byte (kept_of key) (min (length key) kept_bytes) x ≡ keyed (key ++ (x ∷ []))
    by true p =
        let h : length key < 65 = ltb-true (length key) 65 p in
        let a : min (length key) 65 ≡ length key = omega arith in
        let b : length key + 1 ≡ min (length (key ++ (x ∷ []))) 65 = omega (arith, n) in
        rw (a, p) (λ i. record { pairs = Whole (b i); bytes = put-kept key x h i })
    by false p =
        let h : 65 ≤ length key = ltb-false (length key) 65 p in
        let a : min (length key) 65 ≡ 65 = omega arith in
        let b : 65 ≡ min (length (key ++ (x ∷ []))) 65 = omega (arith, n) in
        rw a (λ i. record { pairs = Whole (b i); bytes = put-past key x h i })

-- from one byte on: the rest of the field
abbrev Rest : Key → List ℕ → Option (List ℕ) → Type 0
Rest k key None = key_bytes_in k.pairs ≡ None
Rest k key (Some more) = k ≡ keyed (key ++ more)

one_more : (k : Key) (key : List ℕ) (x : ℕ) (o : Option (List ℕ)) → Rest k (key ++ (x ∷ [])) o → Rest k key (with_word (Some x) o)
one_more k key x None h = h
one_more k key x (Some more) h = h ∙ ap keyed (append_snoc key x more)

more_pairs : (f key : List ℕ) → 1 ≤ length key → Rest (push_keys (keyed key) f) key (bytes_of f)
more_pairs [] key h = ap keyed (sym (append-nil key))
more_pairs (a ∷ []) key h =
    let e : min (length key) 65 ≡ 0 → ⊥ = omega arith in
    rw (ne_eqb (min (length key) 65) 0 e)
more_pairs (a ∷ b ∷ bs) key h =
    by (spelt 0 (a ∷ b ∷ [])) (λ (x : ℕ). more_pairs bs (key ++ (x ∷ [])) (simp length-append (omega arith)))
  where
    by : (p : Option ℕ) → ((x : ℕ) → Rest (push_keys (keyed (key ++ (x ∷ []))) bs) (key ++ (x ∷ [])) (bytes_of bs))
        → Rest (push_keys (put_pair (kept_of key) (min (length key) kept_bytes) p) bs) key (with_word p (bytes_of bs))
    by None ih = stays_wrong (kept_of key) bs
    by (Some x) ih = rw (put key x) (one_more (push_keys (keyed (key ++ (x ∷ []))) bs) key x (bytes_of bs) (ih x))

-- a key of at least one byte
says_some : (k : Key) (x : ℕ) (o : Option (List ℕ)) → Rest k (x ∷ []) o → SaysKey k (with_word (Some x) o)
says_some k x None h = h
says_some k x (Some more) h =
    let n : min (suc (length more)) 65 ≡ 0 → ⊥ = omega arith in
    let m : min (min (suc (length more)) 65) 65 ≡ min (suc (length more)) 65 = omega arith in
    (rw (h, ne_eqb (min (suc (length more)) 65) 0 n, m), ap (λ (k' : Key). k'.bytes) h)

-- the key's field as a line begins
abbrev pub no_key : Key
no_key = record { pairs = Whole 0; bytes = replicate kept_bytes 0 }

pub key-field : (f : List ℕ) → SaysKey (push_keys no_key f) (key_of f)
key-field [] = refl
key-field (a ∷ []) = by (eqb a 45) refl
  where
    by : (t : Bool) → eqb a 45 ≡ t → SaysKey (record { pairs = Half 0 a; bytes = replicate kept_bytes 0 }) (cond t (Some []) None)
    by true e = (rw e, refl)
    by false e = rw e
key-field (a ∷ b ∷ bs) = rw (le-leb 1 (suc (suc (length bs))) (omega arith)) (by (spelt 0 (a ∷ b ∷ [])))
  where
    by : (p : Option ℕ) → SaysKey (push_keys (put_pair (replicate kept_bytes 0) 0 p) bs) (with_word p (bytes_of bs))
    by None = stays_wrong (replicate kept_bytes 0) bs
    by (Some x) = says_some (push_keys (keyed (x ∷ [])) bs) x (bytes_of bs) (more_pairs bs (x ∷ []) (omega arith))

-- the bytes that are counted are the key's first 65
pub counted : (key : List ℕ) → take (min (length key) kept_bytes) (kept_of key) ≡ take kept_bytes key
counted key =
    let n : length (take 65 key) ≡ min (length key) 65 = simp length-take (omega arith) in
    take_at (take 65 key) (replicate (65 - length key) 0) (min (length key) 65) n
