-- Laws: the fields of line 1, over any list of them: how many digits they have, and that what is written is read back.
use Rattle.std.specs.Prelude.{◌≡◌, refl, Option, Some, None, ℕ, zero, suc, ◌^◌, ◌≤◌, ◌<◌, T, ltb, length, take, drop, get_or, set}
use Rattle.std.proofs.Common.{◌∙◌, arith, ltb→lt, length-append, length-take, length-set}
use mathlib.Core.List.{List, [], ◌∷◌, ◌++◌, map, flatten, append_assoc}
use Rattle.lists.specs.Below.{Below, more}
use Rattle.lists.specs.BelowLaws.{below_all}
use Rattle.lists.specs.Table.{every, at}
use Rattle.calls.specs.Area.{head_words}
use Rattle.calls.proofs.Block.{below_set}
use Rattle.digits.specs.Digits.{hex_digits, spelt}
use Rattle.digits.proofs.DigitLaws.{length_digits, digits_back, take_digits, drop_digits, spelt_lt}
use Rattle.texts.specs.Text.{Field, rounds_bytes, line1_fields, digits_of, field_digits, digits_in, with_spelt, spelt_fields}

-- the words and the digits of fields
abbrev pub field_words : List Field → List ℕ
field_words fs = map (λ (f : Field). f.word) fs

abbrev pub field_sizes : List Field → List ℕ
field_sizes fs = map digits_of fs

-- line 1 tells words before the levels, each in at most 16 digits: one computed test each
tested : (b : ℕ) (xs : List ℕ) → T (every (λ (k x : ℕ). ltb x b) 0 xs) → Below b xs
tested b xs t = below_all xs (λ i h. ltb→lt (get_or xs i 0) b (at (λ (k x : ℕ). ltb x b) xs t i h))

pub words-head : (w : ℕ) → Below head_words (field_words (line1_fields w))
words-head w = tested head_words (field_words (line1_fields w)) tt

pub sizes-word : (w : ℕ) → w ≤ rounds_bytes → Below 17 (field_sizes (line1_fields w))
sizes-word zero h = tested 17 (field_sizes (line1_fields 0)) tt
sizes-word (suc zero) h = tested 17 (field_sizes (line1_fields 1)) tt
sizes-word (suc (suc zero)) h = tested 17 (field_sizes (line1_fields 2)) tt
sizes-word (suc (suc (suc w))) h = absurd (omega arith)

-- ---- the digits

pub length_fields : (fs : List Field) (area : List ℕ) → length (field_digits fs area) ≡ digits_in fs
unfolding flatten
length_fields [] area = refl
length_fields (f ∷ fs) area = rw (length-append, length_digits (digits_of f) (get_or area f.word 0), length_fields fs area)

-- they go by the words that are told
pub fields-same : (fs : List Field) (a b : List ℕ) → Below head_words (field_words fs) → ((i : ℕ) → i < head_words → get_or a i 0 ≡ get_or b i 0)
    → field_digits fs a ≡ field_digits fs b
unfolding flatten
fields-same [] a b w e = refl
fields-same (f ∷ fs) a b (more h w) e = rw (e f.word h, fields-same fs a b w e)

-- ---- writing, then reading

-- each number fits the digits of its field
abbrev pub FieldsFit : List Field → List ℕ → Type 0
FieldsFit [] area = Unit {0}
FieldsFit (f ∷ fs) area = (get_or area f.word 0 < 16 ^ digits_of f) × FieldsFit fs area

-- words with those of an area where the fields tell them
abbrev pub told : List Field → List ℕ → List ℕ → List ℕ
told [] area ws = ws
told (f ∷ fs) area ws = told fs area (set ws f.word (get_or area f.word 0))

pub fields_back : (fs : List Field) (area ws rest : List ℕ) → FieldsFit fs area → spelt_fields fs (field_digits fs area ++ rest) ws ≡ Some (told fs area ws)
unfolding flatten
fields_back [] area ws rest g = refl
fields_back (f ∷ fs) area ws rest g =
    let n : ℕ = digits_of f in
    let x : ℕ = get_or area f.word 0 in
    let l : List ℕ = field_digits fs area ++ rest in
    rw (append_assoc (hex_digits n x) (field_digits fs area) rest, take_digits n x l, drop_digits n x l, digits_back n x g.0) (fields_back fs area (set ws f.word x) rest g.1)

-- ---- what is spelt: as many words as before, below 2 ^ 64

pub spelt-parts : {A : Type 0} (o : Option A) (go : A → Option (List ℕ)) (vs : List ℕ) → with_spelt o go ≡ Some vs → (x : A) × (o ≡ Some x) × (go x ≡ Some vs)
spelt-parts None go vs e = cc
spelt-parts (Some x) go vs e = (x, refl, e)

pub record Spells (ws vs : List ℕ) : Type 0 where
  pub size : length vs ≡ length ws
  pub words : Below (2 ^ 64) ws → Below (2 ^ 64) vs

pub fields-spelt : (fs : List Field) (text ws vs : List ℕ) → Below 17 (field_sizes fs) → spelt_fields fs text ws ≡ Some vs → Spells ws vs
fields-spelt [] text ws vs b e = let k : ws ≡ vs = cc in rw k (record { size = refl; words = λ b. b })
fields-spelt (f ∷ fs) text ws vs (more h b) e =
    let n : ℕ = digits_of f in
    let s = spelt-parts (spelt 0 (take n text)) (λ (x : ℕ). spelt_fields fs (drop n text) (set ws f.word x)) vs e in
    let r = fields-spelt fs (drop n text) (set ws f.word s.0) vs b s.2 in
    let l : s.0 < 2 ^ 64 = spelt_lt 16 s.0 (take n text) (rw length-take (omega arith)) s.1 in
    record { size = r.size ∙ length-set ws f.word s.0; words = λ c. r.words (below_set f.word s.0 c l) }
