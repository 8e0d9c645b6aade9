-- Examples: sound and unsound areas, one table and one theorem, by computing. Document 02, M-109: "Soundness, .. and the untouched
-- tail go by this length", which is that of L + 1 levels, and of 27 from L = 26 on. Document 01: "An area is sound if word 0 is 1 or
-- 2, its parameters are in range, unused key bytes are zero, word 14 is the count that total, L and phase give, word 15 is 0,
-- and so is every bit of a level that is neither held nor of a sequential output. Ended areas hold nothing in any level and
-- keep no sequential output".
use Rattle.std.specs.Prelude.{◌≡◌, refl, Bool, true, false, List, [], ◌∷◌, ◌++◌, map, ℕ, zero, suc, ◌+◌, ◌-◌, ◌*◌, ◌^◌, set, replicate}
use Rattle.bits.specs.Bits.{numbers}
use Rattle.tree.specs.Tree.{most_levels}
use Rattle.calls.specs.Area.{block_words, params_of, levels_of, sound}

-- an area with no key, d = 8 and r = 0, and zeros in its levels: phase, L, total and word 14; then the words of the head that
-- are set (word, value) and those of the levels (level, word of the level, value); and whether it is sound
pub record Row : Type 0 where
  pub phase : ℕ
  pub limit : ℕ
  pub total : ℕ
  pub count : ℕ
  pub head : List (ℕ × ℕ)
  pub levels : List (ℕ × ℕ × ℕ)
  pub sound : Bool

abbrev row : ℕ → ℕ → ℕ → ℕ → List (ℕ × ℕ) → List (ℕ × ℕ × ℕ) → Bool → Row
row phase limit total count head levels verdict =
    record { phase = phase; limit = limit; total = total; count = count; head = head; levels = levels; sound = verdict }

abbrev set_all : List (ℕ × ℕ) → List ℕ → List ℕ
set_all [] area = area
set_all (q ∷ qs) area = set_all qs (set area q.0 q.1)

-- the slice is longer than any area needs, and its words past those that L gives are the caller's own
abbrev built : Row → List ℕ
built w =
    set_all w.head (w.phase ∷ w.total ∷ 0 ∷ 8 ∷ w.limit ∷ 0 ∷ (replicate 8 0 ++ (w.count ∷ 0 ∷ [])))
    ++ (set_all (map (λ (q : ℕ × ℕ × ℕ). (block_words * (q.0 - 1) + q.1, q.2)) w.levels) (replicate (most_levels * block_words) 0) ++ (7 ∷ []))

-- every bit of so many words of a level, from one on
abbrev ones : ℕ → ℕ → ℕ → List (ℕ × ℕ × ℕ)
ones level word zero = []
ones level word (suc n) = (level, word, 2 ^ 64 - 1) ∷ ones level (suc word) n

-- the words before the levels, with L = 0 and with L = 2
abbrev pub head_rows : List Row
head_rows =
    -- "word 0 is 1 or 2": an opened area, and one that ended with the one node of no bits
    row 1 0 0 0 [] [] true
    ∷ row 2 0 0 1 [] [] true
    ∷ row 1 2 0 0 [] [] true
    ∷ row 2 2 0 1 [] [] true
    -- no other phase
    ∷ row 0 0 0 0 [] [] false
    ∷ row 3 0 0 0 [] [] false
    ∷ row 0 2 0 0 [] [] false
    ∷ row 3 2 0 1 [] [] false
    -- "its parameters are in range": d is 1 to 512
    ∷ row 1 0 0 0 ((3, 1) ∷ []) [] true
    ∷ row 1 0 0 0 ((3, 512) ∷ []) [] true
    ∷ row 1 0 0 0 ((3, 0) ∷ []) [] false
    ∷ row 1 0 0 0 ((3, 513) ∷ []) [] false
    ∷ row 1 0 0 0 ((3, 2 ^ 32 + 8) ∷ []) [] false
    -- the key has up to 64 bytes; of 64 none is unused
    ∷ row 1 0 0 0 ((2, 64) ∷ []) [] true
    ∷ row 1 0 0 0 ((2, 64) ∷ (13, 1) ∷ []) [] true
    ∷ row 1 0 0 0 ((2, 65) ∷ []) [] false
    -- L is up to 64, r up to 4,095
    ∷ row 1 64 0 0 [] [] true
    ∷ row 1 65 0 0 [] [] false
    ∷ row 1 0 0 0 ((5, 256) ∷ []) [] true
    ∷ row 1 0 0 0 ((5, 4095) ∷ []) [] true
    ∷ row 1 0 0 0 ((5, 4096) ∷ []) [] false
    -- "unused key bytes are zero": the first two of K, and the third; the eighth and last of word 6, of a key of 8 and of 7 bytes
    ∷ row 1 2 0 0 ((2, 2) ∷ (6, 0xffff000000000000) ∷ []) [] true
    ∷ row 1 2 0 0 ((2, 2) ∷ (6, 0xffff010000000000) ∷ []) [] false
    ∷ row 1 2 0 0 ((2, 8) ∷ (6, 1) ∷ []) [] true
    ∷ row 1 2 0 0 ((2, 7) ∷ (6, 1) ∷ []) [] false
    -- with no key all of K is unused, its last byte too; of 63 bytes the last
    ∷ row 1 2 0 0 ((6, 2 ^ 63) ∷ []) [] false
    ∷ row 1 2 0 0 ((13, 1) ∷ []) [] false
    ∷ row 1 2 0 0 ((2, 63) ∷ (13, 1) ∷ []) [] false
    -- "word 14 is the count that total, L and phase give": 3,072 bits are one block with L = 0, the last, and 3,073 are two
    ∷ row 1 0 3072 0 [] [] true
    ∷ row 1 0 3072 1 [] [] false
    ∷ row 1 0 3073 1 [] [] true
    ∷ row 1 0 3073 0 [] [] false
    ∷ row 1 0 3073 2 [] [] false
    ∷ row 2 0 3072 1 [] [] true
    ∷ row 2 0 3072 0 [] [] false
    ∷ row 2 0 3073 2 [] [] true
    ∷ row 2 0 3073 1 [] [] false
    ∷ row 2 0 3073 3 [] [] false
    -- 16,384 bits with L = 2: three of four nodes at level 1, and five nodes in all; one bit more: 4 and 1, and 5, 2 and 1 in all
    ∷ row 1 2 16384 3 [] [] true
    ∷ row 1 2 16384 4 [] [] false
    ∷ row 2 2 16384 5 [] [] true
    ∷ row 2 2 16384 6 [] [] false
    ∷ row 1 2 16385 5 [] [] true
    ∷ row 1 2 16385 6 [] [] false
    ∷ row 2 2 16385 8 [] [] true
    ∷ row 2 2 16385 9 [] [] false
    -- the most bits: 2^52 - 1, 2^50 - 1 and a third of that, and at the end one more of each level
    ∷ row 1 2 (2 ^ 64 - 1) 6004799503160659 [] [] true
    ∷ row 1 2 (2 ^ 64 - 1) 6004799503160660 [] [] false
    ∷ row 2 2 (2 ^ 64 - 1) 6004799503160662 [] [] true
    ∷ row 2 2 (2 ^ 64 - 1) 6004799503160663 [] [] false
    -- "word 15 is 0"
    ∷ row 1 0 0 0 ((15, 1) ∷ []) [] false
    ∷ row 2 2 0 1 ((15, 1) ∷ []) [] false
    ∷ []

-- the levels with L = 0: level 1 is sequential; its words 0 to 15 are for its output, and what is held follows them
abbrev pub rows0 : List Row
rows0 =
    -- 3,072 bits: all of words 16 to 63 is held; there is no output yet, so words 0 to 15 are zero
    row 1 0 3072 0 [] (ones 1 16 48) true
    ∷ row 1 0 3072 0 [] ((1, 0, 2 ^ 63) ∷ []) false
    ∷ row 1 0 3072 0 [] ((1, 15, 1) ∷ []) false
    -- 3,073 bits: an output, and one bit held; not the next bit, and not the last of the level
    ∷ row 1 0 3073 1 [] (ones 1 0 16) true
    ∷ row 1 0 3073 1 [] ((1, 16, 2 ^ 63) ∷ []) true
    ∷ row 1 0 3073 1 [] ((1, 16, 2 ^ 62) ∷ []) false
    ∷ row 1 0 3073 1 [] ((1, 63, 1) ∷ []) false
    -- no bits: none is held
    ∷ row 1 0 0 0 [] ((1, 16, 2 ^ 63) ∷ []) false
    -- 63 bits end within word 16, 64 with it, and 65 after the first bit of word 17
    ∷ row 1 0 63 0 [] ((1, 16, 2) ∷ []) true
    ∷ row 1 0 63 0 [] ((1, 16, 1) ∷ []) false
    ∷ row 1 0 64 0 [] ((1, 16, 1) ∷ []) true
    ∷ row 1 0 64 0 [] ((1, 17, 2 ^ 63) ∷ []) false
    ∷ row 1 0 65 0 [] ((1, 17, 2 ^ 63) ∷ []) true
    ∷ row 1 0 65 0 [] ((1, 17, 2 ^ 62) ∷ []) false
    -- 3,071 bits: the last bit of the level is not held
    ∷ row 1 0 3071 0 [] ((1, 63, 2) ∷ []) true
    ∷ row 1 0 3071 0 [] ((1, 63, 1) ∷ []) false
    -- what stands past level 1, in words 80 to 1,743, is the tail
    ∷ row 1 0 3073 1 [] ((2, 0, 1) ∷ []) true
    ∷ row 1 0 3073 1 [] ((2, 16, 1) ∷ (27, 63, 1) ∷ []) true
    ∷ row 1 0 0 0 [] (ones 2 0 64) true
    -- ended: no output is kept, and nothing held
    ∷ row 2 0 3073 2 [] ((1, 0, 2 ^ 63) ∷ []) false
    ∷ row 2 0 3073 2 [] ((1, 16, 2 ^ 63) ∷ []) false
    ∷ row 2 0 3073 2 [] ((1, 63, 1) ∷ []) false
    ∷ row 2 0 3073 2 [] ((2, 0, 2 ^ 63) ∷ (27, 63, 1) ∷ []) true
    ∷ []

-- the levels with L = 1: level 1 is parallel, and level 2 is sequential
abbrev pub rows1 : List Row
rows1 =
    -- 4,097 bits: level 2 holds one output behind words 0 to 15, and has none of its own yet
    row 1 1 4097 1 [] (ones 2 16 16) true
    ∷ row 1 1 4097 1 [] ((2, 0, 1) ∷ []) false
    ∷ row 1 1 4097 1 [] ((2, 32, 1) ∷ []) false
    -- 12,289 bits, 3 and 1 nodes: level 1 holds one bit, and level 2 has an output and holds nothing; level 3 is the tail
    ∷ row 1 1 12289 4 [] ((1, 0, 2 ^ 63) ∷ []) true
    ∷ row 1 1 12289 4 [] (ones 2 0 16) true
    ∷ row 1 1 12289 4 [] ((1, 0, 2 ^ 62) ∷ []) false
    ∷ row 1 1 12289 4 [] ((2, 16, 1) ∷ []) false
    ∷ row 1 1 12289 4 [] ((2, 63, 1) ∷ []) false
    ∷ row 1 1 12289 4 [] ((3, 0, 2 ^ 63) ∷ (27, 63, 1) ∷ []) true
    ∷ []

-- the levels with L = 2: levels 1 and 2 are parallel, and level 3 is sequential
abbrev pub rows2 : List Row
rows2 =
    -- 4,096 bits fill level 1; of 4,095 the last bit of the level is not held
    row 1 2 4096 0 [] (ones 1 0 64) true
    ∷ row 1 2 4095 0 [] ((1, 63, 2) ∷ []) true
    ∷ row 1 2 4095 0 [] ((1, 63, 1) ∷ []) false
    -- 4,097 bits: level 1 holds one bit, and level 2 one output, words 0 to 15
    ∷ row 1 2 4097 1 [] ((1, 0, 2 ^ 63) ∷ []) true
    ∷ row 1 2 4097 1 [] ((1, 0, 2 ^ 62) ∷ []) false
    ∷ row 1 2 4097 1 [] (ones 2 0 16) true
    ∷ row 1 2 4097 1 [] ((2, 16, 2 ^ 63) ∷ []) false
    -- 4,096 bits: level 2 holds nothing yet
    ∷ row 1 2 4096 0 [] ((2, 0, 1) ∷ []) false
    -- 12,289 bits: level 2 holds three outputs
    ∷ row 1 2 12289 3 [] (ones 2 0 48) true
    ∷ row 1 2 12289 3 [] ((2, 48, 2 ^ 63) ∷ []) false
    -- 16,385 bits: level 2 gave its output up; level 3 holds it behind words 0 to 15, and has no output of its own yet
    ∷ row 1 2 16385 5 [] ((2, 0, 1) ∷ []) false
    ∷ row 1 2 16385 5 [] (ones 3 16 16) true
    ∷ row 1 2 16385 5 [] ((3, 0, 2 ^ 63) ∷ []) false
    ∷ row 1 2 16385 5 [] ((3, 15, 1) ∷ []) false
    ∷ row 1 2 16385 5 [] ((3, 32, 2 ^ 63) ∷ []) false
    -- 32,769 bits, 8 and 2 nodes: level 3 holds two outputs
    ∷ row 1 2 32769 10 [] (ones 3 16 32) true
    ∷ row 1 2 32769 10 [] ((3, 15, 1) ∷ []) false
    ∷ row 1 2 32769 10 [] ((3, 48, 2 ^ 63) ∷ []) false
    -- 49,153 bits, 12, 3 and 1 nodes: level 3 has an output and holds nothing
    ∷ row 1 2 49153 16 [] (ones 3 0 16) true
    ∷ row 1 2 49153 16 [] ((3, 16, 2 ^ 63) ∷ []) false
    -- what stands past level 3 is the tail
    ∷ row 1 2 49153 16 [] ((3, 63, 1) ∷ []) false
    ∷ row 1 2 49153 16 [] ((4, 0, 2 ^ 63) ∷ (27, 63, 1) ∷ []) true
    -- ended, 13, 4 and 2 nodes: what each of the three levels held, and the output of level 3, are gone
    ∷ row 2 2 49153 19 [] [] true
    ∷ row 2 2 49153 19 [] ((1, 0, 2 ^ 63) ∷ []) false
    ∷ row 2 2 49153 19 [] ((2, 0, 1) ∷ []) false
    ∷ row 2 2 49153 19 [] ((3, 0, 1) ∷ []) false
    ∷ row 2 2 49153 19 [] ((3, 16, 1) ∷ []) false
    ∷ row 2 2 49153 19 [] ((4, 0, 1) ∷ []) true
    ∷ []

-- from L = 26 on an area has all 27 levels: the last of them is sequential with L = 26, and parallel above that; with L = 25 it is
-- the tail
abbrev pub rows_most : List Row
rows_most =
    row 1 25 0 0 [] ((26, 63, 1) ∷ []) false
    ∷ row 1 25 0 0 [] ((27, 0, 2 ^ 63) ∷ []) true
    ∷ row 1 26 0 0 [] ((27, 0, 2 ^ 63) ∷ []) false
    ∷ row 1 26 0 0 [] ((27, 63, 1) ∷ []) false
    ∷ row 1 27 0 0 [] ((27, 63, 1) ∷ []) false
    ∷ row 1 64 0 0 [] ((27, 63, 1) ∷ []) false
    ∷ row 2 25 0 1 [] ((27, 63, 1) ∷ []) true
    ∷ row 2 64 0 1 [] ((27, 63, 1) ∷ []) false
    ∷ []

abbrev pub rows : List Row
rows = head_rows ++ (rows0 ++ (rows1 ++ (rows2 ++ rows_most)))

-- what the definition says of a row's area
abbrev pub computed : Row → Row
computed w = row w.phase w.limit w.total w.count w.head w.levels (sound (built w))

pub rows-hold : map computed rows ≡ rows
unfolding numbers params_of levels_of sound
rows-hold = refl
