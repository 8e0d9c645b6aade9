-- Examples: the fields of line 1 in their order, by computing.
use Rattle.std.specs.Prelude.{◌≡◌, refl, true, ℕ, replicate}
use mathlib.Core.List.{List, [], ◌∷◌, ◌++◌, map, flatten}
use Prim.Native.Char.{code}
use Prim.Native.String as string
use Rattle.bits.specs.Bits.{numbers}
use Rattle.calls.specs.Area.{params_of, levels_of, sound}
use Rattle.digits.specs.Digits.{hex_digits}
use Rattle.texts.specs.Text.{text_with, text_of, old_text_of}

-- the bytes of a text of ASCII characters
abbrev pub ascii : string.String → List ℕ
ascii string.[] = []
ascii (string.◌∷◌ c s) = code c ∷ ascii s

abbrev joined : List string.String → List ℕ
joined parts = flatten (map ascii parts)

-- an ended area with no two of these the same: phase 2, total, 3 key bytes, d, L = 5, r, K, and as many compressions as a tree of that total
-- and L has nodes
abbrev ended : List ℕ
ended = 2 ∷ 0x123456789abcdef0 ∷ 3 ∷ 0x150 ∷ 5 ∷ 0xab ∷ 0x0102ab0000000000 ∷ (replicate 7 0 ++ (0x0001845c8a0ce515 ∷ 0 ∷ replicate 384 0))

abbrev line2_text : List ℕ
line2_text = ascii "0102ab" ++ (replicate 122 48 ++ ascii "\n")

-- "Line 1: phase (1 byte), r (1), L (1), key bytes (1), d (2), total (8), compressions (8)"; M-108: "holds r in two bytes"
pub fields-written : (sound ended ≡ true)
    × (text_of ended ≡ joined ("02" ∷ "00ab" ∷ "05" ∷ "03" ∷ "0150" ∷ "123456789abcdef0" ∷ "0001845c8a0ce515" ∷ "\n" ∷ []) ++ line2_text)
    × (old_text_of ended ≡ joined ("02" ∷ "ab" ∷ "05" ∷ "03" ∷ "0150" ∷ "123456789abcdef0" ∷ "0001845c8a0ce515" ∷ "\n" ∷ []) ++ line2_text)
unfolding numbers params_of levels_of sound hex_digits text_with flatten
fields-written = (refl, refl, refl)
