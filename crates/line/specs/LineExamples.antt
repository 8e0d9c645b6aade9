-- Examples: lines and what they say, computed from the definition.
use Rattle.std.specs.Prelude.{Option, Some, None, ◌≡◌, refl, List, [], ◌∷◌, ◌++◌, map, ℕ, replicate}
use Prim.Native.Char.{code}
use Prim.Native.String as string
use Prim.Native.String.{String}
use Rattle.line.specs.Line.{Line, line_of}

-- the bytes of a text in ASCII
abbrev bytes : String → List ℕ
bytes string.[] = []
bytes (string.◌∷◌ c s) = code c ∷ bytes s

abbrev says : ℕ → ℕ → Option ℕ → List ℕ → Option Line
says d limit rounds key = Some (record { d = d; limit = limit; rounds = rounds; key = key })

-- each line, without its byte 10, and what it says
abbrev table : List (List ℕ × Option Line)
table =
    (bytes "8 64 0 -", says 8 64 (Some 0) []) ∷
    (bytes "512 0 - -", says 512 0 None []) ∷
    -- leading zeros, up to five digits
    (bytes "00008 064 00 -", says 8 64 (Some 0) []) ∷
    (bytes "0 0 0 -", says 0 0 (Some 0) []) ∷
    (bytes "99999 99999 99999 -", says 99999 99999 (Some 99999) []) ∷
    -- a key, high digit first; however long
    (bytes "8 64 0 00", says 8 64 (Some 0) (0 ∷ [])) ∷
    (bytes "8 64 - 0a9f", says 8 64 None (10 ∷ 159 ∷ [])) ∷
    (bytes "8 64 0 " ++ replicate 128 97, says 8 64 (Some 0) (replicate 64 170)) ∷
    (bytes "8 64 0 " ++ replicate 130 97, says 8 64 (Some 0) (replicate 65 170)) ∷
    (bytes "0 64 0 " ++ replicate 400 97, says 0 64 (Some 0) (replicate 200 170)) ∷
    -- other than four fields
    ([], None) ∷
    (bytes "8", None) ∷
    (bytes "8 64", None) ∷
    (bytes "8 64 0", None) ∷
    (bytes "8 64 0 - -", None) ∷
    (bytes "8 64 0 00 00", None) ∷
    -- other than single spaces between them
    (bytes " 8 64 0 -", None) ∷
    (bytes "8 64 0 - ", None) ∷
    (bytes "8  64 0 -", None) ∷
    (bytes "8 64 0  -", None) ∷
    (bytes "8 64  -", None) ∷
    (bytes "8" ++ (9 ∷ bytes "64 0 -"), None) ∷
    (bytes "8 64 0 -" ++ (13 ∷ []), None) ∷
    (0 ∷ bytes "8 64 0 -", None) ∷
    -- no number
    (bytes "+8 64 0 -", None) ∷
    (bytes "-8 64 0 -", None) ∷
    (bytes "8 64 -0 -", None) ∷
    (bytes "8 64 0- -", None) ∷
    (bytes "8 64 -- -", None) ∷
    (bytes "- 64 0 -", None) ∷
    (bytes "8 - 0 -", None) ∷
    (bytes "a 64 0 -", None) ∷
    (bytes "8 0x40 0 -", None) ∷
    -- over five digits
    (bytes "000008 64 0 -", None) ∷
    (bytes "8 000064 0 -", None) ∷
    (bytes "8 64 000000 -", None) ∷
    (bytes "100000 64 0 -", None) ∷
    -- no key: a capital, another letter, an odd run or an empty one
    (bytes "8 64 0 AB", None) ∷
    (bytes "8 64 0 aB", None) ∷
    (bytes "8 64 0 0g", None) ∷
    (bytes "0 64 0 g0", None) ∷
    (bytes "8 64 0 a", None) ∷
    (bytes "8 64 0 abc", None) ∷
    (bytes "8 64 0 ", None) ∷
    (bytes "8 64 0 --", None) ∷
    (bytes "8 64 0 -a", None) ∷
    (bytes "8 64 0 a-", None) ∷
    (bytes "8 64 0 00-", None) ∷
    (bytes "8 64 0 " ++ replicate 131 97, None) ∷
    (bytes "8 64 0 " ++ (replicate 130 97 ++ bytes "0G"), None) ∷
    []

pub every-line : map (λ (t : List ℕ × Option Line). line_of t.0) table ≡ map (λ (t : List ℕ × Option Line). t.1) table
unfolding line_of
every-line = refl
