-- Definitions: what the program prints. Document 01, "Program": "It prints a line "U V" of 16 digits each for every node, then the digest,
-- each line ended by byte 10". A text is a list of bytes.
use mathlib.Core.List.{List, [], ◌∷◌, ◌++◌, map, flatten}
use Rattle.std.specs.Prelude.{ℕ, zero, suc, drop, get_or}
use Rattle.digits.specs.Digits.{hex_digits, line}

-- "U V", with a space (byte 32) between them
unfoldable pub node_line : ℕ → ℕ → List ℕ
node_line u v = line (hex_digits 16 u ++ (32 ∷ hex_digits 16 v))

-- the bytes of a node's line
abbrev pub line_bytes : ℕ
line_bytes = 34

-- the lines of the first n nodes of a log, which has U and V of each
unfoldable pub node_lines : ℕ → List ℕ → List ℕ
node_lines zero log = []
node_lines (suc n) log = node_line (get_or log 0 0) (get_or log 1 0) ++ node_lines n (drop 2 log)

-- two digits a byte
abbrev pub byte_digits : List ℕ → List ℕ
byte_digits bytes = flatten (map (hex_digits 2) bytes)

-- the line of a digest
unfoldable pub digest_line : List ℕ → List ℕ
digest_line digest = line (byte_digits digest)
