-- Definitions: bits, bytes and words. Document 01, first paragraph: "Words are 64 bits; bytes go into words high byte first and bits into
-- bytes high bit first."
use Rattle.std.specs.Prelude.{Bool, true, false, List, [], ◌∷◌, ◌++◌, ℕ, zero, suc, ◌+◌, ◌*◌, ◌/◌, ◌%◌, ◌^◌, eqb, length, take, drop}
use Rattle.std.proofs.Math.Seq.{paste}

-- a bit as a number
abbrev pub digit : Bool → ℕ
digit true = 1
digit false = 0

-- the low k bits of n, high bit first
abbrev pub bits : ℕ → ℕ → List Bool
bits zero n = []
bits (suc k) n = eqb (n / 2 ^ k % 2) 1 ∷ bits k n

-- the bits of numbers of k bits each, joined: k is 8 for bytes and 64 for words
abbrev pub bits_of : ℕ → List ℕ → List Bool
bits_of k [] = []
bits_of k (w ∷ ws) = bits k w ++ bits_of k ws

-- the number that bits spell, after bits that spelt n
abbrev pub spell : ℕ → List Bool → ℕ
spell n [] = n
spell n (b ∷ bs) = spell (n * 2 + digit b) bs

-- the first n numbers of k bits each that a list of bits spells
unfoldable pub numbers : ℕ → ℕ → List Bool → List ℕ
numbers k zero bs = []
numbers k (suc n) bs = spell 0 (take k bs) ∷ numbers k n (drop k bs)

-- the words of a block after `count` bits, from bit `start` of the bytes on, were copied to its bits from `at` on;
-- `paste` puts the first `count` of a list into the place of as many others from `at` on
unfoldable pub filled : List ℕ → ℕ → List ℕ → ℕ → ℕ → List ℕ
filled block at bytes start count = numbers 64 (length block) (paste (bits_of 64 block) at (drop start (bits_of 8 bytes)) count)
