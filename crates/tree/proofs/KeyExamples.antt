-- Examples: reels with a key, trees of three nodes with rounds, and a digest of 20 bits, by computing. They pin the order of the key's
-- bytes in K, the count of key bytes in V, the outputs that go from node to node, and which bits of the root are the digest.
use Rattle.std.specs.Prelude.{◌≡◌, refl, Bool, ℕ, take, get_or, replicate}
use mathlib.Core.List.{List, [], ◌∷◌, map, flatten}
use Rattle.bits.specs.Bits.{bits_of, numbers}
use Rattle.constants.specs.Constants.{S, next_s}
use Rattle.compress.specs.Compress.{stepped, word, grown, compressed}
use Rattle.tree.specs.Tree.{Params, Mark, key_words, output, no_chain, digest, order}

-- U and V of the nodes, in their order
abbrev logged_uv : Params → List Bool → List (ℕ × ℕ)
logged_uv P M = map (λ (m : Mark). (m.node.u, m.node.v)) (order P M)

-- ---- a key of nine bytes, 01 to 09, and the message "abc", with d = 256

abbrev pub nine : ℕ → Params
nine r = record { key = 1 ∷ 2 ∷ 3 ∷ 4 ∷ 5 ∷ 6 ∷ 7 ∷ 8 ∷ 9 ∷ []; d = 256; limit = 64; rounds = r }

abbrev pub abc : List Bool
abc = bits_of 8 (0x61 ∷ 0x62 ∷ 0x63 ∷ [])

-- K by hand: "bytes go into words high byte first", "K is the key followed by zero bytes"
pub nine-k : map (λ (m : Mark). m.node.k) (order (nine 0) abc) ≡ (0x0102030405060708 ∷ 0x0900000000000000 ∷ replicate 6 0) ∷ []
unfolding numbers key_words flatten
nine-k = refl

-- U, V and the digest as tests/second/md6ref prints them for r = 0 and r = 1
pub nine-zero : (logged_uv (nine 0) abc ≡ (0x0100000000000000, 0x00004010fe809100) ∷ []) × (digest (nine 0) abc ≡ replicate 32 0)
unfolding numbers key_words output compressed grown flatten
nine-zero = (refl, refl)

pub nine-one : (logged_uv (nine 1) abc ≡ (0x0100000000000000, 0x00014010fe809100) ∷ [])
    × (digest (nine 1) abc ≡ numbers 8 32 (bits_of 64 (0x9ea7a2d571275633 ∷ 0x7e99d0316f65addd ∷ 0x72f2b2f2fd1fe6ec ∷ 0x42a9aba2c095763b ∷ [])))
unfolding numbers key_words output compressed grown word stepped S next_s flatten
nine-one = (refl, refl)

-- ---- the report's second example (C.2): 600 bytes 11 22 33 44 55 66 77 11 .., the key "abcde12345", d = 224, r = 5

-- the first n of those bytes
abbrev pub repeated : ℕ → List Bool
repeated n = bits_of 8 (take n (flatten (replicate n (0x11 ∷ 0x22 ∷ 0x33 ∷ 0x44 ∷ 0x55 ∷ 0x66 ∷ 0x77 ∷ []))))

abbrev pub second : Params
second = record { key = 0x61 ∷ 0x62 ∷ 0x63 ∷ 0x64 ∷ 0x65 ∷ 0x31 ∷ 0x32 ∷ 0x33 ∷ 0x34 ∷ 0x35 ∷ []; d = 224; limit = 64; rounds = 5 }

-- K, and U and V of its three nodes, as the report prints them
pub second-k : key_words second.key ≡ 0x6162636465313233 ∷ 0x3435000000000000 ∷ replicate 6 0
unfolding numbers key_words
second-k = refl

pub second-log : logged_uv second (repeated 600)
    ≡ (0x0100000000000000, 0x000540000000a0e0) ∷ (0x0100000000000001, 0x00054000d400a0e0) ∷ (0x0200000000000000, 0x000540108000a0e0) ∷ []
unfolding numbers key_words output compressed grown word stepped S next_s flatten
second-log = refl

pub second-example : digest second (repeated 600)
    ≡ numbers 8 28 (bits_of 32 (0x894cf059 ∷ 0x8ad3288e ∷ 0xd4bb5ac5 ∷ 0xdf23eba0 ∷ 0xac388a11 ∷ 0xb7ed2e3d ∷ 0xd5ec5131 ∷ []))
unfolding numbers key_words output compressed grown word stepped S next_s flatten
second-example = refl

-- ---- the message of the report's third example (C.3, 800 such bytes, L = 0, no key, d = 256), with 5 rounds in place of 104: three
-- nodes, each after the first with the output before it. The digest is the one that tests/second/md6ref prints.

pub third-message : digest (record { key = []; d = 256; limit = 0; rounds = 5 }) (repeated 800)
    ≡ numbers 8 32 (bits_of 64 (0x94b37cbe1681e638 ∷ 0x412774ed183cb994 ∷ 0x975764dd22350bc1 ∷ 0x3abdae6b131dc010 ∷ []))
unfolding numbers key_words output no_chain compressed grown word stepped S next_s flatten
third-message = refl

-- With r = 0, where C is the last 16 words of B, the first word of each node's block by hand: zero for the first node, then the words
-- that stand 32 words into the 48 of the node before, which are bytes 256 to 263 and 640 to 647 of the message.
pub chained-words : map (λ (m : Mark). get_or m.node.block 0 0) (order (record { key = []; d = 256; limit = 0; rounds = 0 }) (repeated 800))
    ≡ 0 ∷ 0x5566771122334455 ∷ 0x4455667711223344 ∷ []
unfolding numbers key_words output no_chain compressed grown flatten
chained-words = refl

-- ---- one full block of such bytes, which ends in 66 77 11: "r = 0 gives C = the last 16 words of B", of which d = 20 takes the last
-- 20 bits, the first of them in a high bit. By hand, and as tests/second/md6ref prints it.

pub last-bits : digest (record { key = []; d = 20; limit = 64; rounds = 0 }) (repeated 512) ≡ 0x67 ∷ 0x71 ∷ 0x10 ∷ []
unfolding numbers key_words output compressed grown flatten
last-bits = refl
