-- Examples: the report's first example, Appendix C.1: "abc" as one node with r = 5 and d = 256, computed from the definition.
use Rattle.std.specs.Prelude.{◌≡◌, refl, List, [], ◌∷◌, ℕ, replicate}
use Rattle.constants.specs.Constants.{next_s, S}
use Rattle.compress.specs.Compress.{stepped, word, grown, compressed, window_of}

-- A[0] to A[88]: no key; U of level 1 and index 0; V with r = 5, L = 64, z = 1, p = 4072, no key bytes, d = 256; and the block
abbrev pub abc : List ℕ
abc = window_of (replicate 8 0) 0x0100000000000000 0x00054010fe800100 (0x6162630000000000 ∷ replicate 63 0)

-- A[153] to A[168], "output chaining value C[0]" to "C[15]"
pub first-example : compressed 5 abc
    ≡ 0x2d1abe0601b2e6b0 ∷ 0x61d59fd2b7310353 ∷ 0xea7da28dec708ec7 ∷ 0xa63a99a574e40155 ∷ 0x290b4fabe80104c4
    ∷ 0x8c6a3503cf881a99 ∷ 0xe370e23d1b700cc5 ∷ 0x4492e78e3fe42f13 ∷ 0xdf6c91b7eaf3f088 ∷ 0xaab3e19a8f63b80a
    ∷ 0xd987bdcbda2e934f ∷ 0xaeae805de12b0d24 ∷ 0x8854c14dc284f840 ∷ 0xed71ad7ba542855c ∷ 0xe189633e48c797a5 ∷ 0x5121a746be48cec8 ∷ []
unfolding compressed grown word stepped S next_s
first-example = refl
