-- Examples: inputs and what is printed for them, computed from the definition; the rounds that first lines have; and what is printed by
-- the calls, with an input cut in two ways.
use Rattle.std.specs.Prelude.{Option, Some, None, ◌≡◌, refl, ℕ, replicate}
use mathlib.Core.List.{List, [], ◌∷◌, ◌++◌, map}
use Prim.Native.Char.{code}
use Prim.Native.String as string
use Prim.Native.String.{String}
use Rattle.std.proofs.Common.{arith}
use Rattle.std.proofs.lemmas.List.{length-replicate}
use Rattle.lists.specs.Below.{none as no_reads, more}
use Rattle.bits.specs.Bits.{numbers}
use Rattle.constants.specs.Constants.{S, next_s}
use Rattle.compress.specs.Compress.{stepped, word, grown, compressed}
use Rattle.tree.specs.Tree.{most_limit, key_words, output, no_chain, out_words}
use Rattle.digits.specs.Digits.{hex_digits}
use Rattle.calls.specs.Area.{area_words, params_of, levels_of, with_levels, empty_level, empty_levels, sound}
use Rattle.calls.specs.Calls.{with_bit, receive, feed_bit, feed_bits, last_above, last_nodes, open_number, opened_area, open_of, fed_bits, feed_number, fed_area, feed_of, last_nodes_of, end_number, ended_area, digest_out, end_of}
use Rattle.calls.specs.Vocabulary.{enough_words}
use Rattle.line.specs.Line.{Line, line_of}
use Rattle.line.specs.Fold.{step_of, reading_of}
use Rattle.print.specs.Print.{node_line, node_lines, digest_line}
use Rattle.program.specs.Printed.{refused_line, refused_number, params_for, hashed, printed}
use Rattle.program.specs.Steps.{fed_step, opened_step, take_of, ended_step, last_of, start_of, written}
use Rattle.program.specs.WholeInput.{Input}

-- the bytes of a text in ASCII, and of a line
abbrev bytes : String → List ℕ
bytes string.[] = []
bytes (string.◌∷◌ c s) = code c ∷ bytes s

abbrev ln : String → List ℕ
ln s = bytes s ++ (10 ∷ [])

-- a key of 65 bytes
abbrev long_key : List ℕ
long_key = replicate 130 97 ++ (10 ∷ [])

-- each input and what is printed for it
abbrev table : List (List ℕ × List ℕ)
table =
    -- the example of document 01
    (ln "8 64 0 -", ln "0100000000000000 0000401100000008" ++ ln "00")
    -- no first line, or an unreadable one, which is tested before any number
    ∷ ([], ln "refused line")
    ∷ (bytes "8 64 0 -", ln "refused line")
    ∷ (10 ∷ [], ln "refused line")
    ∷ (10 ∷ ln "8 64 0 -", ln "refused line")
    ∷ (ln "000008 64 0 -", ln "refused line")
    ∷ (ln "8 64 0 abc", ln "refused line")
    ∷ (ln "0 65 4096 a", ln "refused line")
    -- refusals, and which of two comes first; a message behind them is not looked at
    ∷ (ln "0 64 - -", ln "refused 1")
    ∷ (ln "513 64 - -", ln "refused 1")
    ∷ (bytes "8 64 0 " ++ long_key, ln "refused 2")
    ∷ (bytes "128 64 - " ++ long_key, ln "refused 2")
    ∷ (bytes "0 64 - " ++ long_key, ln "refused 1")
    ∷ (ln "8 65 0 -" ++ bytes "abc", ln "refused 3")
    ∷ (ln "8 64 4096 -", ln "refused 4")
    ∷ (bytes "0 65 4096 " ++ long_key, ln "refused 1")
    ∷ (bytes "8 65 4096 " ++ long_key, ln "refused 2")
    ∷ (ln "8 65 4096 -", ln "refused 3")
    -- leading zeros, and a key of one byte: V has its length
    ∷ (ln "00008 064 00 00", ln "0100000000000000 0000401100001008" ++ ln "00")
    -- the same with a round, which is used as given; the digest is the second program's
    ∷ (ln "8 64 1 00", ln "0100000000000000 0001401100001008" ++ ln "53")
    -- messages; "r = 0 gives C = the last 16 words of B", so the digest is the block's last bits; a further byte 10 is the message's
    ∷ (ln "8 64 0 -" ++ bytes "abc", ln "0100000000000000 00004010fe800008" ++ ln "00")
    ∷ (ln "8 64 0 -" ++ ln "abc", ln "0100000000000000 00004010fe000008" ++ ln "00")
    ∷ (ln "8 0 0 -" ++ bytes "abc", ln "0100000000000000 00000010be800008" ++ ln "00")
    ∷ (ln "12 64 0 -" ++ (replicate 511 97 ++ bytes "b"), ln "0100000000000000 000040100000000c" ++ ln "1620")
    ∷ (
      ln "8 64 0 -" ++ (replicate 512 97 ++ bytes "b"),
      ln "0100000000000000 0000400000000008" ++ (ln "0100000000000001 00004000ff800008" ++ (ln "0200000000000000 0000401080000008" ++ ln "00")),
    )
    ∷ []

pub every-input : map (λ (t : List ℕ × List ℕ). printed t.0) table ≡ map (λ (t : List ℕ × List ℕ). t.1) table
unfolding printed line_of refused_line refused_number hashed node_line digest_line hex_digits numbers key_words output no_chain compressed grown word stepped S next_s mathlib.Core.List.flatten
every-input = refl

-- first lines and the rounds of their streams: "r may be - for the default", which is 40 + d/4, rounded down, without a key, and
-- "the larger of 80 and 40 + d/4 if the key has any byte"; given rounds "are used as given"
abbrev lines : List (String × ℕ)
lines =
    ("1 64 - -", 40)
    ∷ ("128 64 - -", 72)
    ∷ ("159 64 - -", 79)
    ∷ ("255 64 - -", 103)
    ∷ ("512 64 - -", 168)
    ∷ ("1 64 - 00", 80)
    ∷ ("128 64 - 00", 80)
    ∷ ("159 64 - 00", 80)
    ∷ ("164 64 - 00", 81)
    ∷ ("256 64 - 00ff", 104)
    ∷ ("512 64 - 00", 168)
    ∷ ("128 64 79 00", 79)
    ∷ ("128 64 0 00", 0)
    ∷ []

abbrev rounds_said : Option Line → Option ℕ
rounds_said None = None
rounds_said (Some l) = Some (params_for l).rounds

pub line-rounds : map (λ (t : String × ℕ). rounds_said (line_of (bytes t.0))) lines ≡ map (λ (t : String × ℕ). Some t.1) lines
unfolding line_of
line-rounds = refl

-- ---- by the calls

-- an area with something in it
abbrev used : List ℕ
used = replicate (area_words most_limit) 7

-- inputs cut into reads: byte 10 as the last byte of a read, and as the first; the line and the message cut; an empty read; a refusal
abbrev cuts : List (List (List ℕ) × List ℕ)
cuts =
    (ln "8 64 0 -" ∷ bytes "abc" ∷ [], ln "0100000000000000 00004010fe800008" ++ ln "00")
    ∷ (bytes "8 6" ∷ bytes "4 0 -" ∷ (10 ∷ bytes "a") ∷ [] ∷ bytes "bc" ∷ [], ln "0100000000000000 00004010fe800008" ++ ln "00")
    ∷ (bytes "8 65 " ∷ ln "0 -" ∷ ln "8 64 0 -" ∷ [], ln "refused 3")
    ∷ ([] ∷ bytes "8 64 0" ∷ bytes " -" ∷ [], ln "refused line")
    ∷ ([], ln "refused line")
    ∷ []

pub every-cut : map (λ (t : List (List ℕ) × List ℕ). written start_of used t.0) cuts ≡ map (λ (t : List (List ℕ) × List ℕ). t.1) cuts
unfolding written take_of last_of fed_step opened_step ended_step step_of reading_of refused_line refused_number node_line node_lines digest_line hex_digits enough_words numbers key_words output no_chain compressed grown params_of levels_of with_levels empty_level empty_levels sound with_bit out_words receive feed_bit feed_bits last_above last_nodes open_number opened_area open_of fed_bits feed_number fed_area feed_of last_nodes_of end_number ended_area digest_out end_of mathlib.Core.List.flatten
every-cut = refl

-- the theorem's hypotheses hold of such an area and such reads
pub input_met : Input used (ln "8 64 0 -" ∷ bytes "abc" ∷ [])
unfolding mathlib.Core.List.flatten
input_met =
    record { long = rw (length-replicate {A = ℕ} (area_words most_limit) 7) (omega arith); short = more {w = 9} (omega arith) (more {w = 3} (omega arith) no_reads); few = omega arith }
