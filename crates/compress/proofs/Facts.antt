-- Laws: values that document 01 states of the constants and of the first step, computed from the definitions.
use Rattle.std.specs.Prelude.{◌≡◌, refl, ◌+◌, ◌*◌, ◌^◌, ◌≤◌, ◌<◌, get_or, replicate}
use Rattle.std.proofs.Common.{lit<, lit≤}
use Rattle.constants.specs.Constants.{next_s, S}
use Rattle.compress.specs.Compress.{stepped, word, grown, scaled_root}
use Rattle.compress.specs.Report.{report_step, report_word}

-- "Round 1 has S = 0x0347cace1376567e."
pub S_of_round_1 : S 1 ≡ 0x0347cace1376567e
unfolding S next_s
S_of_round_1 = refl

-- "With an all-zero window the first added word is 0x194ebb349d71471c."
pub first-added-word : get_or (grown 1 (replicate 89 0)) 89 0 ≡ 0x194ebb349d71471c
unfolding grown word stepped S
first-added-word = refl

-- and so it is by the report's lines
pub first_report_word : report_word (S 0) 89 (replicate 89 0) ≡ 0x194ebb349d71471c
unfolding report_word report_step S
first_report_word = refl

-- ".. s squared is at most 6 times 2^1920, .."
pub root_low : scaled_root * scaled_root ≤ 6 * 2 ^ 1920
root_low = lit≤ tt

-- ".. and (s + 1) squared is more"
pub root_high : 6 * 2 ^ 1920 < (scaled_root + 1) * (scaled_root + 1)
root_high = lit< tt
