-- `digits::put_words` writes the digits of words, 16 at a time.
use Rattle.std.proofs.Common.{◌≡◌, ◌*◌, ◌++◌, take, drop}
use Rattle.digits.specs.Digits.{word_digits}
use Rattle.digits.proofs.put_words.Given as goal

abbrev pub invariant-loop-i : goal.invariant-loop-i
invariant-loop-i l = l.part ≡ word_digits (take l.i l.words) ++ drop (16 * l.i) l.initial.part
