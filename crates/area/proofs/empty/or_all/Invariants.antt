-- `area::empty::or_all` meets its contract.
use Rattle.std.proofs.Common.{◌≡◌, ◌&&◌, eqb, drop}
use Rattle.calls.proofs.SoundParts.{empty_from}
use Rattle.area.proofs.empty.or_all.Given as goal

abbrev pub invariant-loop-word : goal.invariant-loop-word
invariant-loop-word l = (eqb l.all 0 && empty_from 0 (drop l.word-index l.words)) ≡ empty_from 0 l.words
