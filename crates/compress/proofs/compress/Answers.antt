-- `compress` meets its contract: the only lane of the buffer begins with the window, and the rounds keep the last 89 words of the
-- report's array before `at`.
use mathlib.Core.Path.{◌≡◌, ap, ◌∙◌}
use Prim.Native.Nat.{◌*◌}
use native.Mathlib.Omega.{arith}
use lib.ListN.{length, replicate}
use borrow.Author.Rules.{rules}
use Rattle.compress.specs.Buffer.{before, after, lane}
use Rattle.compress.proofs.Laws.{loaded, last-words}
use Rattle.compress.proofs.compress.Goals as goal

pub returns : goal.returns
returns c =
    let N = c.args.window.now in
    let size : length N ≡ 89 = search rules in
    let window : before 89 (lane 1 0 c.put_window.new.self.words) ≡ after (16 * 0) N =
    ap (before 89) c.put_window.ensures.0 ∙ loaded (lane 1 0 (replicate 345 0)) N size in
    let at = c.all_rounds.new.self.at in
    let a = c.all_rounds.new.self.words in
    c.output.ensures
    ∙ last-words N (lane 1 0 a) at c.args.rounds (omega arith) (c.all_rounds.ensures.rule 0 (omega arith) N size (rw c.put_window.ensures.2 window))
