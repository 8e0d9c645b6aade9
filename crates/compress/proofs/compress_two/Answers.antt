-- `compress_two` meets its contract: each lane of the buffer begins with its window, and the rounds keep the last 89 words of the
-- report's array before `at`.
use mathlib.Core.Path.{◌≡◌, ap, ◌∙◌}
use Prim.Native.Nat.{◌*◌}
use native.Mathlib.Omega.{arith}
use lib.ListN.{length, replicate}
use borrow.Author.Rules.{rules}
use Rattle.compress.specs.Buffer.{before, after, lane}
use Rattle.compress.proofs.Laws.{loaded, last-words}
use Rattle.compress.proofs.compress_two.Goals as goal

pub returns : goal.returns
returns c =
    let N = c.args.one.now in
    let O = c.args.other.now in
    let size-N : length N ≡ 89 = search rules in
    let size-O : length O ≡ 89 = search rules in
    let at = c.all_rounds.new.self.at in
    let a = c.all_rounds.new.self.words in
    let advance = c.all_rounds.ensures in
    let front : c.put_window-2.new.self.at ≡ 89 = c.put_window-2.ensures.2 ∙ c.put_window.ensures.2 in
    let window-N : before 89 (lane 2 0 c.put_window-2.new.self.words) ≡ after (16 * 0) N =
    ap (before 89) (c.put_window-2.ensures.1 0 (omega arith) (omega arith) ∙ c.put_window.ensures.0)
    ∙ loaded (lane 2 0 (replicate 690 0)) N size-N in
    let window-O : before 89 (lane 2 1 c.put_window-2.new.self.words) ≡ after (16 * 0) O =
    ap (before 89) c.put_window-2.ensures.0 ∙ loaded (lane 2 1 c.put_window.new.self.words) O size-O in (
      c.output.ensures
          ∙ last-words N (lane 2 0 a) at c.args.rounds (omega arith) (advance.rule 0 (omega arith) N size-N (rw front window-N)),
      c.output-2.ensures ∙ last-words O (lane 2 1 a) at c.args.rounds (omega arith) (advance.rule 1 (omega arith) O size-O (rw front window-O)),
    )
