-- `stream::log_words` meets its contract: one equation for every area and bit count.
use native.Mathlib.Omega.{arith}
use mathlib.Core.Path.{sym}
use Rattle.calls.proofs.CallLaws.{log_words-passed}
use Rattle.numbers.specs.NumberLaws.{words-fit}
use Rattle.stream.proofs.log_words.Goals as goal

pub overflow_mul-result : goal.overflow_mul-result
overflow_mul-result c =
    omega (arith, c.nodes_made.ensures, words-fit (log_words-passed c.args.area.now c.args.bits (sym c.in_ok-check_log_words.ensures)))
