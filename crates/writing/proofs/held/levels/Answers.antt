-- `writing::held::levels`: by the area's word 4.
use Rattle.calls.proofs.AreaLaws.{limit-word}
use native.Mathlib.Omega.{arith}
use Rattle.writing.proofs.held.levels.Goals as goal

pub returns : goal.returns
returns c = omega (arith, c.levels.ensures, limit-word c.args.area.now)
