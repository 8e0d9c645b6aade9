-- `print::put_nodes` puts the lines of nodes, one after the other.
use Rattle.std.proofs.Common.{◌≡◌, ◌*◌, ◌++◌, drop}
use Rattle.print.specs.Print.{line_bytes, node_lines}
use Rattle.print.proofs.put_nodes.Given as goal

abbrev pub invariant-loop-i : goal.invariant-loop-i
invariant-loop-i l = l.text ≡ node_lines l.i l.log ++ drop (line_bytes * l.i) l.initial.text
