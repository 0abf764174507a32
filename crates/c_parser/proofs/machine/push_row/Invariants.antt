use Rattle.std.proofs.Common.{◌≡◌, ◌≤◌, ◌++◌, length, drop}
use Rattle.c_parser.proofs.machine.push_row.Given as goal

abbrev pub invariant-loop-left : goal.invariant-loop-left
invariant-loop-left g l = (l.left ≤ length l.row) × (l.stack ≡ drop l.left l.row ++ l.initial.stack)

abbrev pub decreases-loop-left : goal.decreases-loop-left
decreases-loop-left g l = l.left
