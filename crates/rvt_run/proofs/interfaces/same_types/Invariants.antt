use Rattle.std.proofs.Common.{◌↔◌, length}
use Rattle.rvt_run.specs.Pairs.{SameTypes}
use Rattle.rvt_run.proofs.interfaces.same_types.Given as goal

-- what is left is the same exactly where the whole is
abbrev pub invariant-loop-x : goal.invariant-loop-x
invariant-loop-x l = SameTypes l.fn.pairing l.left l.right ↔ SameTypes l.fn.pairing l.initial.left l.initial.right

abbrev pub decreases-loop-x : goal.decreases-loop-x
decreases-loop-x l = length l.left
