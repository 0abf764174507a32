use Rattle.std.proofs.Common.{◌↔◌, length}
use Rattle.c_meaning.specs.Twins.{SameLocals}
use Rattle.twin_check.proofs.functions.same_locals.Given as goal

-- what is left is the same exactly where the whole is
abbrev pub invariant-loop-x : goal.invariant-loop-x
invariant-loop-x l = SameLocals l.fn.pairing l.left l.right ↔ SameLocals l.fn.pairing l.initial.left l.initial.right

abbrev pub decreases-loop-x : goal.decreases-loop-x
decreases-loop-x l = length l.left
