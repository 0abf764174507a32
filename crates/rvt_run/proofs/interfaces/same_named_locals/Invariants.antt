use Rattle.std.proofs.Common.{◌↔◌, length}
use Rattle.rvt_run.specs.Pairs.{SameNamedLocals}
use Rattle.rvt_run.proofs.interfaces.same_named_locals.Given as goal

-- what is left is the same exactly where the whole is
abbrev pub invariant-locals : goal.invariant-locals
invariant-locals l = SameNamedLocals l.pairing l.f l.g l.left l.right ↔ SameNamedLocals l.pairing l.f l.g l.initial.left l.initial.right

abbrev pub decreases-locals : goal.decreases-locals
decreases-locals l = length l.left
