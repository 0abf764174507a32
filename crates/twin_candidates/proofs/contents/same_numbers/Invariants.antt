use Rattle.std.proofs.Common.{◌↔◌, length}
use Rattle.twin_laws.specs.Tables.{SameNumbers}
use Rattle.twin_candidates.proofs.contents.same_numbers.Given as goal

-- what is left is the same exactly where the whole is
abbrev pub invariant-values : goal.invariant-values
invariant-values l = SameNumbers l.left l.right ↔ SameNumbers l.initial.left l.initial.right

abbrev pub decreases-values : goal.decreases-values
decreases-values l = length l.left
