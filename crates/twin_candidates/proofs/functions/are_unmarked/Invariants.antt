use Rattle.std.proofs.Common.{◌≡◌, ◌↔◌, All, false, length}
use Rattle.rvt_tree.specs.declared.types.Pointee.{Pointee}
use Rattle.twin_candidates.specs.Marks.{marked}
use Rattle.twin_candidates.proofs.functions.are_unmarked.Given as goal

-- what is left is unmarked exactly where the whole is
abbrev pub invariant-pointees : goal.invariant-pointees
invariant-pointees l = All (λ (pointee : Pointee). marked l.marks pointee ≡ false) l.left ↔ All (λ (pointee : Pointee). marked l.marks pointee ≡ false) l.initial.left

abbrev pub decreases-pointees : goal.decreases-pointees
decreases-pointees l = length l.left
