use Rattle.std.proofs.Common.{◌≡◌, ◌||◌, length}
use Rattle.rvt_tree.specs.declared.types.Pointee.{Pointee}
use Rattle.c_types.specs.Layout.{starts_of}
use Rattle.twin_candidates.specs.Marks.{marked, is_among}
use Rattle.twin_candidates.proofs.types.mark_starts.Given as goal

-- what is marked, and what is left to be marked
abbrev pub invariant-starts : goal.invariant-starts
invariant-starts l = (pointee : Pointee) → (is_among pointee (starts_of l.left) || marked l.marks pointee) ≡ (is_among pointee (starts_of l.initial.left) || marked l.initial.marks pointee)

abbrev pub decreases-starts : goal.decreases-starts
decreases-starts l = length l.left
