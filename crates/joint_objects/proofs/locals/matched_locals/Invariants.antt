use Rattle.std.proofs.Common.{◌≡◌, ◌++◌, length}
use Rattle.joint_objects.specs.Locals.{locals_from}
use Rattle.joint_objects.proofs.locals.matched_locals.Given as goal

-- the objects so far, and then those of the functions that are left
abbrev pub invariant-functions : goal.invariant-functions
invariant-functions l = l.found.items ++ locals_from l.fn.structs l.fn.pairs l.fn.theirs l.number l.left ≡ locals_from l.fn.structs l.fn.pairs l.fn.theirs 0 l.initial.left

abbrev pub decreases-functions : goal.decreases-functions
decreases-functions l = length l.left
