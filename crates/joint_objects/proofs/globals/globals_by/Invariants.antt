use Rattle.std.proofs.Common.{◌≡◌, ◌++◌, length}
use Rattle.joint_objects.specs.Names.{pair_views}
use Rattle.joint_objects.specs.Globals.{globals_from}
use Rattle.joint_objects.proofs.globals.globals_by.Given as goal

-- the globals so far, and then those that are left
abbrev pub invariant-objects : goal.invariant-objects
invariant-objects l =
    l.found.items ++ globals_from l.fn.structs (pair_views l.fn.listed) l.fn.theirs l.number l.left ≡ globals_from l.fn.structs (pair_views l.fn.listed) l.fn.theirs 0 l.initial.left

abbrev pub decreases-objects : goal.decreases-objects
decreases-objects l = length l.left
