use Rattle.std.proofs.Common.{◌≡◌, ◌++◌, drop}
use Rattle.joint_objects.specs.Locals.{locals_among}
use Rattle.joint_objects.specs.Counts.{declared_views}
use Rattle.joint_objects.proofs.locals.add_declared.Given as goal

-- the objects so far, and then those among the declarations that are left
abbrev pub invariant-loop-number : goal.invariant-loop-number
invariant-loop-number l =
    l.found.items ++ locals_among l.fn.structs (declared_views l.fn.theirs) (declared_views (drop l.number l.fn.ours))
    ≡ l.initial.found.items ++ locals_among l.fn.structs (declared_views l.fn.theirs) (declared_views l.fn.ours)
