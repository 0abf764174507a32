use Rattle.std.proofs.Common.{◌≡◌, ◌++◌}
use Rattle.joint_objects.specs.Extras.{arrays_of}
use Rattle.joint_objects.proofs.arrays.add_arrays.Given as goal

abbrev pub invariant-loop-number : goal.invariant-loop-number
invariant-loop-number l = l.out.items ≡ l.initial.out.items ++ arrays_of l.fn.element l.number
