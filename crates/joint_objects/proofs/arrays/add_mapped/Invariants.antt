use Rattle.std.proofs.Common.{◌≡◌, ◌++◌}
use Rattle.joint_objects.specs.JointObjects.{mapped_arrays}
use Rattle.joint_objects.proofs.arrays.add_mapped.Given as goal

abbrev pub invariant-loop-number : goal.invariant-loop-number
invariant-loop-number l = l.out.items ≡ l.initial.out.items ++ mapped_arrays l.number
