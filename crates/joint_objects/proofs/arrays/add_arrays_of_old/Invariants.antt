use Rattle.std.proofs.Common.{◌≡◌, ◌++◌, List, length}
use Rattle.rvt_tree.specs.declared.programs.Function.{Function}
use Rattle.joint_objects.specs.Extras.{arrays_of_old_structs}
use Rattle.joint_objects.specs.Tallies.{AreMost}
use Rattle.joint_objects.proofs.arrays.add_arrays_of_old.Given as goal

abbrev pub invariant-structs : goal.invariant-structs
invariant-structs l =
    (f g : List Function) → AreMost f l.fn.old → AreMost g l.fn.new →
    l.out.items ++ arrays_of_old_structs f g l.fn.partners l.number l.left ≡ l.initial.out.items ++ arrays_of_old_structs f g l.fn.partners 0 l.initial.left

abbrev pub decreases-structs : goal.decreases-structs
decreases-structs l = length l.left
