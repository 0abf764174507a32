use Rattle.std.proofs.Common.{◌≡◌, ◌++◌, List, length}
use Rattle.std.specs.List.{flat_map}
use Rattle.rvt_tree.specs.declared.programs.Function.{Function}
use Rattle.joint_objects.specs.Extras.{arrays_of_kind}
use Rattle.joint_objects.specs.Tallies.{AreMost}
use Rattle.joint_objects.proofs.arrays.add_arrays_of_kinds.Given as goal

abbrev pub invariant-kinds : goal.invariant-kinds
invariant-kinds l =
    (f g : List Function) → AreMost f l.fn.old → AreMost g l.fn.new →
    l.out.items ++ flat_map (arrays_of_kind f g) l.left ≡ l.initial.out.items ++ flat_map (arrays_of_kind f g) l.initial.left

abbrev pub decreases-kinds : goal.decreases-kinds
decreases-kinds l = length l.left
