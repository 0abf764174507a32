use Rattle.std.proofs.Common.{◌≡◌, ◌++◌, ◌+◌, map, length}
use Rattle.joint_programs.specs.Parts.{object_parts}
use Rattle.joint_programs.specs.Views.{view_of}
use Rattle.joint_programs.specs.Objects.{joint_object}
use Rattle.joint_programs.specs.Faults.{limit, cells_of}
use Rattle.joint_programs.proofs.tables.joint_objects.Given as goal

-- those that are made and those that are left, and the room for the cells that are left
abbrev pub invariant-table : goal.invariant-table
invariant-table l =
    (map object_parts l.objects.items ++ map (joint_object (view_of l.fn.side) l.fn.added) l.left ≡ map (joint_object (view_of l.fn.side) l.fn.added) l.initial.left)
    × (cells_of (map object_parts l.objects.items) + l.room ≡ limit)

abbrev pub decreases-table : goal.decreases-table
decreases-table l = length l.left
