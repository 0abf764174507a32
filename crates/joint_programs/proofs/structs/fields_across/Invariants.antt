use Rattle.std.proofs.Common.{◌≡◌, ◌++◌, map, length}
use Rattle.joint_programs.specs.Parts.{field_parts}
use Rattle.joint_programs.specs.Views.{view_of}
use Rattle.joint_programs.specs.Structs.{number_across, field_across}
use Rattle.joint_programs.proofs.structs.fields_across.Given as goal

abbrev pub invariant-fields : goal.invariant-fields
invariant-fields l =
    map field_parts l.copies.items ++ map (field_across (number_across (view_of l.fn.side))) (map field_parts l.left)
    ≡ map (field_across (number_across (view_of l.fn.side))) (map field_parts l.initial.left)

abbrev pub decreases-fields : goal.decreases-fields
decreases-fields l = length l.left
