use Rattle.std.proofs.Common.{◌≡◌, ◌++◌, map, length}
use Rattle.joint_programs.specs.Parts.{struct_parts}
use Rattle.joint_programs.specs.Views.{view_of}
use Rattle.joint_programs.specs.Structs.{number_across, struct_across}
use Rattle.joint_programs.proofs.structs.push_theirs.Given as goal

abbrev pub invariant-structs : goal.invariant-structs
invariant-structs l =
    map struct_parts l.list.items ++ map (λ s. struct_across (number_across (view_of l.fn.side)) (struct_parts s)) l.left
    ≡ map struct_parts l.initial.list.items ++ map (λ s. struct_across (number_across (view_of l.fn.side)) (struct_parts s)) l.initial.left

abbrev pub decreases-structs : goal.decreases-structs
decreases-structs l = length l.left
