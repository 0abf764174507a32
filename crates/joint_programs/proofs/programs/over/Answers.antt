use Rattle.std.proofs.Common.{ℕ, List, map, ap, ◌∙◌}
use Rattle.object_numbers.specs.NumberedObjects.{FunctionParts, parts, renumbered}
use Rattle.joint_programs.specs.Parts.{struct_parts, object_parts}
use Rattle.joint_programs.proofs.Frames.{with_functions}
use Rattle.joint_programs.proofs.programs.over.Goals as goal

pub returns : goal.returns
returns c =
    ap (λ (functions : List FunctionParts). with_functions (map struct_parts c.args.frame.structs.list) functions (map object_parts c.args.frame.table.objects)) (c.in_ok-functions.ensures ∙ ap (λ (numbers : List ℕ). map (λ f. renumbered numbers (parts f)) c.args.functions) c.as_slice.ensures.value)
