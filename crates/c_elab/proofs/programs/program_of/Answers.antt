use Rattle.std.proofs.Common.{map, ap, ◌∙◌}
use Rattle.std.proofs.lemmas.List.{length-map}
use Rattle.file_state.specs.Views.{file_state_view}
use Rattle.file_typing.specs.Programs.{object_view}
use Rattle.c_elab.proofs.Wholes.{whole_program}
use Rattle.c_elab.proofs.programs.program_of.Goals as goal

pub returns : goal.returns
returns c =
    let functions = c.deref.ensures.value in
    let structs = c.deref-2.ensures.value in
    let flagged = rw functions at c.in_ok-objects.ensures in
    let made = rw (structs, ← length-map c.in_ok-objects.objects.items object_view) at c.in_ok-functions.ensures.functions in
    let objects = rw structs at c.in_ok-functions.ensures.objects in
    whole_program (file_state_view c.args.state) _ _ _ _ c.in_ok-list.ensures flagged made (ap (map object_view) c.from_vec.ensures ∙ objects)
