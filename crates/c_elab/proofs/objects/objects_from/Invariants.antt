use Rattle.std.proofs.Common.{◌≡◌, ◌++◌, map, length}
use Rattle.file_state.specs.Views.{body_view, struct_entry_view}
use Rattle.file_typing.specs.Elaboration.{objects_from}
use Rattle.file_typing.specs.Programs.{object_view}
use Rattle.typing_base.specs.NoteViews.{local_view}
use Rattle.c_elab.proofs.objects.objects_from.Given as goal

abbrev pub invariant-locals : goal.invariant-locals
invariant-locals l = record {
  whole : map object_view l.objects.items ++ objects_from (map struct_entry_view l.structs) l.owner (body_view l.body) l.number (map local_view l.rest)
      ≡ map object_view l.initial.objects.items ++ objects_from (map struct_entry_view l.structs) l.owner (body_view l.body) 0 (map local_view l.body.locals.items);
}

abbrev pub decreases-locals : goal.decreases-locals
decreases-locals l = length l.rest
