use Rattle.std.proofs.Common.{◌≡◌, ◌++◌, map, length}
use Rattle.std.specs.Vec.Iter.{into_iter_items}
use Rattle.file_typing.specs.Elaboration.{locals_from}
use Rattle.file_typing.specs.Programs as p
use Rattle.local_objects.specs.ObjectTables.{object_at}
use Rattle.typing_base.specs.NoteViews.{local_view}
use Rattle.c_elab.proofs.functions.locals_from.Given as goal

abbrev pub invariant-locals : goal.invariant-locals
invariant-locals l = record {
  whole : map p.local_view l.made.items ++ locals_from (object_at l.objects) (length l.made.items) (map local_view (into_iter_items l.local-iterator))
      ≡ locals_from (object_at l.objects) 0 (map local_view l.fn.locals.items);
}
