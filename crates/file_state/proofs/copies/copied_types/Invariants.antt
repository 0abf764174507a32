use Rattle.std.proofs.Common.{◌≡◌, ◌++◌, map, length}
use Rattle.c_types.specs.Layout.{shape_of}
use Rattle.file_typing.specs.FunctionDeclarators.{shapes_of}
use Rattle.typing_base.specs.NoteViews.{local_view}
use Rattle.file_state.proofs.copies.copied_types.Given as goal

abbrev pub invariant-params : goal.invariant-params
invariant-params l = record {
  whole : shapes_of (map local_view l.fn.params) ≡ map shape_of l.copies.items ++ shapes_of (map local_view l.rest);
}

abbrev pub decreases-params : goal.decreases-params
decreases-params l = length l.rest
