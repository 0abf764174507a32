use Rattle.std.proofs.Common.{◌≡◌, map, length}
use Rattle.c_types.specs.Layout.{shape_of}
use Rattle.file_typing.specs.FunctionDeclarators.{same_shapes, shapes_of}
use Rattle.typing_base.specs.NoteViews.{local_view}
use Rattle.file_state.proofs.comparisons.same_types.Given as goal

abbrev pub invariant-params : goal.invariant-params
invariant-params l = record {
  same : same_shapes (map shape_of l.fn.types) (shapes_of (map local_view l.fn.params)) ≡ same_shapes (map shape_of l.types) (shapes_of (map local_view l.params));
}

abbrev pub decreases-params : goal.decreases-params
decreases-params l = length l.types
