use Rattle.std.proofs.Common.{◌≡◌, ◌++◌, map, length}
use Rattle.typing_base.specs.NoteViews.{local_view}
use Rattle.file_state.proofs.copies.copied_interface.Given as goal

abbrev pub invariant-params : goal.invariant-params
invariant-params l = record {
  whole : map local_view l.interface.params.items ≡ map local_view l.params.items ++ map local_view l.rest;
}

abbrev pub decreases-params : goal.decreases-params
decreases-params l = length l.rest
