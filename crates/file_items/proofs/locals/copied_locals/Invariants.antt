use Rattle.std.proofs.Common.{◌≡◌, ◌++◌, map, length}
use Rattle.typing_base.specs.NoteViews.{local_view}
use Rattle.file_items.proofs.locals.copied_locals.Given as goal

abbrev pub invariant-locals : goal.invariant-locals
invariant-locals l = record {
  whole : map local_view l.fn.locals ≡ map local_view l.copies.items ++ map local_view l.rest;
}

abbrev pub decreases-locals : goal.decreases-locals
decreases-locals l = length l.rest
