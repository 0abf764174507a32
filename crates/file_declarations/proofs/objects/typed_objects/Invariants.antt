use Rattle.std.proofs.Common.{◌≡◌, map, length}
use Rattle.c_syntax.specs.Views.{init_view}
use Rattle.file_typing.specs.Objects.{typed_objects}
use Rattle.typing_base.specs.Views.{notes_view, qualified_view}
use Rattle.file_state.specs.Indexes.{IsIndexed}
use Rattle.file_state.specs.Views.{file_state_view}
use Rattle.file_declarations.proofs.objects.typed_objects.Given as goal

abbrev pub invariant-objects : goal.invariant-objects
invariant-objects l = record {
  indexed : IsIndexed l.state;
  same_outcome : typed_objects (file_state_view l.initial.state) (qualified_view l.base) (map init_view l.fn.inits) (notes_view l.initial.notes)
      ≡ typed_objects (file_state_view l.state) (qualified_view l.base) (map init_view l.rest) (notes_view l.notes);
}

abbrev pub decreases-objects : goal.decreases-objects
decreases-objects l = length l.rest
