use Rattle.std.proofs.Common.{◌≡◌, map, length}
use Rattle.std.specs.Prelude.{pos}
use Rattle.c_syntax.specs.Views.{enumerator_view}
use Rattle.file_typing.specs.Enumerations.{typed_constants}
use Rattle.typing_base.specs.Views.{notes_view}
use Rattle.file_state.specs.Indexes.{IsIndexed}
use Rattle.file_state.specs.Views.{file_state_view}
use Rattle.file_declarations.proofs.enums.typed_constants.Given as goal

abbrev pub invariant-constants : goal.invariant-constants
invariant-constants l = record {
  indexed : IsIndexed l.state;
  same_outcome : typed_constants (file_state_view l.initial.state) (pos 0) (map enumerator_view l.fn.ones) (notes_view l.initial.notes)
      ≡ typed_constants (file_state_view l.state) l.next (map enumerator_view l.rest) (notes_view l.notes);
}

abbrev pub decreases-constants : goal.decreases-constants
decreases-constants l = length l.rest
