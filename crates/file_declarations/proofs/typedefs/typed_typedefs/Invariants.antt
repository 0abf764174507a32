use Rattle.std.proofs.Common.{◌≡◌, map, length}
use Rattle.c_syntax.specs.Views.{declarator_view}
use Rattle.file_typing.specs.Typedefs.{typed_typedefs}
use Rattle.typing_base.specs.Views.{notes_view, qualified_view}
use Rattle.file_state.specs.Indexes.{IsIndexed}
use Rattle.file_state.specs.Views.{file_state_view}
use Rattle.file_declarations.proofs.typedefs.typed_typedefs.Given as goal

abbrev pub invariant-declarators : goal.invariant-declarators
invariant-declarators l = record {
  indexed : IsIndexed l.state;
  same_outcome : typed_typedefs (file_state_view l.initial.state) (qualified_view l.base) (map declarator_view l.fn.declarators) (notes_view l.initial.notes)
      ≡ typed_typedefs (file_state_view l.state) (qualified_view l.base) (map declarator_view l.rest) (notes_view l.notes);
}

abbrev pub decreases-declarators : goal.decreases-declarators
decreases-declarators l = length l.rest
