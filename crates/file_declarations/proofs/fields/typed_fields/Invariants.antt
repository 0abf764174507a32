use Rattle.std.proofs.Common.{◌≡◌, map, length}
use Rattle.c_syntax.specs.Views.{declarator_view}
use Rattle.file_typing.specs.Structs.{typed_fields}
use Rattle.typing_base.specs.Views.{notes_view, qualified_view}
use Rattle.file_state.specs.Views.{file_state_view, members_view}
use Rattle.file_declarations.proofs.fields.typed_fields.Given as goal

abbrev pub invariant-fields : goal.invariant-fields
invariant-fields l = record {
  same_outcome : typed_fields (file_state_view l.state) (qualified_view l.base) (members_view l.initial.members) (map declarator_view l.fn.declarators) (notes_view l.initial.notes)
      ≡ typed_fields (file_state_view l.state) (qualified_view l.base) (members_view l.members) (map declarator_view l.rest) (notes_view l.notes);
}

abbrev pub decreases-fields : goal.decreases-fields
decreases-fields l = length l.rest
