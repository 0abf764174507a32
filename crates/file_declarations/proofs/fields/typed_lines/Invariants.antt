use Rattle.std.proofs.Common.{◌≡◌, map, length}
use Rattle.c_syntax.specs.Views.{field_view}
use Rattle.file_typing.specs.Structs.{typed_lines}
use Rattle.typing_base.specs.Views.{notes_view}
use Rattle.file_state.specs.Views.{file_state_view, members_view}
use Rattle.file_declarations.proofs.fields.typed_lines.Given as goal

abbrev pub invariant-lines : goal.invariant-lines
invariant-lines l = record {
  same_outcome : typed_lines (file_state_view l.state) (members_view l.initial.members) (map field_view l.fn.lines) (notes_view l.initial.notes)
      ≡ typed_lines (file_state_view l.state) (members_view l.members) (map field_view l.rest) (notes_view l.notes);
}

abbrev pub decreases-lines : goal.decreases-lines
decreases-lines l = length l.rest
