use Rattle.std.proofs.Common.{◌≡◌, map, length}
use Rattle.std.specs.List.{list_any}
use Rattle.std.specs.Str.{bytes_eq}
use Rattle.expression_typing.specs.Entities.{Field}
use Rattle.typing_base.specs.Views.{field_view}
use Rattle.file_state.proofs.structs.has_field.Given as goal

abbrev pub invariant-fields : goal.invariant-fields
invariant-fields l = record {
  same : list_any (λ (field : Field). bytes_eq field.name l.name) (map field_view l.members.fields.items) ≡ list_any (λ (field : Field). bytes_eq field.name l.name) (map field_view l.rest);
}

abbrev pub decreases-fields : goal.decreases-fields
decreases-fields l = length l.rest
