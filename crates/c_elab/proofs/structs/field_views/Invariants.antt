use Rattle.std.proofs.Common.{◌≡◌, ◌++◌, ℕ, List, map}
use Rattle.std.specs.Vec.Iter.{into_iter_items}
use Rattle.c_types.specs.Layout.{shape_of}
use Rattle.file_typing.specs.Elaboration.{field_views}
use Rattle.rvt_tree.specs.declared.types.CType.{CType}
use Rattle.typing_base.specs.Views.{field_view}
use Rattle.c_elab.proofs.structs.field_views.Given as goal

abbrev pub invariant-fields : goal.invariant-fields
invariant-fields l = record {
  whole : map (λ (field : List ℕ × CType). (field.0, shape_of field.1)) l.views.items ++ field_views (map field_view (into_iter_items l.field-iterator))
      ≡ field_views (map field_view l.fn.fields.items);
}
