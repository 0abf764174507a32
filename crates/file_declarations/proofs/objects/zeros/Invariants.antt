use Rattle.std.proofs.Common.{◌≡◌, ◌++◌, map, length}
use Rattle.rvt_num.specs.declared.kinds.Kind.{Kind}
use Rattle.rvt_num.specs.declared.values.Value.TheVariants.{Num}
use Rattle.std.specs.Prelude.{pos}
use Rattle.c_types.specs.Layout.{shape_of}
use Rattle.file_typing.specs.Objects.{zeros}
use Rattle.file_state.specs.Views.{struct_entry_view}
use Rattle.file_declarations.proofs.objects.zeros.Given as goal

abbrev pub invariant-kinds : goal.invariant-kinds
invariant-kinds l = record {
  whole : l.contents.items ++ map (λ (kind : Kind). Num (record { kind = kind; value = pos 0 })) l.rest ≡ zeros (map struct_entry_view l.fn.structs) (shape_of l.fn.ty);
}

abbrev pub decreases-kinds : goal.decreases-kinds
decreases-kinds l = length l.rest
