use Rattle.std.proofs.Common.{◌≡◌, ◌++◌, map, length}
use Rattle.std.specs.Vec.Iter.{into_iter_items}
use Rattle.file_state.specs.Views.{function_entry_view, struct_entry_view}
use Rattle.file_typing.specs.Elaboration.{functions_of, objects_of_functions}
use Rattle.file_typing.specs.Programs.{function_view, object_view}
use Rattle.c_elab.proofs.functions.functions_of.Given as goal

abbrev pub invariant-functions : goal.invariant-functions
invariant-functions l = record {
  functions : map function_view l.made.items ++ functions_of (map struct_entry_view l.structs) (length l.objects.items) (map function_entry_view (into_iter_items l.entry-iterator))
      ≡ functions_of (map struct_entry_view l.structs) (length l.initial.objects.items) (map function_entry_view l.fn.functions.items);
  objects : map object_view l.objects.items ++ objects_of_functions (map struct_entry_view l.structs) l.number (map function_entry_view (into_iter_items l.entry-iterator))
      ≡ map object_view l.initial.objects.items ++ objects_of_functions (map struct_entry_view l.structs) 0 (map function_entry_view l.fn.functions.items);
}
