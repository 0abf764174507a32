use Rattle.std.proofs.Common.{◌≡◌, ◌++◌, map}
use Rattle.std.specs.Vec.Iter.{into_iter_items}
use Rattle.file_state.specs.Views.{struct_entry_view}
use Rattle.file_typing.specs.Elaboration.{structs_of}
use Rattle.file_typing.specs.Programs.{struct_view}
use Rattle.c_elab.proofs.structs.structs_of.Given as goal

abbrev pub invariant-structs : goal.invariant-structs
invariant-structs l = record {
  whole : map struct_view l.defs.items ++ structs_of (map struct_entry_view (into_iter_items l.structure-iterator)) ≡ structs_of (map struct_entry_view l.fn.structs.items);
}
