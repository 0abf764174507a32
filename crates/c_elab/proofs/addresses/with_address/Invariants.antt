use Rattle.std.proofs.Common.{◌≡◌, ◌++◌, map, flat_map, length}
use Rattle.std.specs.Vec.Iter.{into_iter_items}
use Rattle.file_state.specs.Views.{function_entry_view}
use Rattle.file_typing.specs.Elaboration.{taken_in, with_address}
use Rattle.file_typing.specs.FileScope.{FunctionEntry}
use Rattle.file_typing.specs.Programs.{object_view}
use Rattle.c_elab.proofs.addresses.with_address.Given as goal

abbrev pub invariant-objects : goal.invariant-objects
invariant-objects l =
    let taken = flat_map (λ (entry : FunctionEntry). taken_in entry.body) (map function_entry_view l.fn.functions) in
    record {
      whole : map object_view l.flagged.items ++ with_address taken (length l.flagged.items) (map object_view (into_iter_items l.object-iterator))
          ≡ with_address taken 0 (map object_view l.fn.objects.items);
    }
