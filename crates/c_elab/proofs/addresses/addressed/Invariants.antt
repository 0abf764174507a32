use Rattle.std.proofs.Common.{◌≡◌, ◌||◌, ℕ, map, flat_map, length}
use Rattle.expression_typing.specs.Progress.{is_taken}
use Rattle.file_state.specs.Views.{function_entry_view}
use Rattle.file_typing.specs.Elaboration.{taken_in}
use Rattle.file_typing.specs.FileScope.{FunctionEntry}
use Rattle.local_objects.specs.ObjectTables.{is_flagged}
use Rattle.rvt_tree.specs.declared.expressions.Variable.TheVariants as V
use Rattle.c_elab.proofs.addresses.addressed.Given as goal

abbrev pub invariant-functions : goal.invariant-functions
invariant-functions l = record {
  whole : (k : ℕ) → is_flagged l.flags.items k || is_taken (flat_map (λ (entry : FunctionEntry). taken_in entry.body) (map function_entry_view l.rest)) (V.Object k)
      ≡ is_taken (flat_map (λ (entry : FunctionEntry). taken_in entry.body) (map function_entry_view l.fn.functions)) (V.Object k);
}

abbrev pub decreases-functions : goal.decreases-functions
decreases-functions l = length l.rest
