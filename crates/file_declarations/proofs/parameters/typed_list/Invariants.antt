use Rattle.std.proofs.Common.{◌≡◌, map, length}
use Rattle.c_syntax.specs.Views.{param_view}
use Rattle.file_typing.specs.FunctionDeclarators.{typed_list}
use Rattle.typing_base.specs.Views.{notes_view}
use Rattle.file_declarations.specs.Parameters.{parameters_view, Extends}
use Rattle.file_declarations.proofs.parameters.typed_list.Given as goal

abbrev pub invariant-params : goal.invariant-params
invariant-params l = record {
  extends : Extends l.initial.environment l.environment;
  same_outcome : typed_list l.with_names (parameters_view l.initial.environment l.height l.found) (map param_view l.fn.params) (notes_view l.initial.notes)
      ≡ typed_list l.with_names (parameters_view l.environment l.height l.found) (map param_view l.rest) (notes_view l.notes);
}

abbrev pub decreases-params : goal.decreases-params
decreases-params l = length l.rest
