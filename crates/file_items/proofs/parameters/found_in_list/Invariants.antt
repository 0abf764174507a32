use Rattle.std.proofs.Common.{◌≡◌, ◌++◌, map, length}
use Rattle.c_syntax.specs.Views.{param_view}
use Rattle.file_state.specs.Views.{file_state_view}
use Rattle.file_items.specs.FunctionHeaders.{bindings_in, parameter_binding}
use Rattle.file_items.proofs.parameters.found_in_list.Given as goal

abbrev pub invariant-params : goal.invariant-params
invariant-params l = record {
  whole : bindings_in (file_state_view l.state).names (map param_view l.fn.params)
      ≡ map parameter_binding l.found.items ++ bindings_in (file_state_view l.state).names (map param_view l.rest);
}

abbrev pub decreases-params : goal.decreases-params
decreases-params l = length l.rest
