use Rattle.std.proofs.Common.{◌≡◌, map, length}
use Rattle.file_items.specs.FunctionHeaders.{parameter_binding, with_bindings}
use Rattle.statement_elaboration.specs.Views.{block_view, Extends}
use Rattle.file_items.proofs.parameters.declare_parameters.Given as goal

abbrev pub invariant-parameters : goal.invariant-parameters
invariant-parameters l = record {
  extends : Extends l.initial.environment l.environment;
  whole : with_bindings (map parameter_binding l.fn.parameters) (block_view l.initial.environment l.block)
      ≡ with_bindings (map parameter_binding l.rest) (block_view l.environment l.block);
}

abbrev pub decreases-parameters : goal.decreases-parameters
decreases-parameters l = length l.rest
