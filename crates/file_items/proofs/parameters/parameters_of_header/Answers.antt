use Rattle.std.proofs.Common.{Vec, ap, sym}
use Rattle.std.specs.Global.{Global}
use Rattle.c_syntax.specs.Views.{params_view}
use Rattle.file_typing.specs.FunctionDeclarators.{typed_parameters}
use Rattle.typing_base.specs.Views.{notes_view}
use Rattle.file_state.specs.Views.{file_state_view}
use Rattle.file_items.specs.declared.parameters.Parameter.{Parameter}
use Rattle.file_items.specs.FunctionHeaders.{block_of_parameters}
use Rattle.file_declarations.specs.Parameters.{parameters_view}
use Rattle.file_items.proofs.ParametersAgain.{outermost_at, parameters_again}
use Rattle.file_items.proofs.Steps.{fails_as}
use Rattle.file_items.proofs.parameters.parameters_of_header.Goals as goal

pub returns-in_err-typed_parameters-clause-typed : goal.returns-in_err-typed_parameters-clause-typed
returns-in_err-typed_parameters-clause-typed c =
    fails_as (λ (_ : Unit {0}). parameters_view c.typed_parameters.new.environment c.height-height.result c.args.kind)
    (λ (made : Vec Parameter Global). block_of_parameters (file_state_view c.args.state.now) c.args.kind made.items)
    _ _ c.in_err-typed_parameters.field-0.0 c.from_residual.result c.typed_parameters.new.notes c.typed_parameters.new.notes c.from_residual.ensures.1
    (ap (λ b. typed_parameters c.args.with_names b (params_view c.args.params.now) (notes_view c.args.notes.now)) (sym (outermost_at c.args.state.now c.height-height.result c.args.kind c.height-height.ensures)))
    c.in_err-typed_parameters.ensures.typed

pub returns-clause-typed : goal.returns-clause-typed
returns-clause-typed c =
    parameters_again c.args.state.now c.height-height.result c.args.kind c.height-height.ensures c.args.with_names c.typed_parameters.new.environment (params_view c.args.params.now) _ _
    c.in_ok-parameters.parameters.items c.in_ok-typed_parameters.ensures.typed c.in_ok-parameters.ensures
