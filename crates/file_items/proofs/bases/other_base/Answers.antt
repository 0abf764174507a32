use Rattle.std.proofs.Common.{subst}
use Rattle.expression_typing.specs.TypeNames.{base_type}
use Rattle.file_typing.specs.FileScope.{scope_of_file}
use Rattle.typing_base.specs.Follows.{Gives}
use Rattle.typing_base.specs.Views.{qualified_view}
use Rattle.file_state.specs.Views.{file_state_view}
use Rattle.file_items.proofs.Steps.{gives_more}
use Rattle.file_items.proofs.bases.other_base.Goals as goal

pub returns : goal.returns
returns c =
    gives_more qualified_view (λ type. record { file = file_state_view c.args.state.now; type = type }) (base_type (scope_of_file (file_state_view c.args.state.now)) c.args.base.now) c.base_type.result
    (subst (λ scope. Gives qualified_view (base_type scope c.args.base.now) c.base_type.result) c.scope.ensures c.base_type.ensures)
