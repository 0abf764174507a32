use Rattle.std.proofs.Common.{subst, refl}
use Rattle.c_syntax.specs.Views.{expr_view}
use Rattle.expression_typing.specs.FirstTokens.{first_token}
use Rattle.file_typing.specs.Statements.{controlled}
use Rattle.typing_base.specs.Follows.{Gives}
use Rattle.typing_base.specs.Views.{operand_view}
use Rattle.statement_elaboration.specs.Views.{control_view}
use Rattle.statement_elaboration.proofs.Steps.{then_rule}
use Rattle.statement_elaboration.proofs.switches.typed_control.Goals as goal

pub returns : goal.returns
returns c =
    then_rule control_view _ _ (controlled (first_token (expr_view c.args.e.now))) (operand_view c.in_ok-x.x) c.controlled.result c.operand_in.new.notes refl c.in_ok-x.ensures
    (subst (λ at. Gives control_view (controlled at (operand_view c.in_ok-x.x)) c.controlled.result) c.first_token.ensures c.controlled.ensures)
