use Rattle.std.proofs.Common.{subst, refl}
use Rattle.rvt_tree.specs.Views.{stmt_view}
use Rattle.c_syntax.specs.Views.{expr_view}
use Rattle.expression_typing.specs.FirstTokens.{first_token}
use Rattle.file_typing.specs.Statements.{returned_with}
use Rattle.typing_base.specs.Follows.{Gives}
use Rattle.typing_base.specs.Views.{operand_view}
use Rattle.statement_elaboration.proofs.Steps.{then_rule}
use Rattle.statement_elaboration.proofs.jumps.typed_return.Goals as goal

pub returns : goal.returns
returns c =
    then_rule stmt_view _ _ (returned_with c.args.at (first_token (expr_view c.args.e.now)) c.args.block.result) (operand_view c.in_ok-value.value) c.returned_with.result c.operand_in.new.notes refl c.in_ok-value.ensures
    (subst (λ at. Gives stmt_view (returned_with c.args.at at c.args.block.result (operand_view c.in_ok-value.value)) c.returned_with.result) c.first_token.ensures c.returned_with.ensures)
