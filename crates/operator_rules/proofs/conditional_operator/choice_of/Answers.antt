use Rattle.std.proofs.Common.{sym, subst}
use Rattle.rvt_tree.specs.Views.{expr_view}
use Rattle.expression_typing.specs.Conversions.{tested}
use Rattle.expression_typing.specs.ConditionalOperator.{chosen}
use Rattle.typing_base.specs.Views.{operand_view}
use Rattle.typing_base.specs.Follows.{GivesOperand}
use Rattle.operator_rules.proofs.Steps.{and_then_gives}
use Rattle.operator_rules.proofs.conditional_operator.choice_of.Goals as goal

pub returns : goal.returns
returns c =
    subst (λ rule. GivesOperand rule c.chosen.result)
    (sym (and_then_gives (tested c.args.at (operand_view c.args.test))
    (λ condition. chosen c.args.at condition (operand_view c.args.x) (operand_view c.args.y)) (expr_view c.in_ok-condition.condition) c.in_ok-condition.ensures))
    c.chosen.ensures
