use Rattle.std.proofs.Common.{sym, subst}
use Rattle.rvt_num.specs.declared.kinds.Kind.TheVariants.{I32}
use Rattle.rvt_tree.specs.Views.{expr_view}
use Rattle.expression_typing.specs.Conversions.{tested}
use Rattle.expression_typing.specs.Operands.{an_int_value}
use Rattle.expression_typing.specs.Outcomes.{and_then, give}
use Rattle.typing_base.specs.Views.{operand_view}
use Rattle.typing_base.specs.Follows.{GivesOperand}
use Rattle.operator_rules.specs.Forms.{logical_form}
use Rattle.operator_rules.proofs.Steps.{and_then_gives}
use Rattle.operator_rules.proofs.logical_operators.logical_of.Goals as goal

pub returns : goal.returns
returns c =
    subst (λ rule. GivesOperand rule c.logical_with.result)
    (sym (and_then_gives (tested c.args.at (operand_view c.args.x))
    (λ a. and_then (tested c.args.at (operand_view c.args.y)) (λ b. give (an_int_value I32 (logical_form c.args.form a b)))) (expr_view c.in_ok-a.a) c.in_ok-a.ensures))
    c.logical_with.ensures
