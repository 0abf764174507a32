use Rattle.std.proofs.Common.{sym, subst}
use Rattle.expression_typing.specs.Operators.{operated}
use Rattle.typing_base.specs.Views.{operand_view, structures_view}
use Rattle.typing_base.specs.Follows.{GivesOperand}
use Rattle.operator_rules.proofs.operators.operated.Goals as goal

pub returns-in-Both : goal.returns-in-Both
returns-in-Both c =
    subst (λ op. GivesOperand (operated (structures_view c.args.structs.now) op c.args.at (operand_view c.args.x) (operand_view c.args.y)) c.logical_of.result)
    (sym c.in-Both.is) c.logical_of.ensures

pub returns-in-Either : goal.returns-in-Either
returns-in-Either c =
    subst (λ op. GivesOperand (operated (structures_view c.args.structs.now) op c.args.at (operand_view c.args.x) (operand_view c.args.y)) c.logical_of-in-Either.result)
    (sym c.in-Either.is) c.logical_of-in-Either.ensures
