-- What the values that pass between these rules stand for.
use Rattle.rvt_tree.specs.Views.{lvalue_view}
use Rattle.expression_typing.specs.Assignment as a
use Rattle.expression_typing.specs.TypeNames as n
use Rattle.typing_base.specs.Views.{type_view, qualified_view}
use Rattle.operator_rules.specs.declared.assignment.Sides.{Sides}
use Rattle.operator_rules.specs.declared.assignment.AssignmentTarget.{AssignmentTarget}
use Rattle.operator_rules.specs.declared.cast_operators.WrittenType.{WrittenType}

abbrev pub written_view : WrittenType → n.WrittenType
written_view w = record { place = w.place; type = qualified_view w.ty; lengths = w.lengths.items }

abbrev pub target_view : AssignmentTarget → a.Target
target_view t = record { type = type_view t.ty; lvalue = lvalue_view t.lvalue }

abbrev pub sides_view : Sides → a.Sides
sides_view at = record { operator = at.operator; left = at.left; right = at.right }
