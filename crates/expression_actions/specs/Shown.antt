-- What was read, whatever its trees' places in memory are.
use Rattle.std.specs.Prelude.{List, map, Vec}
use Rattle.std.specs.Global.{Global}
use Rattle.c_syntax.specs.declared.expressions.Dim.{Dim}
use Rattle.c_syntax.specs.declared.expressions.Expr.{Expr}
use Rattle.c_syntax.specs.Syntax.{Expression, Dimension}
use Rattle.c_syntax.specs.Views.{expr_view, type_view, dim_view}
use Rattle.expression_actions.specs.declared.both_stacks.Expressions.{Expressions}
use Rattle.expression_actions.specs.declared.operand_stacks.Operands.{Operands}
use Rattle.expression_actions.specs.declared.type_stacks.Types.{Types}
use Rattle.expression_actions.specs.Stacks.{OperandValues, TypeValues, Values}

abbrev pub expressions_shown : Vec Expr Global → List Expression
expressions_shown es = map expr_view es.items

abbrev pub dims_shown : Vec Dim Global → List Dimension
dims_shown ds = map dim_view ds.items

abbrev pub operands_shown : Operands → OperandValues
operands_shown o = record { kept = o.kept; expressions = map expr_view o.expressions; arguments = map expressions_shown o.arguments }

abbrev pub types_shown : Types → TypeValues
types_shown t = record { bases = t.bases; pointers = t.pointers; dims = map dims_shown t.dims; names = map type_view t.names }

abbrev pub shown : Expressions → Values
shown e = record { operands = operands_shown e.operands; types = types_shown e.types }
