-- The operators that take two integers (C 6.5.5, 6.5.7, 6.5.10 to 6.5.12), and what two integers become under any other.
use Rattle.rvt_num.specs.Kinds.{promoted_kind, common_kind}
use Rattle.rvt_num.specs.Operations.{result_kind}
use Rattle.rvt_num.specs.declared.kinds.Kind.{Kind}
use Rattle.rvt_num.specs.declared.operations.BinOp.{BinOp}
use Rattle.rvt_tree.specs.declared.places.Place.{Place}
use Rattle.rvt_tree.specs.Syntax.{Expression, binary}
use Rattle.expression_typing.specs.Operands.{Operand, an_integer, an_int_value}
use Rattle.expression_typing.specs.Conversions.{integer_converted, promoted}
use Rattle.expression_typing.specs.Outcomes.{Checking, give, broken, wrong_type}

-- an operation on two integers, both of their common kind (C 6.3.1.8)
abbrev pub on_common : BinOp → Kind → Expression → Kind → Expression → Operand
on_common op a x b y =
    an_int_value (result_kind op (common_kind a b)) (binary op (integer_converted a (common_kind a b) x) (integer_converted b (common_kind a b) y))

-- `*`, `/`, `%`, `&`, `^`, `|`
abbrev pub integers_of : BinOp → Place → Operand → Operand → Checking Operand
integers_of op at (an_integer a x _) (an_integer b y _) = give (on_common op a x b y)
integers_of op at _ _ = broken wrong_type at

-- `<<`, `>>`: each operand is promoted by itself, and the result has the kind of the left one
abbrev pub shift_of : BinOp → Place → Operand → Operand → Checking Operand
shift_of op at (an_integer a x _) (an_integer b y _) = give (an_int_value (promoted_kind a) (binary op (promoted a x) (promoted b y)))
shift_of op at _ _ = broken wrong_type at
