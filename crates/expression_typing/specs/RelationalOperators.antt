-- `<`, `<=`, `>`, `>=` (C 6.5.8).
use Rattle.rvt_num.specs.declared.operations.BinOp.{BinOp}
use Rattle.rvt_tree.specs.declared.places.Place.{Place}
use Rattle.expression_typing.specs.Operands.{Operand, an_integer, two_pointers}
use Rattle.expression_typing.specs.IntegerOperators.{on_common}
use Rattle.expression_typing.specs.Outcomes.{Checking, give}

-- two integers; an order of two pointers is not in the profile
abbrev pub order_of : BinOp → Place → Operand → Operand → Checking Operand
order_of op at (an_integer a x _) (an_integer b y _) = give (on_common op a x b y)
order_of op at x y = two_pointers at x y
