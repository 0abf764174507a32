-- `==`, `!=` (C 6.5.9).
use Rattle.std.specs.Prelude.{true}
use Rattle.rvt_num.specs.declared.kinds.Kind.TheVariants.{I32}
use Rattle.rvt_num.specs.declared.operations.BinOp.{BinOp}
use Rattle.rvt_tree.specs.declared.places.Place.{Place}
use Rattle.rvt_tree.specs.Syntax.{Expression}
use Rattle.expression_typing.specs.Operands.{Operand, an_integer, an_int_value, a_pointer}
use Rattle.expression_typing.specs.Conversions.{pointer_converted}
use Rattle.expression_typing.specs.IntegerOperators.{on_common}
use Rattle.expression_typing.specs.Outcomes.{Checking, give, broken, and_then, wrong_type}

-- two integers; or a pointer, and a pointer to the same type or a null pointer constant, `const` or not
abbrev pub equality_of : BinOp → (Expression → Expression → Expression) → Place → Operand → Operand → Checking Operand
equality_of op of_pointers at (an_integer a x _) (an_integer b y _) = give (on_common op a x b y)
equality_of op of_pointers at (a_pointer pointee _ p) y = and_then (pointer_converted at pointee true y) (λ q. give (an_int_value I32 (of_pointers p q)))
equality_of op of_pointers at x (a_pointer pointee _ q) = and_then (pointer_converted at pointee true x) (λ p. give (an_int_value I32 (of_pointers p q)))
equality_of op of_pointers at _ _ = broken wrong_type at
