-- `a && b`, `a || b` (C 6.5.13, 6.5.14).
use Rattle.rvt_num.specs.declared.kinds.Kind.TheVariants.{I32}
use Rattle.rvt_tree.specs.declared.places.Place.{Place}
use Rattle.rvt_tree.specs.Syntax.{Expression}
use Rattle.expression_typing.specs.Operands.{Operand, an_int_value}
use Rattle.expression_typing.specs.Conversions.{tested}
use Rattle.expression_typing.specs.Outcomes.{Checking, give, and_then}

-- two integers or pointers
abbrev pub logical_of : (Expression → Expression → Expression) → Place → Operand → Operand → Checking Operand
logical_of form at x y = and_then (tested at x) (λ a. and_then (tested at y) (λ b. give (an_int_value I32 (form a b))))
