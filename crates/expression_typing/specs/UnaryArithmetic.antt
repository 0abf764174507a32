-- `+a`, `-a`, `~a` and `!a` (C 6.5.3.3).
use Rattle.rvt_num.specs.Kinds.{promoted_kind}
use Rattle.rvt_num.specs.declared.kinds.Kind.TheVariants.{I32}
use Rattle.rvt_tree.specs.declared.places.Place.{Place}
use Rattle.rvt_tree.specs.Syntax.{Expression, negation}
use Rattle.expression_typing.specs.Operands.{Operand, an_integer, an_int_value}
use Rattle.expression_typing.specs.Conversions.{promoted, tested}
use Rattle.expression_typing.specs.Outcomes.{Checking, give, broken, and_then, wrong_type}

-- a promoted integer, in one of the three forms
abbrev pub on_promoted : (Expression → Expression) → Place → Operand → Checking Operand
on_promoted form at (an_integer kind value zero_token) = give (an_int_value (promoted_kind kind) (form (promoted kind value)))
on_promoted form at _ = broken wrong_type at

abbrev pub not_of : Place → Operand → Checking Operand
not_of at operand = and_then (tested at operand) (λ value. give (an_int_value I32 (negation value)))
