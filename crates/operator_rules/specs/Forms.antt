-- The forms that the operators of one rule have in a typed tree.
use Rattle.rvt_num.specs.declared.operations.BinOp.{BinOp}
use Rattle.rvt_num.specs.declared.operations.BinOp.TheVariants.{Eq, Ne}
use Rattle.rvt_tree.specs.Syntax.{Expression, plus, minus, complement, equal_pointers, unequal_pointers, logical_and, logical_or}
use Rattle.operator_rules.specs.declared.unary_arithmetic.Sign.{Sign}
use Rattle.operator_rules.specs.declared.unary_arithmetic.Sign.TheVariants as S
use Rattle.operator_rules.specs.declared.equality_operators.Equality.{Equality}
use Rattle.operator_rules.specs.declared.equality_operators.Equality.TheVariants as E
use Rattle.operator_rules.specs.declared.logical_operators.Logical.{Logical}
use Rattle.operator_rules.specs.declared.logical_operators.Logical.TheVariants as L

abbrev pub signed_form : Sign → Expression → Expression
signed_form S.Plus = plus
signed_form S.Minus = minus
signed_form S.Complement = complement

abbrev pub of_integers : Equality → BinOp
of_integers E.Equal = Eq
of_integers E.Unequal = Ne

abbrev pub of_pointers : Equality → Expression → Expression → Expression
of_pointers E.Equal = equal_pointers
of_pointers E.Unequal = unequal_pointers

abbrev pub logical_form : Logical → Expression → Expression → Expression
logical_form L.And = logical_and
logical_form L.Or = logical_or
