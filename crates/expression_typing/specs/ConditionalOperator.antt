-- `a ? b : c` (C 6.5.15).
use Rattle.std.specs.Prelude.{◌||◌, if◌then◌else◌}
use Rattle.rvt_num.specs.Kinds.{common_kind}
use Rattle.rvt_tree.specs.declared.places.Place.{Place}
use Rattle.rvt_tree.specs.Syntax.{Expression, conditional}
use Rattle.c_types.specs.Layout.{same_pointee}
use Rattle.expression_typing.specs.Operands.{Operand, an_integer, an_int_value, a_pointer}
use Rattle.expression_typing.specs.Conversions.{integer_converted, pointer_converted, tested}
use Rattle.expression_typing.specs.Outcomes.{Checking, give, broken, and_then, wrong_type}

-- two integers, of their common kind; two pointers to one type, to `const` if one of them is; or a pointer and a null
-- pointer constant
abbrev pub chosen : Place → Expression → Operand → Operand → Checking Operand
chosen at test (an_integer a x _) (an_integer b y _) =
    give (an_int_value (common_kind a b) (conditional test (integer_converted a (common_kind a b) x) (integer_converted b (common_kind a b) y)))
chosen at test (a_pointer pointee to_constant p) (a_pointer other other_constant q) =
    if same_pointee pointee other then give (a_pointer pointee (to_constant || other_constant) (conditional test p q)) else broken wrong_type at
chosen at test (a_pointer pointee to_constant p) y =
    and_then (pointer_converted at pointee to_constant y) (λ q. give (a_pointer pointee to_constant (conditional test p q)))
chosen at test x (a_pointer pointee to_constant q) =
    and_then (pointer_converted at pointee to_constant x) (λ p. give (a_pointer pointee to_constant (conditional test p q)))
chosen at test _ _ = broken wrong_type at

abbrev pub choice_of : Place → Operand → Operand → Operand → Checking Operand
choice_of at test x y = and_then (tested at test) (λ condition. chosen at condition x y)
