-- The implicit conversions (C 6.3.1, 6.3.2.3, 6.5.16.1).
use Rattle.std.specs.Prelude.{Bool, true, not, ◌&&◌, ◌||◌, if◌then◌else◌}
use Rattle.rvt_num.specs.Kinds.{promoted_kind}
use Rattle.rvt_num.specs.declared.kinds.Kind.{Kind}
use Rattle.rvt_tree.specs.declared.places.Place.{Place}
use Rattle.rvt_tree.specs.declared.types.Pointee.{Pointee}
use Rattle.rvt_tree.specs.Syntax.{Expression, Expression as t}
use Rattle.c_types.specs.Layout.{Shape, AWord, APointer, AStruct, same_kind, same_pointee}
use Rattle.expression_typing.specs.Operands.{Operand, a_place, an_integer, a_pointer, a_null}
use Rattle.expression_typing.specs.Outcomes.{Checking, give, broken, wrong_type, not_in_profile}

-- an integer of the first kind as one of the second (C 6.3.1.3); to its own kind nothing is written
abbrev pub integer_converted : Kind → Kind → Expression → Expression
integer_converted from to value = if same_kind from to then value else t.cast to value

-- an integer as one of its promoted kind (C 6.3.1.1)
abbrev pub promoted : Kind → Expression → Expression
promoted kind value = integer_converted kind (promoted_kind kind) value

-- to a pointer: from one to the same type, which may become `const`, and from a null pointer constant (C 6.3.2.3)
abbrev pub pointer_converted : Place → Pointee → Bool → Operand → Checking Expression
pointer_converted at pointee to_constant (a_pointer own own_constant value) =
    if same_pointee pointee own && (to_constant || not own_constant) then give value else broken wrong_type at
pointer_converted at pointee to_constant a_null = give t.null_pointer
pointer_converted at pointee to_constant (an_integer kind value true) = give t.null_pointer
pointer_converted at _ _ _ = broken wrong_type at

-- to a type, as by assignment (C 6.5.16.1), at the first token of what is converted; a struct is never copied
abbrev pub converted_to : Place → Shape → Operand → Checking Expression
converted_to at (AWord to) (an_integer kind value zero_token) = give (integer_converted kind to value)
converted_to at (APointer pointee to_constant) operand = pointer_converted at pointee to_constant operand
converted_to at (AStruct number) (a_place shape constant lvalue) = broken not_in_profile at
converted_to at _ _ = broken wrong_type at

-- as a condition: an integer or a pointer
abbrev pub tested : Place → Operand → Checking Expression
tested at (an_integer kind value zero_token) = give value
tested at (a_pointer pointee to_constant value) = give value
tested at a_null = give t.null_pointer
tested at _ = broken wrong_type at
