-- `&x` and `*p` (C 6.5.3.2).
use Rattle.std.specs.Prelude.{Bool, List}
use Rattle.rvt_tree.specs.declared.places.Place.{Place}
use Rattle.rvt_tree.specs.declared.types.Pointee.{Pointee}
use Rattle.rvt_tree.specs.declared.types.Pointee.TheVariants as P
use Rattle.rvt_tree.specs.Syntax.{LvalueExpression, address, dereference}
use Rattle.c_types.specs.Layout.{AWord, AnArray, AStruct}
use Rattle.expression_typing.specs.Entities.{Scope, Structure}
use Rattle.expression_typing.specs.Operands.{Operand, a_place, a_pointer, shape_of_pointee, pointee_cells, taken}
use Rattle.expression_typing.specs.Outcomes.{Checking, give, broken, and_then, wrong_type, not_in_profile}

abbrev pub pointer_to : Scope → Place → Pointee → Bool → LvalueExpression → Checking Operand
pointer_to scope at pointee fixed lvalue = and_then (taken scope at lvalue) (λ _. give (a_pointer pointee fixed (address lvalue)))

-- of an integer or a struct, not of an array as a whole, and not of a pointer
abbrev pub address_of : Scope → Place → Operand → Checking Operand
address_of scope at (a_place (AWord kind) fixed lvalue) = pointer_to scope at (P.Word kind) fixed lvalue
address_of scope at (a_place (AStruct number) fixed lvalue) = pointer_to scope at (P.Struct number) fixed lvalue
address_of scope at (a_place (AnArray item count) fixed lvalue) = broken not_in_profile at
address_of scope at _ = broken wrong_type at

-- what is pointed to is complete
abbrev pub target_of : List Structure → Place → Operand → Checking Operand
target_of structs at (a_pointer pointee to_constant pointer) =
    and_then (pointee_cells structs at pointee) (λ _. give (a_place (shape_of_pointee pointee) to_constant (dereference pointer pointee)))
target_of structs at _ = broken wrong_type at
