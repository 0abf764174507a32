-- `a[i]` (C 6.5.2.1).
use Rattle.std.specs.Prelude.{Bool, List}
use Rattle.rvt_tree.specs.declared.places.Place.{Place}
use Rattle.rvt_tree.specs.declared.types.Pointee.{Pointee}
use Rattle.rvt_tree.specs.Syntax.{Expression, value_at, element, subscript}
use Rattle.c_types.specs.Layout.{APointer, AnArray}
use Rattle.expression_typing.specs.Entities.{Structure, cells_of}
use Rattle.expression_typing.specs.Operands.{Operand, a_place, an_integer, a_pointer, shape_of_pointee, pointee_cells}
use Rattle.expression_typing.specs.Outcomes.{Checking, give, broken, and_then, wanted, wrong_type}

-- of a pointer: what it points to is complete
abbrev pub indexed : List Structure → Place → Pointee → Bool → Expression → Operand → Checking Operand
indexed structs at pointee to_constant pointer (an_integer kind index zero_token) =
    and_then (pointee_cells structs at pointee) (λ size. give (a_place (shape_of_pointee pointee) to_constant (subscript pointer index pointee size)))
indexed structs at _ _ _ _ = broken wrong_type at

-- of an array or a pointer, and an integer
abbrev pub element_of : List Structure → Place → Operand → Operand → Checking Operand
element_of structs at (a_place (AnArray item count) fixed array) (an_integer kind index zero_token) =
    and_then (wanted wrong_type at (cells_of structs item)) (λ size. give (a_place item fixed (element array index count size)))
element_of structs at (a_place (APointer pointee to_constant) fixed pointer) index = indexed structs at pointee to_constant (value_at pointer) index
element_of structs at (a_pointer pointee to_constant pointer) index = indexed structs at pointee to_constant pointer index
element_of structs at _ _ = broken wrong_type at
