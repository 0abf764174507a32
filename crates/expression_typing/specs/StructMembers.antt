-- `s.f` and `p->f` (C 6.5.2.3).
use Rattle.std.specs.Prelude.{ℕ, List, slice_get}
use Rattle.rvt_tree.specs.declared.places.Place.{Place}
use Rattle.rvt_tree.specs.declared.types.Pointee.TheVariants as P
use Rattle.rvt_tree.specs.Syntax.{member, arrow}
use Rattle.c_types.specs.Layout.{AStruct}
use Rattle.c_syntax.specs.declared.bases.Word.{Word}
use Rattle.expression_typing.specs.Entities.{Structure, Field, field_in, fields_of}
use Rattle.expression_typing.specs.Operands.{Operand, a_place, a_pointer, pointee_cells}
use Rattle.expression_typing.specs.Outcomes.{Checking, give, broken, and_then, wanted, unknown_name, wrong_type}

-- the field of this name
abbrev pub field_named : List Structure → ℕ → Word → Checking Field
field_named structs number word = wanted (unknown_name word.name) word.place (field_in (fields_of (slice_get structs number)) word.name)

abbrev pub member_of : List Structure → Place → Word → Operand → Checking Operand
member_of structs at word (a_place (AStruct number) fixed aggregate) =
    and_then (field_named structs number word) (λ field. give (a_place field.type fixed (member aggregate field.number field.cell)))
member_of structs at word _ = broken wrong_type at

-- the struct that is pointed to is complete
abbrev pub arrow_of : List Structure → Place → Word → Operand → Checking Operand
arrow_of structs at word (a_pointer (P.Struct number) to_constant pointer) =
    and_then (pointee_cells structs at (P.Struct number)) (λ _.
    and_then (field_named structs number word) (λ field.
    give (a_place field.type to_constant (arrow pointer number field.number field.cell))))
arrow_of structs at word _ = broken wrong_type at
