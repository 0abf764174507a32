-- `sizeof` (C 6.5.3.4), in bytes.
use Rattle.std.specs.Prelude.{ℕ, ◌*◌, nat_le, List, [], ◌∷◌, false, if◌then◌else◌, Option, Some, None, option_map, pos}
use Rattle.std.specs.List.{list_any}
use Rattle.rvt_num.specs.declared.kinds.Kind.{Kind}
use Rattle.rvt_num.specs.declared.kinds.Kind.TheVariants.{Bool as BoolKind, I8, U8, I16, U16, I32, U32, I64, U64}
use Rattle.rvt_tree.specs.declared.places.Place.{Place}
use Rattle.rvt_tree.specs.declared.types.Pointee.TheVariants as P
use Rattle.rvt_tree.specs.Syntax.{constant}
use Rattle.c_types.specs.Layout.{Shape, AWord, APointer, AnArray, AStruct}
use Rattle.expression_typing.specs.Entities.{NamedType, no_value, a_type, pointer_elsewhere, Structure, cells_of}
use Rattle.expression_typing.specs.Limits.{most_cells_of_a_type}
use Rattle.expression_typing.specs.Operands.{Operand, a_place, an_integer, an_int_value, a_pointer, a_null, a_void}
use Rattle.expression_typing.specs.TypeNames.{WrittenType, Lengths, array_shape, is_below_1}
use Rattle.expression_typing.specs.Outcomes.{Checking, give, broken, and_then, wanted, incomplete_type, too_many_cells, wrong_type, not_in_profile}

abbrev pub bytes_of_kind : Kind → ℕ
bytes_of_kind BoolKind = 1
bytes_of_kind I8 = 1
bytes_of_kind U8 = 1
bytes_of_kind I16 = 2
bytes_of_kind U16 = 2
bytes_of_kind I32 = 4
bytes_of_kind U32 = 4
bytes_of_kind I64 = 8
bytes_of_kind U64 = 8

-- of an integer or an array of integers; of nothing else
abbrev pub bytes_of : Shape → Option ℕ
bytes_of (AWord kind) = Some (bytes_of_kind kind)
bytes_of (AnArray item count) = option_map (λ n. count * n) (bytes_of item)
bytes_of (APointer pointee to_constant) = None
bytes_of (AStruct number) = None

abbrev pub size_value : ℕ → Operand
size_value bytes = an_int_value U64 (constant (record { kind = U64; value = pos bytes }))

-- a type is not too large
abbrev pub fits_a_type : Place → ℕ → Checking (Unit {0})
fits_a_type at cells = if nat_le cells most_cells_of_a_type then give tt else broken too_many_cells at

-- of a type, which is complete and not too large
abbrev pub size_of_shape : List Structure → Place → Shape → Checking Operand
size_of_shape structs at shape =
    and_then (wanted incomplete_type at (cells_of structs shape)) (λ cells.
    and_then (fits_a_type at cells) (λ _.
    and_then (wanted not_in_profile at (bytes_of shape)) (λ bytes.
    give (size_value bytes))))

-- of an expression, which is not evaluated
abbrev pub size_of_operand : List Structure → Place → Operand → Checking Operand
size_of_operand structs at (a_place shape fixed lvalue) = size_of_shape structs at shape
size_of_operand structs at (an_integer kind value zero_token) = size_of_shape structs at (AWord kind)
size_of_operand structs at (a_pointer pointee to_constant value) = broken not_in_profile at
size_of_operand structs at a_null = broken not_in_profile at
size_of_operand structs at (a_void function _) = broken wrong_type at

-- ---- of a type (C 6.7.7)

-- an array of pointers that have no place in the profile is not too large, and complete, as one of other pointers is
abbrev pub as_pointer : NamedType → Option Shape
as_pointer no_value = None
as_pointer (a_type shape) = Some shape
as_pointer pointer_elsewhere = Some (APointer (P.Word I32) false)

abbrev pub type_size : List Structure → Place → Option Shape → Lengths → Checking Operand
type_size structs at None [] = broken incomplete_type at
type_size structs at None (length ∷ lengths) = broken wrong_type at
type_size structs at (Some item) lengths = and_then (wanted incomplete_type at (array_shape lengths item)) (size_of_shape structs at)

abbrev pub size_of_type : List Structure → Place → WrittenType → Checking Operand
size_of_type structs at written =
    if list_any is_below_1 written.lengths then broken wrong_type at
    else type_size structs at (as_pointer written.type.named) written.lengths
