-- The type of what is declared: that of its base, a pointer to it, and arrays of that (C 6.7.6); and what each sort of declaration may have.
use Rattle.std.specs.Prelude.{ℕ, ◌+◌, List, [], ◌∷◌, nat_lt, Bool, true, false, ◌||◌, if◌then◌else◌, Option, Some, None, is_none, ℤ, pos, int_lt}
use Rattle.std.specs.List.{list_any}
use Rattle.rvt_num.specs.declared.kinds.Kind.{Kind}
use Rattle.rvt_tree.specs.declared.places.Place.{Place}
use Rattle.rvt_tree.specs.declared.types.Pointee.{Pointee}
use Rattle.c_types.specs.Layout.{Shape, AWord, APointer, AnArray, AStruct}
use Rattle.c_syntax.specs.Syntax as s
use Rattle.expression_typing.specs.Entities.{NamedType, no_value, a_type, pointer_elsewhere, QualifiedType, Scope, Structure, cells_of}
use Rattle.expression_typing.specs.Limits.{most_cells_of_a_type}
use Rattle.expression_typing.specs.Operands.{pointee_of}
use Rattle.expression_typing.specs.Outcomes.{Cause, Checking, give, broken, and_then, wrong_type, not_in_profile, incomplete_type, too_many_cells}
use Rattle.expression_typing.specs.Expressions.{lengths}
use Rattle.expression_typing.specs.TypeNames.{Lengths, is_below_1, pointed}

-- ---- lengths of arrays (C 6.7.6.2)

-- `[]` first takes the number of the values in the braces behind it
abbrev pub counted : Option ℕ → Lengths → Lengths
counted (Some n) (None ∷ others) = Some (pos n) ∷ others
counted _ lengths = lengths

abbrev pub count_of : Option ℤ → ℕ
count_of (Some (pos n)) = n
count_of _ = 0

-- arrays of arrays, the outermost first
abbrev pub arrays : Lengths → Shape → Shape
arrays [] shape = shape
arrays (length ∷ others) shape = AnArray (arrays others shape) (count_of length)

abbrev pub is_above_most : Option ℤ → Bool
is_above_most None = false
is_above_most (Some n) = int_lt (pos most_cells_of_a_type) n

-- ---- what each sort of declaration may have

pub data Sort : Type 0 where
  as_typedef : Sort
  -- an object of the file
  as_object : Sort
  as_field : Sort
  as_local : Sort
  as_parameter : Sort

-- `void` is a type that a typedef may name, and none of an object, an element, a field or a parameter
abbrev pub may_be_void : Sort → Lengths → Bool
may_be_void as_typedef [] = true
may_be_void _ _ = false

abbrev pub has_pointer : Shape → Bool
has_pointer (AWord kind) = false
has_pointer (APointer pointee to_constant) = true
has_pointer (AnArray item count) = has_pointer item
has_pointer (AStruct number) = false

abbrev pub is_array_of_pointers : Shape → Bool
is_array_of_pointers (AnArray item count) = has_pointer item
is_array_of_pointers _ = false

-- of a parameter: a struct, or an array that would be a pointer to a pointer or to an array
abbrev pub is_no_parameter : Shape → Bool
is_no_parameter (AWord kind) = false
is_no_parameter (APointer pointee to_constant) = false
is_no_parameter (AnArray item count) = is_none (pointee_of item)
is_no_parameter (AStruct number) = true

-- a type of C that has no place in the profile
abbrev pub is_elsewhere : Sort → Shape → Bool
is_elsewhere as_typedef shape = is_array_of_pointers shape
is_elsewhere as_object shape = has_pointer shape
is_elsewhere as_field shape = has_pointer shape
is_elsewhere as_local shape = is_array_of_pointers shape
is_elsewhere as_parameter shape = is_no_parameter shape

-- the element type of an array has a size (C 6.7.6.2)
abbrev pub has_incomplete_elements : List Structure → Shape → Bool
has_incomplete_elements structs (AnArray item count) = is_none (cells_of structs item)
has_incomplete_elements structs _ = false

abbrev pub is_of_no_size : Sort → List Structure → Shape → Bool
is_of_no_size as_typedef structs shape = has_incomplete_elements structs shape
is_of_no_size as_parameter structs shape = has_incomplete_elements structs shape
is_of_no_size _ structs shape = is_none (cells_of structs shape)

abbrev pub tail : Lengths → Lengths
tail [] = []
tail (length ∷ others) = others

-- the first length of a parameter may be left out
abbrev pub has_open_length : Sort → Lengths → Bool
has_open_length as_parameter lengths = list_any is_none (tail lengths)
has_open_length _ lengths = list_any is_none lengths

abbrev pub is_above : ℕ → Option ℕ → Bool
is_above most None = false
is_above most (Some n) = nat_lt most n

-- a parameter is a pointer where it is written as an array, so its elements are not counted
abbrev pub has_too_many_cells : Sort → List Structure → Shape → Bool
has_too_many_cells as_parameter structs shape = false
has_too_many_cells _ structs shape = is_above most_cells_of_a_type (cells_of structs shape)

-- the first rule that a type of values breaks
abbrev pub broken_by_shape : Sort → List Structure → Lengths → Shape → Option Cause
broken_by_shape sort structs lengths shape =
    if list_any is_below_1 lengths then Some wrong_type
    else if is_elsewhere sort shape then Some not_in_profile
    else if has_open_length sort lengths || is_of_no_size sort structs shape then Some incomplete_type
    else if list_any is_above_most lengths || has_too_many_cells sort structs shape then Some too_many_cells
    else None

abbrev pub broken_by : Sort → List Structure → Lengths → NamedType → Option Cause
broken_by sort structs lengths no_value = if may_be_void sort lengths then None else Some wrong_type
broken_by sort structs lengths pointer_elsewhere = if list_any is_below_1 lengths then Some wrong_type else Some not_in_profile
broken_by sort structs lengths (a_type shape) = broken_by_shape sort structs lengths (arrays lengths shape)

-- ---- the type of a declarator

abbrev pub in_arrays : Lengths → NamedType → NamedType
in_arrays lengths (a_type shape) = a_type (arrays lengths shape)
in_arrays lengths other = other

abbrev pub unless_broken : {A : Type 0} → Place → Option Cause → A → Checking A
unless_broken at None made = give made
unless_broken at (Some cause) made = broken cause at

-- what is declared at a place has this base type, and these lengths
abbrev pub declared_type : Sort → List Structure → Place → QualifiedType → Lengths → Checking QualifiedType
declared_type sort structs at base lengths =
    unless_broken at (broken_by sort structs lengths base.named) (record { named = in_arrays lengths base.named; constant = base.constant })

-- a type that values have, and whether it is `const`
pub record ValueType : Type 0 where
  pub shape : Shape
  pub constant : Bool

abbrev pub value_type : Place → QualifiedType → Checking ValueType
value_type at type = value_type_named at type.named type.constant where
  value_type_named : Place → NamedType → Bool → Checking ValueType
  value_type_named at (a_type shape) constant = give (record { shape = shape; constant = constant })
  value_type_named at _ constant = broken wrong_type at

-- the number of values in braces, which gives an array its length
abbrev pub count_values : s.Initializers → ℕ
count_values s.no_initializers = 0
count_values (s.initializer i rest) = 1 + count_values rest

abbrev pub values_in : Option s.Initializer → Option ℕ
values_in (Some (s.braces at members)) = Some (count_values members)
values_in _ = None

-- the type of an object or a local: its lengths, and then what its name may have
abbrev pub type_of_declarator : Sort → Scope → QualifiedType → s.InitDeclarator → Checking ValueType
type_of_declarator sort scope base init =
    and_then (lengths scope init.declarator.dimensions) (λ counts.
    and_then (declared_type sort scope.structs init.declarator.word.place (pointed init.declarator.pointer base) (counted (values_in init.value) counts))
    (value_type init.declarator.word.place))

-- a parameter of array type is a pointer to its elements (C 6.7.6.3)
abbrev pub pointer_or : ValueType → Bool → Option Pointee → ValueType
pointer_or type constant None = type
pointer_or type constant (Some pointee) = record { shape = APointer pointee constant; constant = false }

abbrev pub adjusted : ValueType → Shape → ValueType
adjusted type (AnArray item count) = pointer_or type type.constant (pointee_of item)
adjusted type _ = type

-- the result of a function is `void` or an integer
abbrev pub result_kind : Place → NamedType → Checking (Option Kind)
result_kind at no_value = give None
result_kind at (a_type (AWord kind)) = give (Some kind)
result_kind at _ = broken not_in_profile at
