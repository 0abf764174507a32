-- What an expression becomes when it is typed, and the conversions of it as an operand (C 6.3.2.1).
use Rattle.std.specs.Prelude.{ℕ, ◌+◌, nat_lt, nat_le, List, Bool, true, false, ◌&&◌, if◌then◌else◌, Option, Some, None, slice_get}
use Rattle.rvt_num.specs.declared.kinds.Kind.{Kind}
use Rattle.rvt_tree.specs.declared.places.Place.{Place}
use Rattle.rvt_tree.specs.declared.types.Pointee.{Pointee}
use Rattle.rvt_tree.specs.declared.types.Pointee.TheVariants as P
use Rattle.rvt_tree.specs.declared.expressions.Variable.{Variable}
use Rattle.rvt_tree.specs.declared.expressions.Variable.TheVariants as V
use Rattle.rvt_tree.specs.Syntax.{LvalueExpression, Expression, Arguments}
use Rattle.rvt_tree.specs.Syntax as t
use Rattle.c_types.specs.Layout.{Shape, AWord, APointer, AnArray, AStruct}
use Rattle.expression_typing.specs.Entities.{Scope, Structure, cells_of}
use Rattle.expression_typing.specs.Progress.{Notes, Local, with_taken, with_object, is_taken}
use Rattle.expression_typing.specs.Limits.{most_objects, most_cells_of_objects}
use Rattle.expression_typing.specs.Outcomes.{beyond_a_limit, wrong_type, not_in_profile, Outcome, Made, Broken, Checking, give, broken, and_then, noting, wanted}

-- what an expression is
pub data Operand : Type 0 where
  -- an lvalue: its type, and whether what it names is `const`
  a_place : Shape → (constant : Bool) → LvalueExpression → Operand
  -- an integer, and whether it is a constant token of value 0, in parentheses or not, which may become a null pointer
  an_integer : Kind → Expression → (zero_token : Bool) → Operand
  -- a pointer, and whether it is one to `const`
  a_pointer : Pointee → (to_constant : Bool) → Expression → Operand
  -- `NULL`
  a_null : Operand
  -- the call of a function without a result
  a_void : (function : ℕ) → Arguments → Operand

abbrev pub an_int_value : Kind → Expression → Operand
an_int_value kind value = an_integer kind value false

-- what a pointer to it points to; an array and a pointer are pointed to by none
abbrev pub pointee_of : Shape → Option Pointee
pointee_of (AWord kind) = Some (P.Word kind)
pointee_of (AStruct number) = Some (P.Struct number)
pointee_of (APointer pointee to_constant) = None
pointee_of (AnArray item count) = None

abbrev pub shape_of_pointee : Pointee → Shape
shape_of_pointee (P.Word kind) = AWord kind
shape_of_pointee (P.Struct number) = AStruct number

-- what a pointer points to is complete (C 6.2.5): how many cells it has
abbrev pub pointee_cells : List Structure → Place → Pointee → Checking ℕ
pointee_cells structs at pointee = wanted wrong_type at (cells_of structs (shape_of_pointee pointee))

-- an operand as a value of no type in particular
abbrev pub value_of : Operand → Expression
value_of (a_place shape constant lvalue) = t.value_at lvalue
value_of (an_integer kind value zero_token) = value
value_of (a_pointer pointee to_constant value) = value
value_of a_null = t.null_pointer
value_of (a_void function arguments) = t.call function arguments

-- `NULL` is a pointer, to no type of its own
abbrev pub is_pointer : Operand → Bool
is_pointer (a_pointer pointee to_constant value) = true
is_pointer a_null = true
is_pointer _ = false

-- an operation that C has for two pointers, and the profile has not
abbrev pub two_pointers : Place → Operand → Operand → Checking Operand
two_pointers at x y = broken (if is_pointer x && is_pointer y then not_in_profile else wrong_type) at

-- ---- addresses that are taken

-- the variable in which an lvalue lies, if it lies in one
abbrev pub variable_of : LvalueExpression → Option Variable
variable_of (t.identifier variable) = Some variable
variable_of (t.element array index count size) = variable_of array
variable_of (t.member aggregate field cell) = variable_of aggregate
variable_of (t.dereference pointer pointee) = None
variable_of (t.subscript pointer index pointee size) = None
variable_of (t.arrow pointer structure field cell) = None

-- the local of a number, which becomes an object with its first address
abbrev pub local_of : Variable → Notes → Option Local
local_of (V.Local number) notes = slice_get notes.locals number
local_of (V.Object number) notes = None

abbrev pub has_room : Notes → Local → Bool
has_room notes local = nat_lt notes.objects most_objects && nat_le (notes.cells + local.cells) most_cells_of_objects

abbrev pub becomes_object : Notes → Option Local → Outcome (Unit {0})
becomes_object notes None = Made tt notes
becomes_object notes (Some local) = if has_room notes local then Made tt (with_object local.cells notes) else Broken beyond_a_limit local.place

abbrev pub first_taken : Variable → Checking (Unit {0})
first_taken variable notes = if is_taken notes.taken variable then Made tt notes else becomes_object notes (local_of variable notes)

abbrev pub taken_of : Place → Option Variable → Checking (Unit {0})
taken_of at None = give tt
taken_of at (Some variable) = and_then (first_taken variable) (λ _. noting (with_taken (record { variable = variable; place = at })))

-- the address of an lvalue becomes a value
abbrev pub taken : Scope → Place → LvalueExpression → Checking (Unit {0})
taken scope at lvalue = if scope.evaluated then taken_of at (variable_of lvalue) else give tt

-- ---- lvalues and arrays as operands (C 6.3.2.1)

-- where an expression begins, and where its array's name stands
pub record Ends : Type 0 where
  pub first : Place
  pub array_name : Place

-- an array is a pointer to its first element; to one of an array or of a pointer there is no pointer in the profile
abbrev pub decayed : Scope → Ends → Option Pointee → Bool → LvalueExpression → Checking Operand
decayed scope ends None constant lvalue = broken not_in_profile ends.first
decayed scope ends (Some pointee) constant lvalue =
    and_then (taken scope ends.array_name lvalue) (λ _. give (a_pointer pointee constant (t.decay lvalue)))

-- a place is the value at it, but for a struct, which stays the place that it is
abbrev pub lvalue_converted : Scope → Ends → Shape → Bool → LvalueExpression → Checking Operand
lvalue_converted scope ends (AWord kind) constant lvalue = give (an_int_value kind (t.value_at lvalue))
lvalue_converted scope ends (APointer pointee to_constant) constant lvalue = give (a_pointer pointee to_constant (t.value_at lvalue))
lvalue_converted scope ends (AnArray item count) constant lvalue = decayed scope ends (pointee_of item) constant lvalue
lvalue_converted scope ends (AStruct number) constant lvalue = give (a_place (AStruct number) constant lvalue)

abbrev pub converted_operand : Scope → Ends → Operand → Checking Operand
converted_operand scope ends (a_place shape constant lvalue) = lvalue_converted scope ends shape constant lvalue
converted_operand scope ends operand = give operand
