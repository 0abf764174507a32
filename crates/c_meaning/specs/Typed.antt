-- What the meaning of a program takes from typing: that the kinds, sizes, counts and offsets in its trees are those of its types.
use Rattle.std.specs.Prelude.{◌≡◌, ℕ, zero, suc, ◌+◌, ◌*◌, ◌<◌, List, [], ◌∷◌, ◌++◌, length, slice_get, Bool, true, false, Option, Some, None, option_map, option_and_then, IsSomeAnd, All, replicate}
use Rattle.rvt_num.specs.Kinds.{IsOf, promoted_kind}
use Rattle.rvt_num.specs.Operations.{result_kind, is_shift}
use Rattle.rvt_num.specs.declared.kinds.Kind.{Kind}
use Rattle.rvt_num.specs.declared.kinds.Kind.TheVariants.{I32}
use Rattle.rvt_num.specs.declared.operations.BinOp.{BinOp}
use Rattle.rvt_tree.specs.declared.types.CType.{CType}
use Rattle.rvt_tree.specs.declared.types.Pointee.{Pointee}
use Rattle.rvt_tree.specs.declared.types.Pointee.TheVariants as P
use Rattle.rvt_tree.specs.declared.expressions.Variable.{Variable}
use Rattle.rvt_tree.specs.declared.expressions.Variable.TheVariants as V
use Rattle.rvt_tree.specs.declared.statements.Label.{Label}
use Rattle.rvt_tree.specs.declared.statements.Label.TheVariants.{Case, Default}
use Rattle.rvt_tree.specs.declared.statements.Stmt.{Stmt}
use Rattle.rvt_tree.specs.declared.programs.Program.{Program}
use Rattle.rvt_tree.specs.declared.programs.Function.{Function}
use Rattle.rvt_tree.specs.declared.programs.Local.{Local}
use Rattle.rvt_tree.specs.declared.programs.Object.{Object}
use Rattle.rvt_tree.specs.declared.programs.StructDef.{StructDef}
use Rattle.rvt_tree.specs.Syntax.{LvalueExpression, identifier, element, member, dereference, subscript, arrow, Expression, constant, null_pointer, value_at, address, decay, cast, plus, minus, complement, negation, binary, equal_pointers, unequal_pointers, pointer_plus, plus_pointer, pointer_minus, logical_and, logical_or, conditional, call, Arguments, no_arguments, argument, Action, evaluate, call_void, discard, discard_void, assign, compound_assign, advance, retreat, step, step_pointer, Initializer, initial_value, braces, Initializers, no_initializers, initializer, Statement, compound, action, declaration, declaration_with, return_value, if_statement, if_else, while_loop, do_loop, for_loop, switch, Statements, no_statements, statement, Groups, no_groups, labelled}
use Rattle.rvt_tree.specs.Views.{stmt_view}
use Rattle.c_types.specs.Layout.{Shape, AWord, APointer, AnArray, AStruct, shape_of, plan_of, plan_of_struct}
use Rattle.c_meaning.specs.Stores.{objects_of}
use Rattle.c_meaning.specs.Promises.{AreOfPlan}

-- ---- shapes

abbrev pub shape_of_pointee : Pointee → Shape
shape_of_pointee (P.Word kind) = AWord kind
shape_of_pointee (P.Struct number) = AStruct number

-- how many cells a value of a shape has
abbrev pub cells_of_shape : Program → Shape → Option ℕ
cells_of_shape program (AWord kind) = Some 1
cells_of_shape program (APointer pointee to_constant) = Some 1
cells_of_shape program (AnArray item count) = option_map (λ n. count * n) (cells_of_shape program item)
cells_of_shape program (AStruct number) = option_map (λ plan. length plan.cells) (plan_of_struct program.structs (length program.structs.list) number)

-- the field of a number, from a cell on: its shape, and the cell at which it begins
abbrev pub field_from : Program → ℕ → List CType → ℕ → Option (Shape × ℕ)
field_from program cell [] field = None
field_from program cell (ty ∷ types) zero = Some (shape_of ty, cell)
field_from program cell (ty ∷ types) (suc field) = option_and_then (λ n. field_from program (cell + n) types field) (cells_of_shape program (shape_of ty))

abbrev pub types_of_fields : {A : Type 0} → List (A × CType) → List CType
types_of_fields [] = []
types_of_fields (field ∷ fields) = field.1 ∷ types_of_fields fields

abbrev pub field_of : Program → ℕ → ℕ → Option (Shape × ℕ)
field_of program structure field = option_and_then (λ definition. field_from program 0 (types_of_fields definition.fields) field) (slice_get program.structs.list structure)

-- a value of the first shape may stand where the second is asked: a pointer may become one to `const`
abbrev pub Fits : Shape → Shape → Type 0
Fits (APointer a to_constant) (APointer b to_constant') = (a ≡ b) × (to_constant ≡ true → to_constant' ≡ true)
Fits a b = a ≡ b

abbrev pub IsScalar : Shape → Type 0
IsScalar (AWord kind) = Unit {0}
IsScalar (APointer pointee to_constant) = Unit {0}
IsScalar _ = ⊥

-- ---- variables

-- a function of a program, by its number
pub record Inside : Type 0 where
  pub program : Program
  pub function : Function

abbrev pub local_shape : Option Local → Option Shape
local_shape = option_map (λ local. shape_of local.ty)

abbrev pub variable_shape : Inside → Variable → Option Shape
variable_shape inside (V.Local number) = local_shape (slice_get (inside.function.params ++ inside.function.locals) number)
variable_shape inside (V.Object number) = option_map (λ object. shape_of object.ty) (slice_get (objects_of inside.program) number)

-- a place in an object, whose address can be taken
abbrev pub IsInObject : LvalueExpression → Type 0
IsInObject (identifier (V.Local number)) = ⊥
IsInObject (identifier (V.Object number)) = Unit {0}
IsInObject (element array index count size) = IsInObject array
IsInObject (member aggregate field cell) = IsInObject aggregate
IsInObject _ = Unit {0}

-- an operation on operands of these kinds
pub record IsOperation (op : BinOp) (left right kind : Kind) : Type 0 where
  pub left_promoted : promoted_kind left ≡ left
  pub right_promoted : promoted_kind right ≡ right
  pub same_kind : is_shift op ≡ false → left ≡ right
  pub result : kind ≡ result_kind op left

-- ---- what is asked of an expression, where these are the shapes that its value has

abbrev pub Integer : (Shape → Type 0) → Type 0
Integer Is = (kind : Kind) × Is (AWord kind)

abbrev pub Promoted : (Shape → Type 0) → Shape → Type 0
Promoted Is shape = (kind : Kind) × (promoted_kind kind ≡ kind) × (shape ≡ AWord kind) × Is (AWord kind)

abbrev pub PointerTo : (Shape → Type 0) → Pointee → Type 0
PointerTo Is pointee = (to_constant : Bool) × Is (APointer pointee to_constant)

abbrev pub Condition : (Shape → Type 0) → Type 0
Condition Is = (shape : Shape) × Is shape × IsScalar shape

-- it may stand where a value of this shape is asked
abbrev pub Given : (Shape → Type 0) → Shape → Type 0
Given Is shape = (own : Shape) × Is own × Fits own shape

-- ---- expressions

module _ (inside : Inside) where
  abbrev pub HasCells : Shape → ℕ → Type 0
  HasCells shape size = cells_of_shape inside.program shape ≡ Some size

  abbrev pub HasField : ℕ → ℕ → ℕ → Shape → Type 0
  HasField structure field cell shape = field_of inside.program structure field ≡ Some (shape, cell)

  abbrev mutual
    -- an lvalue of this shape
    pub IsPlace : LvalueExpression → Shape → Type 0
    IsPlace (identifier variable) shape = variable_shape inside variable ≡ Some shape
    IsPlace (element array index count size) shape = IsPlace array (AnArray shape count) × Integer (IsValue index) × HasCells shape size
    IsPlace (member aggregate field cell) shape = (structure : ℕ) × IsPlace aggregate (AStruct structure) × HasField structure field cell shape
    IsPlace (dereference pointer pointee) shape = PointerTo (IsValue pointer) pointee × (shape ≡ shape_of_pointee pointee)
    IsPlace (subscript pointer index pointee size) shape =
        PointerTo (IsValue pointer) pointee × Integer (IsValue index) × HasCells (shape_of_pointee pointee) size × (shape ≡ shape_of_pointee pointee)
    IsPlace (arrow pointer structure field cell) shape = PointerTo (IsValue pointer) (P.Struct structure) × HasField structure field cell shape

    -- an expression whose value has this shape
    pub IsValue : Expression → Shape → Type 0
    IsValue (constant n) shape = (shape ≡ AWord n.kind) × IsOf n.kind n.value
    IsValue null_pointer shape = (pointee : Pointee) × (to_constant : Bool) × (shape ≡ APointer pointee to_constant)
    IsValue (value_at place) shape = IsPlace place shape × IsScalar shape
    IsValue (address place) shape =
        (pointee : Pointee) × (to_constant : Bool) × (shape ≡ APointer pointee to_constant) × IsPlace place (shape_of_pointee pointee) × IsInObject place
    IsValue (decay place) shape =
        (pointee : Pointee) × (to_constant : Bool) × (count : ℕ) × (shape ≡ APointer pointee to_constant) × IsPlace place (AnArray (shape_of_pointee pointee) count) × IsInObject place
    IsValue (cast kind e) shape = (shape ≡ AWord kind) × Integer (IsValue e)
    IsValue (plus e) shape = Promoted (IsValue e) shape
    IsValue (minus e) shape = Promoted (IsValue e) shape
    IsValue (complement e) shape = Promoted (IsValue e) shape
    IsValue (negation e) shape = (shape ≡ AWord I32) × Condition (IsValue e)
    IsValue (binary op a b) shape =
        (left : Kind) × (right : Kind) × (kind : Kind) × IsValue a (AWord left) × IsValue b (AWord right) × IsOperation op left right kind × (shape ≡ AWord kind)
    IsValue (equal_pointers a b) shape = (shape ≡ AWord I32) × ((pointee : Pointee) × PointerTo (IsValue a) pointee × PointerTo (IsValue b) pointee)
    IsValue (unequal_pointers a b) shape = (shape ≡ AWord I32) × ((pointee : Pointee) × PointerTo (IsValue a) pointee × PointerTo (IsValue b) pointee)
    IsValue (pointer_plus pointer count size) shape =
        (pointee : Pointee) × (to_constant : Bool) × (shape ≡ APointer pointee to_constant) × IsValue pointer shape × Integer (IsValue count) × HasCells (shape_of_pointee pointee) size
    IsValue (plus_pointer count pointer size) shape =
        (pointee : Pointee) × (to_constant : Bool) × (shape ≡ APointer pointee to_constant) × IsValue pointer shape × Integer (IsValue count) × HasCells (shape_of_pointee pointee) size
    IsValue (pointer_minus pointer count size) shape =
        (pointee : Pointee) × (to_constant : Bool) × (shape ≡ APointer pointee to_constant) × IsValue pointer shape × Integer (IsValue count) × HasCells (shape_of_pointee pointee) size
    IsValue (logical_and a b) shape = (shape ≡ AWord I32) × Condition (IsValue a) × Condition (IsValue b)
    IsValue (logical_or a b) shape = (shape ≡ AWord I32) × Condition (IsValue a) × Condition (IsValue b)
    IsValue (conditional test first second) shape = Condition (IsValue test) × Given (IsValue first) shape × Given (IsValue second) shape
    IsValue (call function arguments) shape =
        IsSomeAnd (slice_get inside.program.functions function) (λ called. IsSomeAnd called.result (λ result. shape ≡ shape_of result) × AreGiven arguments called.params)

    pub AreGiven : Arguments → List Local → Type 0
    AreGiven no_arguments [] = Unit {0}
    AreGiven (argument e rest) (param ∷ params) = Given (IsValue e) (shape_of param.ty) × AreGiven rest params
    AreGiven _ _ = ⊥

  -- a place that may be assigned to: no constant object
  abbrev pub IsWritable : LvalueExpression → Type 0
  IsWritable (identifier (V.Local number)) = Unit {0}
  IsWritable (identifier (V.Object number)) = IsSomeAnd (slice_get (objects_of inside.program) number) (λ object. object.constant ≡ false)
  IsWritable (element array index count size) = IsWritable array
  IsWritable (member aggregate field cell) = IsWritable aggregate
  IsWritable (dereference pointer pointee) = IsValue pointer (APointer pointee false)
  IsWritable (subscript pointer index pointee size) = IsValue pointer (APointer pointee false)
  IsWritable (arrow pointer structure field cell) = IsValue pointer (APointer (P.Struct structure) false)

  -- ---- acts and initializers

  abbrev pub IsPointerPlace : LvalueExpression → ℕ → Type 0
  IsPointerPlace place size =
      (pointee : Pointee) × (to_constant : Bool) × IsPlace place (APointer pointee to_constant) × IsWritable place × HasCells (shape_of_pointee pointee) size

  abbrev pub IsVoidCall : ℕ → Arguments → Type 0
  IsVoidCall function arguments = IsSomeAnd (slice_get inside.program.functions function) (λ called. (called.result ≡ None) × AreGiven arguments called.params)

  -- a struct alone is an act too
  abbrev pub IsEvaluated : Expression → Type 0
  IsEvaluated (value_at place) = (shape : Shape) × IsPlace place shape
  IsEvaluated e = (shape : Shape) × IsValue e shape

  abbrev pub IsAct : Action → Type 0
  IsAct (evaluate e) = IsEvaluated e
  IsAct (call_void function arguments) = IsVoidCall function arguments
  IsAct (discard e) = IsEvaluated e
  IsAct (discard_void function arguments) = IsVoidCall function arguments
  IsAct (assign place e) = (shape : Shape) × IsPlace place shape × IsScalar shape × IsWritable place × Given (IsValue e) shape
  IsAct (compound_assign op place kind e) =
      (own : Kind) × (right : Kind) × (result : Kind) × IsPlace place (AWord own) × IsWritable place × IsValue e (AWord right) × IsOperation op kind right result
  IsAct (advance place e size) = IsPointerPlace place size × Integer (IsValue e)
  IsAct (retreat place e size) = IsPointerPlace place size × Integer (IsValue e)
  IsAct (step bump place) = (kind : Kind) × IsPlace place (AWord kind) × IsWritable place
  IsAct (step_pointer bump place size) = IsPointerPlace place size

  abbrev pub AreActs : List Action → Type 0
  AreActs [] = Unit {0}
  AreActs (a ∷ rest) = IsAct a × AreActs rest

  abbrev pub shapes_of_types : List CType → List Shape
  shapes_of_types [] = []
  shapes_of_types (ty ∷ types) = shape_of ty ∷ shapes_of_types types

  abbrev pub fields_of : Option StructDef → List Shape
  fields_of None = []
  fields_of (Some definition) = shapes_of_types (types_of_fields definition.fields)

  -- the members of a shape, in order
  abbrev pub members_of : Shape → List Shape
  members_of (AWord kind) = AWord kind ∷ []
  members_of (APointer pointee to_constant) = APointer pointee to_constant ∷ []
  members_of (AnArray item count) = replicate count item
  members_of (AStruct number) = fields_of (slice_get inside.program.structs.list number)

  abbrev mutual
    pub IsInitializer : Initializer → Shape → Type 0
    IsInitializer (initial_value e) shape = IsScalar shape × Given (IsValue e) shape
    IsInitializer (braces members) shape = AreInitializers members (members_of shape)

    pub AreInitializers : Initializers → List Shape → Type 0
    AreInitializers no_initializers shapes = Unit {0}
    AreInitializers (initializer i size rest) [] = ⊥
    AreInitializers (initializer i size rest) (shape ∷ shapes) = IsInitializer i shape × HasCells shape size × AreInitializers rest shapes

  -- ---- statements

  abbrev pub IsDeclared : Variable → (Shape → Type 0) → Type 0
  IsDeclared variable Is = IsSomeAnd (variable_shape inside variable) Is

  abbrev pub IsTest : Option Expression → Type 0
  IsTest None = Unit {0}
  IsTest (Some e) = Condition (IsValue e)

  abbrev pub AreLabels : Kind → List Label → Type 0
  AreLabels kind [] = Unit {0}
  AreLabels kind (Case n ∷ rest) = (n.kind ≡ kind) × AreLabels kind rest
  AreLabels kind (Default ∷ rest) = AreLabels kind rest

  abbrev mutual
    pub IsStatement : Statement → Type 0
    IsStatement (compound body) = AreStatements body
    IsStatement (action a) = IsAct a
    IsStatement (declaration variable) = IsDeclared variable (λ shape. Unit {0})
    IsStatement (declaration_with variable init) = IsDeclared variable (IsInitializer init)
    IsStatement (return_value e) = IsSomeAnd inside.function.result (λ result. Given (IsValue e) (shape_of result))
    IsStatement (if_statement test first) = Condition (IsValue test) × IsStatement first
    IsStatement (if_else test first second) = Condition (IsValue test) × IsStatement first × IsStatement second
    IsStatement (while_loop number test body) = Condition (IsValue test) × IsStatement body
    IsStatement (do_loop number body test) = IsStatement body × Condition (IsValue test)
    IsStatement (for_loop number first test last body) = AreStatements first × IsTest test × AreActs last × IsStatement body
    IsStatement (switch e groups) = (kind : Kind) × IsValue e (AWord kind) × AreGroups kind groups
    IsStatement _ = Unit {0}

    pub AreStatements : Statements → Type 0
    AreStatements no_statements = Unit {0}
    AreStatements (statement s rest) = IsStatement s × AreStatements rest

    pub AreGroups : Kind → Groups → Type 0
    AreGroups kind no_groups = Unit {0}
    AreGroups kind (labelled labels body rest) = AreLabels kind labels × AreStatements body × AreGroups kind rest

-- ---- the numbers of loops

-- in the order in which the loops begin in the source
abbrev mutual
  pub loops_in : Statement → List ℕ
  loops_in (compound body) = loops_in_block body
  loops_in (if_statement test first) = loops_in first
  loops_in (if_else test first second) = loops_in first ++ loops_in second
  loops_in (while_loop number test body) = number ∷ loops_in body
  loops_in (do_loop number body test) = number ∷ loops_in body
  loops_in (for_loop number first test last body) = number ∷ loops_in body
  loops_in (switch e groups) = loops_in_groups groups
  loops_in _ = []

  pub loops_in_block : Statements → List ℕ
  loops_in_block no_statements = []
  loops_in_block (statement s rest) = loops_in s ++ loops_in_block rest

  pub loops_in_groups : Groups → List ℕ
  loops_in_groups no_groups = []
  loops_in_groups (labelled labels body rest) = loops_in_block body ++ loops_in_groups rest

abbrev pub AreCounted : ℕ → List ℕ → Type 0
AreCounted next [] = Unit {0}
AreCounted next (number ∷ rest) = (number ≡ next) × AreCounted (suc next) rest

-- ---- functions and programs

abbrev pub IsBody : Inside → Option Stmt → Type 0
IsBody inside None = Unit {0}
IsBody inside (Some body) = IsStatement inside (stmt_view body) × AreCounted 1 (loops_in (stmt_view body))

-- a local that is an object: it is the function's own, of the local's type, and not constant, though the local may be `const`
pub record IsObjectOf (number : ℕ) (local : Local) (object : Object) : Type 0 where
  pub owner : object.owner ≡ Some number
  pub type : shape_of object.ty ≡ shape_of local.ty
  pub writable : object.constant ≡ false

abbrev pub IsLocal : Program → ℕ → Local → Option ℕ → Type 0
IsLocal program number local None = Unit {0}
IsLocal program number local (Some object) = IsSomeAnd (slice_get (objects_of program) object) (IsObjectOf number local)

pub record IsFunction (program : Program) (number : ℕ) (function : Function) : Type 0 where
  pub locals : All (λ local. IsLocal program number local local.object) (function.params ++ function.locals)
  pub body : IsBody (record { program = program; function = function }) function.body

-- the contents of an object are the numbers of its type
pub record IsObject (program : Program) (object : Object) : Type 0 where
  pub initial : AreOfPlan (plan_of program.structs object.ty) object.initial
  pub owner : (f : ℕ) → object.owner ≡ Some f → f < length program.functions

pub record IsTyped (program : Program) : Type 0 where
  pub functions : (number : ℕ) (function : Function) → slice_get program.functions number ≡ Some function → IsFunction program number function
  pub objects : All (IsObject program) (objects_of program)
