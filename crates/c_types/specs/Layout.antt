-- The cells of a type, and which values begin where (C 6.2.5): an array is its elements in order, a struct its fields in order.
use Rattle.std.specs.Prelude.{ℕ, zero, suc, ◌+◌, List, [], ◌∷◌, ◌++◌, map, length, slice_get, Bool, true, false, ◌&&◌, ◌||◌, not, nat_eq, if◌then◌else◌, Option, Some, None, option_map, option_and_then}
use Rattle.rvt_num.specs.declared.kinds.Kind.{Kind}
use Rattle.rvt_num.specs.Kinds.{width, is_signed}
use Rattle.rvt_tree.specs.declared.types.CType.{CType}
use Rattle.rvt_tree.specs.declared.types.CType.TheVariants.{Word, Pointer, Array', Struct}
use Rattle.rvt_tree.specs.declared.types.Pointee.{Pointee}
use Rattle.rvt_tree.specs.declared.types.Pointee.TheVariants as P
use Rattle.rvt_tree.specs.declared.programs.StructDef.{StructDef}
use Rattle.rvt_tree.specs.declared.programs.Structs.{Structs}

-- a type, without where its parts lie in memory
pub data Shape : Type 0 where
  AWord : Kind → Shape
  APointer : Pointee → Bool → Shape
  AnArray : Shape → ℕ → Shape
  AStruct : ℕ → Shape

abbrev pub shape_of : CType → Shape
shape_of (Word kind) = AWord kind
shape_of (Pointer pointee constant) = APointer pointee constant
shape_of (Array' p element count) = AnArray (shape_of element) count
shape_of (Struct number) = AStruct number

-- a value of this shape begins at this cell
pub record Begin : Type 0 where
  pub what : Shape
  pub cell : ℕ

-- the cells of a type in order, each with its kind or with None for a pointer, and what begins where
pub record Plan : Type 0 where
  pub cells : List (Option Kind)
  pub starts : List Begin

abbrev pub empty : Plan
empty = record { cells = []; starts = [] }

-- a begin, so many cells further on
abbrev pub further : ℕ → Begin → Begin
further by start = record { what = start.what; cell = by + start.cell }

-- one plan after another
abbrev pub followed_by : Plan → Plan → Plan
followed_by first second = record { cells = first.cells ++ second.cells; starts = first.starts ++ map (further (length first.cells)) second.starts }

-- so many of one plan, in order
abbrev pub repeated : ℕ → Plan → Plan
repeated zero plan = empty
repeated (suc n) plan = followed_by plan (repeated n plan)

-- a value of this shape has this plan
abbrev pub is_whole : Shape → Plan → Plan
is_whole shape plan = record { cells = plan.cells; starts = record { what = shape; cell = 0 } ∷ plan.starts }

abbrev pub one_cell : Shape → Option Kind → Plan
one_cell shape cell = is_whole shape (record { cells = cell ∷ []; starts = [] })

-- the plan of a type, where the plan of each struct is known
abbrev pub plan_with : (ℕ → Option Plan) → CType → Option Plan
plan_with known (Word kind) = Some (one_cell (AWord kind) (Some kind))
plan_with known (Pointer pointee constant) = Some (one_cell (APointer pointee constant) None)
plan_with known (Array' p element count) = option_map (λ plan. is_whole (AnArray (shape_of element) count) (repeated count plan)) (plan_with known element)
plan_with known (Struct number) = option_map (is_whole (AStruct number)) (known number)

-- types in order
abbrev pub plan_in_order : (ℕ → Option Plan) → List CType → Option Plan
plan_in_order known [] = Some empty
plan_in_order known (ty ∷ types) =
    option_and_then (λ first. option_map (followed_by first) (plan_in_order known types)) (plan_with known ty)

abbrev pub plan_of_definition : (ℕ → Option Plan) → Option StructDef → Option Plan
plan_of_definition known None = None
plan_of_definition known (Some definition) = if definition.complete then plan_in_order known (map (λ field. field.1) definition.fields) else None

-- the fields of a struct, where structs stand in one another at most so deep
abbrev pub plan_of_struct : Structs → ℕ → ℕ → Option Plan
plan_of_struct structs zero number = None
plan_of_struct structs (suc depth) number = plan_of_definition (plan_of_struct structs depth) (slice_get structs.list number)

-- the plan of a type, and None where the type is incomplete
abbrev pub plan_of : Structs → CType → Option Plan
plan_of structs ty = plan_with (plan_of_struct structs (length structs.list)) ty

-- ---- what a pointer may point to

abbrev pub both_or_neither : Bool → Bool → Bool
both_or_neither true b = b
both_or_neither false b = not b

-- a kind is known by its width and its sign
abbrev pub same_kind : Kind → Kind → Bool
same_kind a b = nat_eq (width a) (width b) && both_or_neither (is_signed a) (is_signed b)

abbrev pub is_of_pointee : Pointee → Shape → Bool
is_of_pointee (P.Word a) (AWord b) = same_kind a b
is_of_pointee (P.Struct a) (AStruct b) = nat_eq a b
is_of_pointee _ _ = false

-- a value that the pointer may point to begins at this cell
abbrev pub begins_in : Pointee → ℕ → List Begin → Bool
begins_in pointee cell [] = false
begins_in pointee cell (start ∷ starts) = (nat_eq cell start.cell && is_of_pointee pointee start.what) || begins_in pointee cell starts

-- ---- which values begin where

abbrev pub same_pointee : Pointee → Pointee → Bool
same_pointee (P.Word a) (P.Word b) = same_kind a b
same_pointee (P.Struct a) (P.Struct b) = nat_eq a b
same_pointee _ _ = false

abbrev pub same_shape : Shape → Shape → Bool
same_shape (AWord a) (AWord b) = same_kind a b
same_shape (APointer a to_constant) (APointer b to_constant') = same_pointee a b && both_or_neither to_constant to_constant'
same_shape (AnArray a n) (AnArray b m) = same_shape a b && nat_eq n m
same_shape (AStruct a) (AStruct b) = nat_eq a b
same_shape _ _ = false

-- a value of this shape begins at this cell
abbrev pub begins : Shape → ℕ → List Begin → Bool
begins shape cell [] = false
begins shape cell (start ∷ starts) = (nat_eq start.cell cell && same_shape start.what shape) || begins shape cell starts

-- what a list of types and cells says
abbrev pub starts_of : List (CType × ℕ) → List Begin
starts_of = map (λ start. record { what = shape_of start.0; cell = start.1 })
