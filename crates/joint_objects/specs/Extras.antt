-- Arrays that are added for the parameters that are pointers.
use Rattle.std.specs.Prelude.{ℕ, zero, suc, ◌+◌, max, Bool, false, ◌&&◌, is_none, if◌then◌else◌, List, [], ◌∷◌, ◌++◌, get_or, Option, Some, None}
use Rattle.std.specs.List.{flat_map}
use Rattle.rvt_num.specs.declared.kinds.Kind.{Kind}
use Rattle.rvt_num.specs.declared.kinds.Kind.TheVariants as k
use Rattle.rvt_tree.specs.declared.types.Pointee.{Pointee}
use Rattle.rvt_tree.specs.declared.types.Pointee.TheVariants as P
use Rattle.c_types.specs.Layout.{Shape, AWord, APointer, AnArray, AStruct, shape_of, same_pointee}
use Rattle.rvt_tree.specs.declared.programs.Local.{Local}
use Rattle.rvt_tree.specs.declared.programs.Function.{Function}
use Rattle.rvt_tree.specs.declared.programs.StructDef.{StructDef}
use Rattle.joint_objects.specs.declared.objects.Origin.{Origin}
use Rattle.joint_objects.specs.declared.objects.Origin.TheVariants.{Both, Old, New}
use Rattle.joint_objects.specs.declared.objects.Element.{Element}
use Rattle.joint_objects.specs.declared.objects.Element.TheVariants as e
use Rattle.joint_objects.specs.declared.objects.JointObject.{JointObject}
use Rattle.joint_objects.specs.declared.objects.JointObject.TheVariants.{Extra}

-- a pointer to this, or to `const` of this
abbrev pub points_to : Pointee → Shape → Bool
points_to pointee (AWord kind) = false
points_to pointee (APointer to constant) = same_pointee pointee to
points_to pointee (AnArray element count) = false
points_to pointee (AStruct number) = false

-- how many of the parameters point to it
abbrev pub pointers_among : Pointee → List Local → ℕ
pointers_among pointee [] = 0
pointers_among pointee (param ∷ rest) = (if points_to pointee (shape_of param.ty) then 1 else 0) + pointers_among pointee rest

-- the largest number of parameters of one function that point to it
abbrev pub most_pointers : Pointee → List Function → ℕ
most_pointers pointee [] = 0
most_pointers pointee (f ∷ rest) = max (pointers_among pointee f.params) (most_pointers pointee rest)

-- so many arrays of one element type
abbrev pub arrays_of : Element → ℕ → List JointObject
arrays_of element zero = []
arrays_of element (suc n) = arrays_of element n ++ Extra element n ∷ []

-- ---- kinds, in their order

abbrev pub kinds_in_order : List Kind
kinds_in_order = k.Bool ∷ k.I8 ∷ k.U8 ∷ k.I16 ∷ k.U16 ∷ k.I32 ∷ k.U32 ∷ k.I64 ∷ k.U64 ∷ []

abbrev pub arrays_of_kind : List Function → List Function → Kind → List JointObject
arrays_of_kind old new kind = arrays_of (e.Word kind) (max (most_pointers (P.Word kind) old) (most_pointers (P.Word kind) new))

-- ---- structs that are complete in their file, in the order of their bodies

abbrev pub most_of_partner : Option ℕ → List Function → ℕ
most_of_partner None functions = 0
most_of_partner (Some b) functions = most_pointers (P.Struct b) functions

abbrev pub origin_of_old : ℕ → Option ℕ → Origin
origin_of_old a (Some b) = Both a b
origin_of_old a None = Old a

abbrev pub arrays_of_old_struct : List Function → List Function → ℕ → Option ℕ → StructDef → List JointObject
arrays_of_old_struct old new a partner s =
    if s.complete then arrays_of (e.Struct (origin_of_old a partner)) (max (most_pointers (P.Struct a) old) (most_of_partner partner new)) else []

-- of the structs of the old file, from this number on
abbrev pub arrays_of_old_structs : List Function → List Function → List (Option ℕ) → ℕ → List StructDef → List JointObject
arrays_of_old_structs old new partners a [] = []
arrays_of_old_structs old new partners a (s ∷ rest) = arrays_of_old_struct old new a (get_or partners a None) s ++ arrays_of_old_structs old new partners (a + 1) rest

abbrev pub arrays_of_new_struct : List Function → ℕ → Option ℕ → StructDef → List JointObject
arrays_of_new_struct new b partner s = if s.complete && is_none partner then arrays_of (e.Struct (New b)) (most_pointers (P.Struct b) new) else []

-- of the structs of the new file alone
abbrev pub arrays_of_new_structs : List Function → List (Option ℕ) → ℕ → List StructDef → List JointObject
arrays_of_new_structs new partners b [] = []
arrays_of_new_structs new partners b (s ∷ rest) = arrays_of_new_struct new b (get_or partners b None) s ++ arrays_of_new_structs new partners (b + 1) rest
