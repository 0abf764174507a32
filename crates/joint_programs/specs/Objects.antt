-- The objects of the joint table as one of the programs has them.
use Rattle.std.specs.Prelude.{ℕ, zero, suc, List, [], ◌∷◌, ◌++◌, Bool, true, false, ◌||◌, get_or, slice_get, Option, Some, None, option_and_then}
use Rattle.rvt_num.specs.declared.kinds.Kind.{Kind}
use Rattle.rvt_num.specs.declared.kinds.Kind.TheVariants.{I32}
use Rattle.rvt_num.specs.declared.values.Value.{Value}
use Rattle.rvt_tree.specs.declared.types.CType.TheVariants as C
use Rattle.rvt_tree.specs.declared.programs.Object.{Object}
use Rattle.c_types.specs.Layout.{Shape, AWord, AnArray, AStruct, shape_of, Plan, plan_of}
use Rattle.c_meaning.specs.Runs.{zero_cell, zero_cells}
use Rattle.version_map.specs.declared.map.Added.{Added}
use Rattle.joint_objects.specs.declared.objects.Origin.{Origin}
use Rattle.joint_objects.specs.declared.objects.Origin.TheVariants.{Both, Old, New}
use Rattle.joint_objects.specs.declared.objects.Element.{Element}
use Rattle.joint_objects.specs.declared.objects.Element.TheVariants as e
use Rattle.joint_objects.specs.declared.objects.JointObject.{JointObject}
use Rattle.joint_objects.specs.declared.objects.JointObject.TheVariants.{Global, Local, Extra, Mapped}
use Rattle.joint_programs.specs.Parts.{ObjectParts}
use Rattle.joint_programs.specs.Views.{View}
use Rattle.joint_programs.specs.Structs.{number_across, shape_across}

-- ---- objects that a file has

-- an object of a number that no object of the file has (the joint table names none)
abbrev pub no_object : ObjectParts
no_object = record { name = []; shape = AWord I32; constant = false; addressable = false; owner = None; initial = [] }

-- an object of ours, whose address may be taken in the other file too
abbrev pub own_object : Bool → Object → ObjectParts
own_object taken o =
    record { name = o.name; shape = shape_of o.ty; constant = o.constant; addressable = o.addressable || taken; owner = o.owner; initial = o.initial }

-- the partner in ours of a function of theirs
abbrev pub function_across : View → Option ℕ → Option ℕ
function_across view owner = option_and_then (λ function. get_or view.functions function None) owner

-- an object of theirs alone: it has the contents that they give it, and is owned by the partner of its owner
abbrev pub their_object : View → Object → ObjectParts
their_object view o =
    record {
      name = o.name;
      shape = shape_across (number_across view) (shape_of o.ty);
      constant = o.constant;
      addressable = o.addressable;
      owner = function_across view o.owner;
      initial = o.initial;
    }

abbrev pub or_none : (Object → ObjectParts) → Option Object → ObjectParts
or_none seen None = no_object
or_none seen (Some o) = seen o

abbrev pub is_addressable : Option Object → Bool
is_addressable None = false
is_addressable (Some o) = o.addressable

abbrev pub object_from : View → Origin → ObjectParts
object_from view (Both a b) = or_none (own_object (is_addressable (slice_get view.theirs.table.objects b))) (slice_get view.ours.table.objects a)
object_from view (Old a) = or_none (own_object false) (slice_get view.ours.table.objects a)
object_from view (New b) = or_none (their_object view) (slice_get view.theirs.table.objects b)

-- ---- arrays that are added: all numbers are zero

-- these cells, so many times
abbrev pub repeated_cells : ℕ → List Value → List Value
repeated_cells zero cells = []
repeated_cells (suc n) cells = cells ++ repeated_cells n cells

abbrev pub an_array : List ℕ → Shape → List Value → ℕ → ObjectParts
an_array name element cells count =
    record { name = name; shape = AnArray element count; constant = false; addressable = true; owner = None; initial = repeated_cells count cells }

abbrev pub an_array_of_words : List ℕ → Kind → ℕ → ObjectParts
an_array_of_words name kind = an_array name (AWord kind) (zero_cell (Some kind) ∷ [])

-- a struct by its number in our program, and by its plan in a file that has it
abbrev pub struct_number : View → Origin → ℕ
struct_number view (Both a b) = a
struct_number view (Old a) = a
struct_number view (New b) = number_across view b

abbrev pub struct_plan : View → Origin → Option Plan
struct_plan view (Both a b) = plan_of view.ours.structs (C.Struct a)
struct_plan view (Old a) = plan_of view.ours.structs (C.Struct a)
struct_plan view (New b) = plan_of view.theirs.structs (C.Struct b)

abbrev pub extra_array : View → Element → ObjectParts
extra_array view (e.Word kind) = an_array_of_words [] kind 8
extra_array view (e.Struct origin) = an_array [] (AStruct (struct_number view origin)) (zero_cells (struct_plan view origin)) 8

abbrev pub mapped_array : Option Added → ObjectParts
mapped_array None = no_object
mapped_array (Some added) = an_array_of_words added.name added.kind added.count

-- ---- the objects of the table

abbrev pub joint_object : View → List Added → JointObject → ObjectParts
joint_object view added (Global origin) = object_from view origin
joint_object view added (Local origin declaration) = object_from view origin
joint_object view added (Extra element number) = extra_array view element
joint_object view added (Mapped number) = mapped_array (slice_get added number)
