-- The joint table: which objects stand in it, and in which order.
use Rattle.std.specs.Prelude.{◌≡◌, ℕ, zero, suc, List, [], ◌∷◌, ◌++◌, map, length, Option, Some, None}
use Rattle.std.specs.List.{flat_map}
use Rattle.version_map.specs.Maps.{Entries}
use Rattle.rvt_tree.specs.declared.programs.Program.{Program}
use Rattle.joint_objects.specs.declared.found.Found.{Found}
use Rattle.joint_objects.specs.declared.objects.Origin.{Origin}
use Rattle.joint_objects.specs.declared.objects.Origin.TheVariants.{Both, Old, New}
use Rattle.joint_objects.specs.declared.objects.JointObject.{JointObject}
use Rattle.joint_objects.specs.declared.objects.JointObject.TheVariants.{Global, Local, Extra, Mapped}
use Rattle.joint_objects.specs.Sides.{Partners, from_old, from_new}
use Rattle.joint_objects.specs.StructTypes.{struct_partners}
use Rattle.joint_objects.specs.Globals.{globals_from}
use Rattle.joint_objects.specs.Locals.{locals_from}
use Rattle.joint_objects.specs.Extras.{origin_of_old, kinds_in_order, arrays_of_kind, arrays_of_old_structs, arrays_of_new_structs}

-- ---- the table

abbrev pub global_of_old : Found → JointObject
global_of_old found = Global (origin_of_old found.object found.partner)

abbrev pub local_of_old : Found → JointObject
local_of_old found = Local (origin_of_old found.object found.partner) found.declaration

-- an object of the new file, where it has no partner
abbrev pub if_alone : (Origin → JointObject) → ℕ → Option ℕ → List JointObject
if_alone what object None = what (New object) ∷ []
if_alone what object (Some a) = []

abbrev pub global_of_new : Found → List JointObject
global_of_new found = if_alone Global found.object found.partner

abbrev pub local_of_new : Found → List JointObject
local_of_new found = if_alone (λ origin. Local origin found.declaration) found.object found.partner

-- the globals of the old file, each with its partner, and then those of the new file alone
abbrev pub all_globals : List Found → List Found → List JointObject
all_globals old new = map global_of_old old ++ flat_map global_of_new new

-- the same of the locals that are objects
abbrev pub all_locals : List Found → List Found → List JointObject
all_locals old new = map local_of_old old ++ flat_map local_of_new new

-- the arrays of each kind, of each struct of the old file, and of each struct of the new file alone, where the partner of each struct is known both ways
abbrev pub extra_arrays : List (Option ℕ) → List (Option ℕ) → Program → Program → List JointObject
extra_arrays old_structs new_structs old new =
    flat_map (arrays_of_kind old.functions new.functions) kinds_in_order
    ++ (arrays_of_old_structs old.functions new.functions old_structs 0 old.structs.list
    ++ arrays_of_new_structs new.functions new_structs 0 new.structs.list)

-- so many arrays of the map
abbrev pub mapped_arrays : ℕ → List JointObject
mapped_arrays zero = []
mapped_arrays (suc n) = mapped_arrays n ++ Mapped n ∷ []

-- the objects of two files, where the partners of functions and of structs are known both ways
abbrev pub table_of : Program → Program → Partners → Partners → Entries → List JointObject
table_of old new functions structs said =
    all_globals
    (globals_from structs.of_old (from_old said.globals) new.table.objects 0 old.table.objects)
    (globals_from structs.of_new (from_new said.globals) old.table.objects 0 new.table.objects)
    ++ (all_locals
    (locals_from structs.of_old functions.of_old new.functions 0 old.functions)
    (locals_from structs.of_new functions.of_new old.functions 0 new.functions)
    ++ (extra_arrays structs.of_old structs.of_new old new
    ++ mapped_arrays (length said.objects)))

abbrev pub equal_structs : Program → Program → Partners
equal_structs old new = record { of_old = struct_partners old.structs.list new.structs.list; of_new = struct_partners new.structs.list old.structs.list }

-- The joint table of two files whose functions are paired so: the globals, the locals that are objects, the extra arrays, and the arrays of the map.
abbrev pub joint_table : Program → Program → List (Option ℕ) → List (Option ℕ) → Entries → List JointObject
joint_table old new of_old of_new = table_of old new (record { of_old = of_old; of_new = of_new }) (equal_structs old new)
