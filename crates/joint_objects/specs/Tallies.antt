-- Parameters that point to a type, counted by the places of types in a table.
use Rattle.std.specs.Prelude.{◌≡◌, ℕ, suc, ◌+◌, max, nat_eq, if◌then◌else◌, List, [], ◌∷◌, Option, Some, None, unwrap_or}
use Rattle.indexmap.specs.IndexMap.{IndexMap, get}
use Rattle.rvt_num.specs.declared.kinds.Kind.{Kind}
use Rattle.rvt_num.specs.declared.kinds.Kind.TheVariants as k
use Rattle.rvt_tree.specs.declared.types.Pointee.{Pointee}
use Rattle.rvt_tree.specs.declared.types.Pointee.TheVariants as P
use Rattle.rvt_tree.specs.declared.programs.Local.{Local}
use Rattle.rvt_tree.specs.declared.programs.Function.{Function}
use Rattle.c_types.specs.Layout.{Shape, AWord, APointer, AnArray, AStruct, shape_of}
use Rattle.joint_objects.specs.declared.tallies.Tally.{Tally}
use Rattle.joint_objects.specs.Extras.{most_pointers}

abbrev pub kind_place : Kind → ℕ
kind_place k.Bool = 0
kind_place k.I8 = 1
kind_place k.U8 = 2
kind_place k.I16 = 3
kind_place k.U16 = 4
kind_place k.I32 = 5
kind_place k.U32 = 6
kind_place k.I64 = 7
kind_place k.U64 = 8

abbrev pub place_of : Pointee → ℕ
place_of (P.Word kind) = kind_place kind
place_of (P.Struct number) = number + 9

abbrev pub nothing_met : Tally
nothing_met = record { function = 0; count = 0; most = 0 }

-- how many were met in this function
abbrev pub met_in : ℕ → Tally → ℕ
met_in function tally = if nat_eq tally.function function then tally.count else 0

abbrev pub one_more : ℕ → Tally → Tally
one_more function tally =
    record { function = function; count = met_in function tally + 1; most = max tally.most (met_in function tally + 1) }

abbrev pub pointee_of : Shape → Option Pointee
pointee_of (AWord kind) = None
pointee_of (APointer pointee constant) = Some pointee
pointee_of (AnArray element count) = None
pointee_of (AStruct number) = None

-- with a parameter that points to this, or to nothing
abbrev pub with_pointee : ℕ → ℕ → Option Pointee → Tally → Tally
with_pointee place function None tally = tally
with_pointee place function (Some pointee) tally = if nat_eq (place_of pointee) place then one_more function tally else tally

abbrev pub with_param : ℕ → ℕ → Shape → Tally → Tally
with_param place function shape = with_pointee place function (pointee_of shape)

abbrev pub with_params : ℕ → ℕ → List Local → Tally → Tally
with_params place function [] tally = tally
with_params place function (param ∷ rest) tally = with_params place function rest (with_param place function (shape_of param.ty) tally)

-- with the parameters of functions that are numbered from the one after this
abbrev pub with_functions : ℕ → ℕ → List Function → Tally → Tally
with_functions place function [] tally = tally
with_functions place function (f ∷ rest) tally = with_functions place (function + 1) rest (with_params place (function + 1) f.params tally)

abbrev pub tally_in : {S : Type 0} → IndexMap ℕ Tally S → ℕ → Tally
tally_in table place = unwrap_or (get nat_eq table place) nothing_met

-- the table has for each type the most parameters of one function that point to it
abbrev pub AreMost : {S : Type 0} → List Function → IndexMap ℕ Tally S → Type 0
AreMost functions table = (pointee : Pointee) → (tally_in table (place_of pointee)).most ≡ most_pointers pointee functions
