-- Which values begin at each cell of an object, as far as pointers may point to them.
use Rattle.std.specs.Prelude.{◌≡◌, ℕ, List, [], ◌∷◌, get_or, slice_get, Bool, false, ◌||◌, Option, Some, None}
use Rattle.rvt_tree.specs.declared.types.CType.{CType}
use Rattle.rvt_tree.specs.declared.types.CType.TheVariants.{Word, Pointer, Array', Struct}
use Rattle.rvt_tree.specs.declared.types.Pointee.{Pointee}
use Rattle.rvt_tree.specs.declared.types.Pointee.TheVariants as P
use Rattle.rvt_tree.specs.declared.programs.Program.{Program}
use Rattle.rvt_tree.specs.declared.programs.Object.{Object}
use Rattle.c_types.specs.Layout.{Plan, same_pointee}
use Rattle.c_meaning.specs.Stores.{plan_of_object, begins_in_plan}

abbrev pub pointee_of : CType → Option Pointee
pointee_of (Word kind) = Some (P.Word kind)
pointee_of (Pointer pointee constant) = None
pointee_of (Array' p element count) = None
pointee_of (Struct number) = Some (P.Struct number)

abbrev pub is_among : Pointee → List Pointee → Bool
is_among pointee [] = false
is_among pointee (other ∷ others) = same_pointee pointee other || is_among pointee others

-- by cell, what begins there in a value with this plan
abbrev pub AreStarts : List (List Pointee) → Option Plan → Type 0
AreStarts rows plan = (pointee : Pointee) (cell : ℕ) → is_among pointee (get_or rows cell []) ≡ begins_in_plan pointee cell plan

-- by object and cell
abbrev pub AreAllStarts : Program → List (List (List Pointee)) → List Object → Type 0
AreAllStarts program rows objects = (number : ℕ) → AreStarts (get_or rows number []) (plan_of_object program (slice_get objects number))
