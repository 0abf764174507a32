-- What functions may touch through pointers.
use Rattle.std.specs.Prelude.{◌≡◌, ℕ, All, slice_get, Bool, true, false, Option, Some, None, option_map}
use Rattle.rvt_num.specs.declared.values.Value.{Value}
use Rattle.rvt_num.specs.declared.values.Value.TheVariants.{Num, Null, At}
use Rattle.rvt_tree.specs.declared.types.Pointee.{Pointee}
use Rattle.rvt_tree.specs.declared.pairings.Pairing.{Pairing}
use Rattle.rvt_tree.specs.declared.programs.Program.{Program}
use Rattle.rvt_tree.specs.declared.programs.Function.{Function}
use Rattle.rvt_tree.specs.declared.programs.Object.{Object}
use Rattle.rvt_tree.specs.Same.{ArePaired}
use Rattle.rvt_tree.specs.Views.{stmt_view}
use Rattle.body_pointees.specs.Pointees.{body_pointees}
use Rattle.c_meaning.specs.Stores.{objects_of, begins_at}

abbrev pub is_addressable : Option Object → Bool
is_addressable None = false
is_addressable (Some object) = object.addressable

-- a pointer to this type, dereferenced, touches only objects that are paired: those are all the addressable ones in which a value of the type begins
abbrev pub TouchesPaired : Pairing → Program → Pointee → Type 0
TouchesPaired pairing program pointee =
    (number cell : ℕ) → is_addressable (slice_get (objects_of program) number) ≡ true → begins_at program pointee number cell ≡ true → ArePaired pairing.objects number number

-- the pointers that a function dereferences do so
abbrev pub FunctionTouchesPaired : Pairing → Program → Option Function → Type 0
FunctionTouchesPaired pairing program None = Unit {0}
FunctionTouchesPaired pairing program (Some function) = All (TouchesPaired pairing program) (body_pointees (option_map stmt_view function.body))

-- all functions that are paired touch only objects that are paired through pointers
abbrev pub TouchOnlyPaired : Pairing → Program → Type 0
TouchOnlyPaired pairing program = (f g : ℕ) → ArePaired pairing.functions f g → FunctionTouchesPaired pairing program (slice_get program.functions f)

-- a pointer is into an object that is addressable or paired
abbrev pub PointsOpenly : Pairing → Program → Value → Type 0
PointsOpenly pairing program (At number cell) = is_addressable (slice_get (objects_of program) number) ≡ false → ArePaired pairing.objects number number
PointsOpenly pairing program Null = Unit {0}
PointsOpenly pairing program (Num n) = Unit {0}
