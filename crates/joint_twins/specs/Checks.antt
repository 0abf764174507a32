-- What is asked of lists of objects and of partners.
use Rattle.std.specs.Prelude.{◌≡◌, ◌↔◌, ℕ, List, slice_get, Option, Some, None}
use Rattle.rvt_tree.specs.declared.programs.Object.{Object}
use Rattle.rvt_tree.specs.Same.{ArePaired}
use Rattle.c_types.specs.Layout.{shape_of}
use Rattle.joint_laws.specs.Premises.{HoldsBelow}

abbrev pub HoldAll : ℕ → List Object → Type 0
HoldAll count objects = (number : ℕ) (object : Object) → slice_get objects number ≡ Some object → HoldsBelow count (shape_of object.ty)

-- this is the partner of its partner, if it has one
abbrev pub TurnsAt : List (Option ℕ) → ℕ → Option ℕ → Type 0
TurnsAt back a None = Unit {0}
TurnsAt back a (Some b) = ArePaired back b a

abbrev pub AllTurn : List (Option ℕ) → List (Option ℕ) → Type 0
AllTurn there back = (a b : ℕ) → ArePaired there a b → ArePaired back b a

abbrev pub TurnBothWays : List (Option ℕ) → List (Option ℕ) → Type 0
TurnBothWays there back = (a b : ℕ) → ArePaired there a b ↔ ArePaired back b a
