-- What is promised of two versions of a unit.
use Rattle.std.specs.Prelude.{◌≡◌, ◌≢◌, ℕ, ◌≤◌, List, [], ◌∷◌, ◌++◌, map, length, slice_get, Bool, true, false, if◌then◌else◌, Option, Some, None, option_map}
use Rattle.rvt_num.specs.Kinds.{IsOf}
use Rattle.rvt_num.specs.declared.kinds.Kind.{Kind}
use Rattle.rvt_num.specs.declared.values.Value.{Value}
use Rattle.rvt_num.specs.declared.values.Value.TheVariants.{Num, Null, At}
use Rattle.rvt_tree.specs.declared.types.CType.{CType}
use Rattle.rvt_tree.specs.declared.types.CType.TheVariants as C
use Rattle.rvt_tree.specs.declared.programs.Program.{Program}
use Rattle.rvt_tree.specs.declared.programs.Function.{Function}
use Rattle.rvt_tree.specs.declared.programs.Object.{Object}
use Rattle.c_types.specs.Layout.{Plan, plan_of}
use Rattle.c_meaning.specs.Stores.{objects_of}
use Rattle.c_meaning.specs.Runs.{End, Stop, Ended, run}
use Rattle.c_meaning.specs.Loops.{run_loop}

-- a function, or a loop of a function with the numbers of the locals of its interface
pub data Part : Type 0 where
  AFunction : ℕ → Part
  ALoop : ℕ → ℕ → List ℕ → Part

-- the arguments, each a list of one cell, or the cells of a loop's locals; and the mutable cells
pub record Start : Type 0 where
  pub given : List (List Value)
  pub store : List Value

abbrev pub flat : List (List Value) → List Value
flat [] = []
flat (cells ∷ rest) = cells ++ flat rest

abbrev pub run_part : Program → Part → Start → ℕ → ℕ → Stop
run_part program (AFunction function) start n d = run program function (flat start.given) start.store n d
run_part program (ALoop function number interface) start n d = run_loop program function number interface start.given start.store n d

-- the part ends so, for some steps and some nested calls
abbrev pub Ends : Program → Part → Start → End → Type 0
Ends program part start end = (n : ℕ) × (d : ℕ) × (steps : ℕ) × (run_part program part start n d ≡ Ended end steps)

-- ---- inputs

abbrev pub IsNumberOf : Kind → Value → Type 0
IsNumberOf kind (Num n) = (n.kind ≡ kind) × IsOf kind n.value
IsNumberOf kind Null = ⊥
IsNumberOf kind (At number cell) = ⊥

abbrev pub is_owned_by : (ℕ → Bool) → Option ℕ → Bool
is_owned_by reached None = false
is_owned_by reached (Some owner) = reached owner

-- a pointer may be into this object: it is addressable, not constant unless the pointer is to `const`, and no local of a function that is reached
pub record IsAimed (reached : ℕ → Bool) (to_constant : Bool) (cell : ℕ) (object : Object) : Type 0 where
  pub addressable : object.addressable ≡ true
  pub within : cell ≤ length object.initial
  pub writable : to_constant ≡ false → object.constant ≡ false
  pub no_local : is_owned_by reached object.owner ≡ false

abbrev pub IsPointerInto : Program → (ℕ → Bool) → Bool → Value → Type 0
IsPointerInto program reached to_constant (Num n) = ⊥
IsPointerInto program reached to_constant Null = Unit {0}
IsPointerInto program reached to_constant (At number cell) =
    (object : Object) × (slice_get (objects_of program) number ≡ Some object) × IsAimed reached to_constant cell object

-- the numbers of an array or a struct, each of the kind at its place; pointers stand in neither
abbrev pub AreNumbersOf : List (Option Kind) → List Value → Type 0
AreNumbersOf [] [] = Unit {0}
AreNumbersOf (Some kind ∷ kinds) (v ∷ cells) = IsNumberOf kind v × AreNumbersOf kinds cells
AreNumbersOf _ _ = ⊥

abbrev pub AreOfPlan : Option Plan → List Value → Type 0
AreOfPlan None cells = ⊥
AreOfPlan (Some plan) cells = AreNumbersOf plan.cells cells

abbrev pub IsOnly : (Value → Type 0) → List Value → Type 0
IsOnly Is (v ∷ []) = Is v
IsOnly Is _ = ⊥

-- the cells of a variable of this type
abbrev pub IsOfType : Program → (ℕ → Bool) → CType → List Value → Type 0
IsOfType program reached (C.Word kind) cells = IsOnly (IsNumberOf kind) cells
IsOfType program reached (C.Pointer pointee to_constant) cells = IsOnly (IsPointerInto program reached to_constant) cells
IsOfType program reached (C.Array' p element count) cells = AreOfPlan (plan_of program.structs (C.Array' p element count)) cells
IsOfType program reached (C.Struct number) cells = AreOfPlan (plan_of program.structs (C.Struct number)) cells

abbrev pub AreOfTypes : Program → (ℕ → Bool) → List (Option CType) → List (List Value) → Type 0
AreOfTypes program reached [] [] = Unit {0}
AreOfTypes program reached (Some ty ∷ types) (cells ∷ given) = IsOfType program reached ty cells × AreOfTypes program reached types given
AreOfTypes program reached _ _ = ⊥

-- each cell holds a number of the kind of its contents in the table
abbrev pub AreOfKinds : List Value → List Value → Type 0
AreOfKinds [] [] = Unit {0}
AreOfKinds (Num n ∷ contents) (v ∷ cells) = IsNumberOf n.kind v × AreOfKinds contents cells
AreOfKinds _ _ = ⊥

abbrev pub mutable_cells : List Object → List Value
mutable_cells [] = []
mutable_cells (object ∷ objects) = (if object.constant then [] else object.initial) ++ mutable_cells objects

-- the types of what a part is given: a function its parameters, a loop the locals of its interface
abbrev pub types_in : Part → Option Function → List (Option CType)
types_in part None = []
types_in (AFunction number) (Some function) = map (λ local. Some local.ty) function.params
types_in (ALoop number loop interface) (Some function) = map (λ local. option_map (λ l. l.ty) (slice_get (function.params ++ function.locals) local)) interface

abbrev pub function_of : Part → ℕ
function_of (AFunction function) = function
function_of (ALoop function number interface) = function

abbrev pub types_of : Program → Part → List (Option CType)
types_of program part = types_in part (slice_get program.functions (function_of part))

-- a version of a unit, and the functions that its pair reaches, in the calls of either version, by their numbers in this program
pub record Version : Type 0 where
  pub program : Program
  pub part : Part
  pub reached : ℕ → Bool

-- a start is an input as far as this version can see
pub record IsInputOf (version : Version) (start : Start) : Type 0 where
  pub given : AreOfTypes version.program version.reached (types_of version.program version.part) start.given
  pub store : AreOfKinds (mutable_cells (objects_of version.program)) start.store

-- ---- two versions

pub record Versions : Type 0 where
  pub old : Version
  pub new_side : Version

-- an input of both: an object that is a local in either version is none of the other's table alone
pub record IsInput (versions : Versions) (start : Start) : Type 0 where
  pub old : IsInputOf versions.old start
  pub new_side : IsInputOf versions.new_side start

abbrev pub EndsFrom : Version → Start → End → Type 0
EndsFrom version = Ends version.program version.part

-- wherever both end they have the same end: the same trap; or equal results and equal stores; or equal locals and equal stores
abbrev pub Partial : Versions → Type 0
Partial v =
    (start : Start) → IsInput v start → (end end' : End) → EndsFrom v.old start end → EndsFrom v.new_side start end' → end ≡ end'

-- and where one ends the other does too
pub record Full (v : Versions) : Type 0 where
  pub partial : Partial v
  pub old_ends_too : (start : Start) → IsInput v start → (end : End) → EndsFrom v.new_side start end → (end' : End) × EndsFrom v.old start end'
  pub new_ends_too : (start : Start) → IsInput v start → (end : End) → EndsFrom v.old start end → (end' : End) × EndsFrom v.new_side start end'

-- with n steps and d nested calls both end, and not alike
pub record DiffersAt (v : Versions) (start : Start) (n d : ℕ) : Type 0 where
  pub is_input : IsInput v start
  pub old_end : End
  pub old_steps : ℕ
  pub new_end : End
  pub new_steps : ℕ
  pub old_ended : run_part v.old.program v.old.part start n d ≡ Ended old_end old_steps
  pub new_ended : run_part v.new_side.program v.new_side.part start n d ≡ Ended new_end new_steps
  pub not_same : old_end ≢ new_end

-- ---- two functions, and two loops

abbrev pub function_versions : Program → Program → ℕ → ℕ → (ℕ → Bool) → (ℕ → Bool) → Versions
function_versions old new_program f g reached reached' =
    record {
      old = record { program = old; part = AFunction f; reached = reached };
      new_side = record { program = new_program; part = AFunction g; reached = reached' };
    }

abbrev pub loop_versions : Program → Program → ℕ → ℕ → ℕ → List ℕ → (ℕ → Bool) → (ℕ → Bool) → Versions
loop_versions old new_program f g number interface reached reached' =
    record {
      old = record { program = old; part = ALoop f number interface; reached = reached };
      new_side = record { program = new_program; part = ALoop g number interface; reached = reached' };
    }
