-- What a word means for a parameter.
use Rattle.std.specs.Prelude.{◌≡◌, ℕ, zero, suc, ◌<◌, ◌≤◌, ◌^◌, Bool, false, ◌&&◌, not, List, [], ◌∷◌, length, codes, bytes_eq, position, slice_get, Option, Some, ℤ}
use Rattle.std.specs.Option.{is_none}
use Rattle.rvt_num.specs.Kinds.{IsOf}
use Rattle.rvt_num.specs.declared.kinds.Kind.{Kind}
use Rattle.rvt_num.specs.declared.values.Value.{Value}
use Rattle.rvt_num.specs.declared.values.Value.TheVariants.{Num, Null, At}
use Rattle.rvt_tree.specs.declared.types.CType.{CType}
use Rattle.rvt_tree.specs.declared.types.CType.TheVariants as C
use Rattle.rvt_tree.specs.declared.programs.Local.{Local}
use Rattle.rvt_tree.specs.declared.programs.Object.{Object}
use Rattle.rvt_tree.specs.declared.programs.Program.{Program}
use Rattle.call_arguments.specs.Texts.{AreDigitsOf, IsWhole, IsAddress}

-- a global of this name: an object without owner
abbrev pub is_global : List ℕ → Object → Bool
is_global name object = is_none object.owner && bytes_eq object.name name

-- the number of the global of this name
abbrev pub global_number : List Object → List ℕ → Option ℕ
global_number objects name = position (is_global name) objects

-- a number in the kind's range
pub record IsNumberIn (kind : Kind) (word : List ℕ) (value : Value) : Type 0 where
  pub whole : ℤ
  pub written : IsWhole word whole
  pub in_range : IsOf kind whole
  pub is : value ≡ Num (record { kind = kind; value = whole })

-- the cell of this number of the global of this name, or its end; a constant one for a pointer to `const` alone
pub record IsCellBy (objects : List Object) (to_constant : Bool) (name digits : List ℕ) (value : Value) : Type 0 where
  pub number : ℕ
  pub cell : ℕ
  pub object : Object
  pub named : global_number objects name ≡ Some number
  pub there : slice_get objects number ≡ Some object
  pub counted : AreDigitsOf digits cell
  pub within : cell ≤ length object.initial
  pub writable : (object.constant && not to_constant) ≡ false
  pub is : value ≡ At number cell
  -- both numbers have 32 bits
  pub few : number < 2 ^ 32
  pub small : cell < 2 ^ 32

pub data IsPointer (objects : List Object) (to_constant : Bool) (word : List ℕ) (value : Value) : Type 0 where
  null : word ≡ codes "null" → value ≡ Null → IsPointer objects to_constant word value
  -- `&NAME[K]`
  into : (name digits : List ℕ) → IsAddress word name digits → IsCellBy objects to_constant name digits value → IsPointer objects to_constant word value

-- the word means this value for a parameter of this type
abbrev pub IsArgument : Program → CType → List ℕ → Value → Type 0
IsArgument program (C.Word kind) word value = IsNumberIn kind word value
IsArgument program (C.Pointer pointee to_constant) word value = IsPointer program.table.objects to_constant word value
IsArgument program (C.Array' p element count) word value = ⊥
IsArgument program (C.Struct number) word value = ⊥

-- the words mean these values for the parameters, one for each
abbrev pub AreArguments : Program → List Local → List (List ℕ) → List Value → Type 0
AreArguments program [] [] [] = Unit {0}
AreArguments program (local ∷ locals) (word ∷ words) (value ∷ values) = IsArgument program local.ty word value × AreArguments program locals words values
AreArguments program _ _ _ = ⊥

-- the first word that means no value of its parameter's type is this one, counted from 0
abbrev pub IsFirstBad : Program → List Local → List (List ℕ) → ℕ → Type 0
IsFirstBad program (local ∷ locals) (word ∷ words) zero = (value : Value) → IsArgument program local.ty word value → ⊥
IsFirstBad program (local ∷ locals) (word ∷ words) (suc k) = ((value : Value) × IsArgument program local.ty word value) × IsFirstBad program locals words k
IsFirstBad program _ _ k = ⊥
