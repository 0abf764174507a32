-- Two programs over one table of objects, in which some constants may have other contents.
use Rattle.std.specs.Prelude.{◌≡◌, ℕ, List, [], ◌∷◌, length, slice_get, true, Option, Some}
use Rattle.rvt_num.specs.declared.values.Value.{Value}
use Rattle.rvt_num.specs.declared.values.Value.TheVariants.{Num}
use Rattle.rvt_tree.specs.declared.types.Pointee.{Pointee}
use Rattle.rvt_tree.specs.declared.pairings.Pairing.{Pairing}
use Rattle.rvt_tree.specs.declared.programs.Program.{Program}
use Rattle.rvt_tree.specs.declared.programs.Object.{Object}
use Rattle.rvt_tree.specs.Same.{ArePaired, SamePointee}
use Rattle.c_types.specs.Layout.{plan_of}
use Rattle.c_meaning.specs.Stores.{objects_of, begins_in_plan}
use Rattle.c_meaning.specs.Runs.{is_owner}
use Rattle.c_meaning.specs.Twins.{struct_cells}

-- an object of the table as two programs see it, whatever it holds: of one length,
-- with the same values beginning at each cell; and its owners are paired
pub record SameButForContents (pairing : Pairing) (program program' : Program) (a b : Object) : Type 0 where
  pub constant : a.constant ≡ b.constant
  pub count : length a.initial ≡ length b.initial
  pub begins : (pointee pointee' : Pointee) (cell : ℕ) → SamePointee pairing pointee pointee' →
      begins_in_plan pointee cell (plan_of program.structs a.ty) ≡ begins_in_plan pointee' cell (plan_of program'.structs b.ty)
  pub owner : (f g : ℕ) → ArePaired pairing.functions f g → is_owner f a.owner ≡ is_owner g b.owner

abbrev pub AreSameButForContents : Pairing → Program → Program → List Object → List Object → Type 0
AreSameButForContents pairing program program' [] [] = Unit {0}
AreSameButForContents pairing program program' (a ∷ objects) (b ∷ objects') =
    SameButForContents pairing program program' a b × AreSameButForContents pairing program program' objects objects'
AreSameButForContents pairing program program' _ _ = ⊥

abbrev pub SameNumber : Value → Value → Type 0
SameNumber (Num a) (Num b) = a ≡ b
SameNumber _ _ = ⊥

-- the same numbers; a constant holds no pointer
abbrev pub SameNumbers : List Value → List Value → Type 0
SameNumbers [] [] = Unit {0}
SameNumbers (a ∷ cells) (b ∷ cells') = SameNumber a b × SameNumbers cells cells'
SameNumbers _ _ = ⊥

-- constants of the same contents, or no constants
abbrev pub SameContents : Option Object → Option Object → Type 0
SameContents (Some a) (Some b) = a.constant ≡ true → SameNumbers a.initial b.initial
SameContents _ _ = Unit {0}

-- what is paired is of the same contents in both if it is constant: a constant that changed is paired with none
abbrev pub HoldTheSame : Pairing → Program → Program → Type 0
HoldTheSame pairing program program' =
    (number : ℕ) → ArePaired pairing.objects number number → SameContents (slice_get (objects_of program) number) (slice_get (objects_of program') number)

-- the two programs stand over one table, whatever constants hold; an object is paired with itself alone, and paired structs have the same cells
pub record StandOverTheTable (pairing : Pairing) (program program' : Program) : Type 0 where
  pub objects : (a b : ℕ) → ArePaired pairing.objects a b → a ≡ b
  pub table : AreSameButForContents pairing program program' (objects_of program) (objects_of program')
  pub structs : (a b : ℕ) → ArePaired pairing.structs a b → struct_cells program a ≡ struct_cells program' b
