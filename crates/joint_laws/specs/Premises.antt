-- What is asked of two files so that their joint programs stand over one table.
use Rattle.std.specs.Prelude.{◌≡◌, ◌<◌, ◌↔◌, ℕ, List, [], ◌∷◌, map, length, slice_get, Option, Some, None}
use Rattle.rvt_tree.specs.declared.programs.StructDef.{StructDef}
use Rattle.rvt_tree.specs.declared.programs.Program.{Program}
use Rattle.rvt_tree.specs.declared.programs.Object.{Object}
use Rattle.rvt_tree.specs.declared.pairings.Pairing.{Pairing}
use Rattle.rvt_tree.specs.Same.{ArePaired}
use Rattle.c_meaning.specs.Twins.{SameType}
use Rattle.c_types.specs.Layout.{Shape, AWord, APointer, AnArray, AStruct, shape_of}
use Rattle.joint_objects.specs.declared.objects.Origin.{Origin}
use Rattle.joint_objects.specs.declared.objects.Origin.TheVariants.{Both, Old, New}
use Rattle.joint_objects.specs.declared.objects.Element.{Element}
use Rattle.joint_objects.specs.declared.objects.Element.TheVariants as e
use Rattle.joint_objects.specs.declared.objects.JointObject.{JointObject}
use Rattle.joint_objects.specs.declared.objects.JointObject.TheVariants.{Global, Local, Extra, Mapped}
use Rattle.joint_objects.specs.Sides.{Partners}
use Rattle.joint_programs.specs.Parts.{field_parts}

-- ---- numbers of structs

-- an object of this type holds only structs whose numbers are below this one
abbrev pub HoldsBelow : ℕ → Shape → Type 0
HoldsBelow number (AWord kind) = Unit {0}
HoldsBelow number (APointer pointee to_constant) = Unit {0}
HoldsBelow number (AnArray element count) = HoldsBelow number element
HoldsBelow number (AStruct structure) = structure < number

abbrev pub HoldBelow : ℕ → List (List ℕ × Shape) → Type 0
HoldBelow number [] = Unit {0}
HoldBelow number (field ∷ fields) = HoldsBelow number field.1 × HoldBelow number fields

-- a struct holds only structs that stand before it
abbrev pub AreInOrder : List StructDef → Type 0
AreInOrder structs = (number : ℕ) (s : StructDef) → slice_get structs number ≡ Some s → HoldBelow number (map field_parts s.fields)

-- and so does an object
pub record IsNumbered (program : Program) : Type 0 where
  pub structs : AreInOrder program.structs.list
  pub objects : (number : ℕ) (object : Object) → slice_get program.table.objects number ≡ Some object → HoldsBelow (length program.structs.list) (shape_of object.ty)

-- ---- partners

-- each is the partner of its partner
abbrev pub AreMutual : Partners → Type 0
AreMutual partners = (a b : ℕ) → ArePaired partners.of_old a b ↔ ArePaired partners.of_new b a

-- both are no function's, or those of two functions that are partners
abbrev pub HavePartnersAsOwners : List (Option ℕ) → Option ℕ → Option ℕ → Type 0
HavePartnersAsOwners functions None None = Unit {0}
HavePartnersAsOwners functions (Some f) (Some g) = ArePaired functions f g
HavePartnersAsOwners functions _ _ = ⊥

-- ---- the joint table

-- an object of the table that both files have: of one type and number of cells, and `const` in both or in neither, whatever it holds; its owners are partners
pub record IsOneObject (pairing : Pairing) (a b : Object) : Type 0 where
  pub type : SameType pairing a.ty b.ty
  pub constant : a.constant ≡ b.constant
  pub count : length a.initial ≡ length b.initial
  pub owner : HavePartnersAsOwners pairing.functions a.owner b.owner

abbrev pub IsThere : List Object → ℕ → Type 0
IsThere objects number = (object : Object) × (slice_get objects number ≡ Some object)

-- functions and structs as they are paired in the files
abbrev pub file_pairing : Partners → Partners → Pairing
file_pairing structs functions = record { functions = functions.of_old; objects = []; structs = structs.of_old }

module _ (old new : Program) (structs functions : Partners) where
  abbrev pub IsFromFiles : Origin → Type 0
  IsFromFiles (Both a b) =
      (x : Object) × (y : Object) × (slice_get old.table.objects a ≡ Some x) × (slice_get new.table.objects b ≡ Some y) × IsOneObject (file_pairing structs functions) x y
  IsFromFiles (Old a) = IsThere old.table.objects a
  IsFromFiles (New b) = IsThere new.table.objects b

  -- a struct that has a partner is said to be of both files
  abbrev pub IsStructOf : Origin → Type 0
  IsStructOf (Both a b) = ArePaired structs.of_old a b
  IsStructOf (Old a) = slice_get structs.of_old a ≡ Some None
  IsStructOf (New b) = slice_get structs.of_new b ≡ Some None

  abbrev pub IsElement : Element → Type 0
  IsElement (e.Word kind) = Unit {0}
  IsElement (e.Struct origin) = IsStructOf origin

  -- an object of the table is what the two files have
  abbrev pub IsOfFiles : JointObject → Type 0
  IsOfFiles (Global origin) = IsFromFiles origin
  IsOfFiles (Local origin declaration) = IsFromFiles origin
  IsOfFiles (Extra element number) = IsElement element
  IsOfFiles (Mapped number) = Unit {0}

  abbrev pub AreOfFiles : List JointObject → Type 0
  AreOfFiles [] = Unit {0}
  AreOfFiles (object ∷ table) = IsOfFiles object × AreOfFiles table
