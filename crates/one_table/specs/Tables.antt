-- Two files that have the same structs and the same objects, in the same order.
use Rattle.std.specs.Prelude.{◌≡◌, ℕ, List, [], ◌∷◌, length, true, Option, Some, None}
use Rattle.rvt_tree.specs.declared.types.CType.{CType}
use Rattle.rvt_tree.specs.declared.pairings.Pairing.{Pairing}
use Rattle.rvt_tree.specs.declared.programs.Program.{Program}
use Rattle.rvt_tree.specs.declared.programs.StructDef.{StructDef}
use Rattle.rvt_tree.specs.declared.programs.Object.{Object}
use Rattle.rvt_tree.specs.Same.{ArePaired}
use Rattle.c_meaning.specs.Twins.{SameType}

-- ---- structs

-- two fields, each a name and a type
abbrev pub SameField : Pairing → List ℕ × CType → List ℕ × CType → Type 0
SameField pairing a b = (a.0 ≡ b.0) × SameType pairing a.1 b.1

abbrev pub SameFields : Pairing → List (List ℕ × CType) → List (List ℕ × CType) → Type 0
SameFields pairing [] [] = Unit {0}
SameFields pairing (a ∷ fields) (b ∷ fields') = SameField pairing a b × SameFields pairing fields fields'
SameFields pairing _ _ = ⊥

-- two structs of one tag, both tagged or neither, and both complete or neither, with the same fields
pub record SameStruct (pairing : Pairing) (a b : StructDef) : Type 0 where
  pub tag : a.tag ≡ b.tag
  pub tagged : a.tagged ≡ b.tagged
  pub complete : a.complete ≡ b.complete
  pub fields : SameFields pairing a.fields b.fields

abbrev pub SameStructs : Pairing → List StructDef → List StructDef → Type 0
SameStructs pairing [] [] = Unit {0}
SameStructs pairing (a ∷ structs) (b ∷ structs') = SameStruct pairing a b × SameStructs pairing structs structs'
SameStructs pairing _ _ = ⊥

-- ---- objects

-- both objects are no function's locals, or those of two functions that are paired
abbrev pub SameOwner : Pairing → Option ℕ → Option ℕ → Type 0
SameOwner pairing None None = Unit {0}
SameOwner pairing (Some f) (Some g) = ArePaired pairing.functions f g
SameOwner pairing _ _ = ⊥

-- an object as both files have it: of one name, type, `const` and number of cells, and of one owner; a constant object has one content too
pub record IsOneObject (pairing : Pairing) (a b : Object) : Type 0 where
  pub name : a.name ≡ b.name
  pub type : SameType pairing a.ty b.ty
  pub constant : a.constant ≡ b.constant
  pub count : length a.initial ≡ length b.initial
  pub contents : a.constant ≡ true → a.initial ≡ b.initial
  pub owner : SameOwner pairing a.owner b.owner

abbrev pub AreOneTable : Pairing → List Object → List Object → Type 0
AreOneTable pairing [] [] = Unit {0}
AreOneTable pairing (a ∷ objects) (b ∷ objects') = IsOneObject pairing a b × AreOneTable pairing objects objects'
AreOneTable pairing _ _ = ⊥

-- the same structs and the same objects, in the same order
pub record HaveOneTable (pairing : Pairing) (old new : Program) : Type 0 where
  pub structs : SameStructs pairing old.structs.list new.structs.list
  pub objects : AreOneTable pairing old.table.objects new.table.objects
