-- Functions that are equal where functions, objects and structs are paired, and sets of them that call only one another.
use Rattle.std.specs.Prelude.{◌≡◌, ℕ, List, [], ◌∷◌, length, slice_get, true, Option, Some, None, option_map}
use Rattle.rvt_num.specs.declared.kinds.Kind.{Kind}
use Rattle.rvt_tree.specs.declared.types.CType.{CType}
use Rattle.rvt_tree.specs.declared.types.Pointee.{Pointee}
use Rattle.rvt_tree.specs.declared.statements.Stmt.{Stmt}
use Rattle.rvt_tree.specs.declared.pairings.Pairing.{Pairing}
use Rattle.rvt_tree.specs.declared.programs.Program.{Program}
use Rattle.rvt_tree.specs.declared.programs.Function.{Function}
use Rattle.rvt_tree.specs.declared.programs.Local.{Local}
use Rattle.rvt_tree.specs.declared.programs.Object.{Object}
use Rattle.rvt_tree.specs.Views.{stmt_view}
use Rattle.rvt_tree.specs.Same.{ArePaired, SamePointee, SameStatement}
use Rattle.c_types.specs.Layout.{Shape, AWord, APointer, AnArray, AStruct, shape_of, plan_of, plan_of_struct}
use Rattle.c_meaning.specs.Stores.{objects_of, begins_in_plan}
use Rattle.c_meaning.specs.Runs.{is_owner}

-- ---- types and tables

-- two types, where structs are paired
abbrev pub SameShape : Pairing → Shape → Shape → Type 0
SameShape pairing (AWord a) (AWord b) = a ≡ b
SameShape pairing (APointer a to_constant) (APointer b to_constant') = SamePointee pairing a b × (to_constant ≡ to_constant')
SameShape pairing (AnArray a n) (AnArray b m) = SameShape pairing a b × (n ≡ m)
SameShape pairing (AStruct a) (AStruct b) = ArePaired pairing.structs a b
SameShape pairing _ _ = ⊥

abbrev pub SameType : Pairing → CType → CType → Type 0
SameType pairing a b = SameShape pairing (shape_of a) (shape_of b)

-- the kinds of the cells of a struct
abbrev pub struct_cells : Program → ℕ → Option (List (Option Kind))
struct_cells program number = option_map (λ plan. plan.cells) (plan_of_struct program.structs (length program.structs.list) number)

-- an object of the table as two programs see it: of one length, with the same values beginning at each cell,
-- and if it is constant of the same contents; and its owners are paired
pub record SameObject (pairing : Pairing) (program program' : Program) (a b : Object) : Type 0 where
  pub constant : a.constant ≡ b.constant
  pub count : length a.initial ≡ length b.initial
  pub contents : a.constant ≡ true → a.initial ≡ b.initial
  pub begins : (pointee pointee' : Pointee) (cell : ℕ) → SamePointee pairing pointee pointee' →
      begins_in_plan pointee cell (plan_of program.structs a.ty) ≡ begins_in_plan pointee' cell (plan_of program'.structs b.ty)
  pub owner : (f g : ℕ) → ArePaired pairing.functions f g → is_owner f a.owner ≡ is_owner g b.owner

abbrev pub SameObjects : Pairing → Program → Program → List Object → List Object → Type 0
SameObjects pairing program program' [] [] = Unit {0}
SameObjects pairing program program' (a ∷ objects) (b ∷ objects') = SameObject pairing program program' a b × SameObjects pairing program program' objects objects'
SameObjects pairing program program' _ _ = ⊥

-- the two programs stand over one table, and paired structs have the same cells
pub record StandOverOneTable (pairing : Pairing) (program program' : Program) : Type 0 where
  pub objects : (a b : ℕ) → ArePaired pairing.objects a b → a ≡ b
  pub table : SameObjects pairing program program' (objects_of program) (objects_of program')
  pub structs : (a b : ℕ) → ArePaired pairing.structs a b → struct_cells program a ≡ struct_cells program' b

-- ---- functions

-- both are no objects, or two that are paired
abbrev pub SameObjectNumber : Pairing → Option ℕ → Option ℕ → Type 0
SameObjectNumber pairing None None = Unit {0}
SameObjectNumber pairing (Some a) (Some b) = ArePaired pairing.objects a b
SameObjectNumber pairing _ _ = ⊥

-- locals are compared by their types, and not by their names
pub record SameLocal (pairing : Pairing) (a b : Local) : Type 0 where
  pub object : SameObjectNumber pairing a.object b.object
  pub type : SameType pairing a.ty b.ty

abbrev pub SameLocals : Pairing → List Local → List Local → Type 0
SameLocals pairing [] [] = Unit {0}
SameLocals pairing (a ∷ locals) (b ∷ locals') = SameLocal pairing a b × SameLocals pairing locals locals'
SameLocals pairing _ _ = ⊥

abbrev pub SameResult : Pairing → Option CType → Option CType → Type 0
SameResult pairing None None = Unit {0}
SameResult pairing (Some a) (Some b) = SameType pairing a b
SameResult pairing _ _ = ⊥

abbrev pub SameBody : Pairing → Option Stmt → Option Stmt → Type 0
SameBody pairing None None = Unit {0}
SameBody pairing (Some a) (Some b) = SameStatement pairing (stmt_view a) (stmt_view b)
SameBody pairing _ _ = ⊥

pub record SameFunction (pairing : Pairing) (a b : Function) : Type 0 where
  pub params : SameLocals pairing a.params b.params
  pub locals : SameLocals pairing a.locals b.locals
  pub result : SameResult pairing a.result b.result
  pub body : SameBody pairing a.body b.body

abbrev pub AreTwins : Pairing → Option Function → Option Function → Type 0
AreTwins pairing (Some a) (Some b) = SameFunction pairing a b
AreTwins pairing _ _ = ⊥

-- all functions that the pairing pairs are twins under it; so each calls only others that are
abbrev pub IsClosed : Pairing → Program → Program → Type 0
IsClosed pairing program program' =
    (f g : ℕ) → ArePaired pairing.functions f g → AreTwins pairing (slice_get program.functions f) (slice_get program'.functions g)
