-- Which values fit a shape, and the inputs of units and pairs.
use Rattle.std.specs.Prelude.{◌≡◌, ◌≤◌, ℕ, Bool, true, false, List, [], ◌∷◌, length, Option, Some, None, slice_get}
use Rattle.core_ir.specs.Cells.{store_shapes}
use Rattle.core_ir.specs.Joint.{Side, Old, Node, Pair, node_of, unit_of, table, IsPair, IsBarred}
use Rattle.core_ir.specs.Meaning.{End, Trapped, Returned, Request, Answers}
use Rattle.core_ir.specs.declared.cores.CoreObject.{CoreObject}
use Rattle.core_ir.specs.declared.cores.JointCore.{JointCore}
use Rattle.core_ir.specs.declared.units.Shape.{Shape}
use Rattle.core_ir.specs.declared.units.Shape.TheVariants.{Word, Pointer}
use Rattle.core_ir.specs.declared.units.Unit.{Unit}
use Rattle.rvt_num.specs.Kinds.{IsOf}
use Rattle.rvt_num.specs.Number.{Number}
use Rattle.rvt_num.specs.declared.kinds.Kind.{Kind}
use Rattle.rvt_num.specs.declared.values.Value.{Value}
use Rattle.rvt_num.specs.declared.values.Value.TheVariants.{Num, Null, At}

-- a number of the kind
pub record IsNumber (kind : Kind) (n : Number) : Type 0 where
  pub of_kind : n.kind ≡ kind
  pub in_range : IsOf kind n.value

-- a pointer into an addressable object, at a cell from 0 to its length, and not into a constant one unless its type says `const`
pub record PointsInto (objects : List CoreObject) (to_const : Bool) (o c : ℕ) : Type 0 where
  pub object : CoreObject
  pub is_there : slice_get objects o ≡ Some object
  pub addressable : object.addressable ≡ true
  pub in_length : c ≤ length object.cells
  pub mutable : to_const ≡ false → object.constant ≡ false

-- what a value of a shape may be; a pointer is into no object but the free ones
abbrev pub HasShape : List CoreObject → (ℕ → Type 0) → Shape → Value → Type 0
HasShape objects free (Word k) (Num n) = IsNumber k n
HasShape objects free (Word k) _ = ⊥
HasShape objects free (Pointer pointee to_const) (Num n) = ⊥
HasShape objects free (Pointer pointee to_const) Null = Prim.Unit {0}
HasShape objects free (Pointer pointee to_const) (At o c) = PointsInto objects to_const o c × free o

-- one value for each shape
abbrev pub HaveShapes : List CoreObject → (ℕ → Type 0) → List Shape → List Value → Type 0
HaveShapes objects free [] [] = Prim.Unit {0}
HaveShapes objects free [] (v ∷ vs) = ⊥
HaveShapes objects free (s ∷ ss) [] = ⊥
HaveShapes objects free (s ∷ ss) (v ∷ vs) = HasShape objects free s v × HaveShapes objects free ss vs

-- an input of a node, and what it returns, has no pointer into an object of a node that it reaches, itself included
abbrev pub IsFree : JointCore → Node → ℕ → Type 0
IsFree joint x o = IsBarred joint x o → ⊥

abbrev pub inputs_by : Option Unit → List Shape
inputs_by None = []
inputs_by (Some u) = u.inputs

abbrev pub results_by : Option Unit → List Shape
results_by None = []
results_by (Some u) = u.results

abbrev pub inputs_of : JointCore → Side → ℕ → List Shape
inputs_of joint side u = inputs_by (unit_of joint side u)

abbrev pub results_of : JointCore → Side → ℕ → List Shape
results_of joint side u = results_by (unit_of joint side u)

-- the arguments and the store of a node with these inputs
pub record AreInput (joint : JointCore) (x : Node) (inputs : List Shape) (args store : List Value) : Type 0 where
  pub arguments : HaveShapes (table joint) (IsFree joint x) inputs args
  pub cells : HaveShapes (table joint) (IsFree joint x) (store_shapes (table joint)) store

-- a call whose arguments and store are an input of the called unit
abbrev pub IsInput : JointCore → Side → Request → Type 0
IsInput joint side call = AreInput joint (node_of joint side call.unit) (inputs_of joint side call.unit) call.args call.store

-- a call whose arguments and store are proper: they have the shapes of the called unit and of the store, and a pointer may be into
-- any addressable object
pub record IsProper (joint : JointCore) (side : Side) (call : Request) : Type 0 where
  pub arguments : HaveShapes (table joint) (λ _. Prim.Unit {0}) (inputs_of joint side call.unit) call.args
  pub cells : HaveShapes (table joint) (λ _. Prim.Unit {0}) (store_shapes (table joint)) call.store

-- a trap, or proper results and a proper store
abbrev pub IsProperEnd : JointCore → Side → ℕ → End → Type 0
IsProperEnd joint side u (Trapped t) = Prim.Unit {0}
IsProperEnd joint side u (Returned results store) =
    HaveShapes (table joint) (λ _. Prim.Unit {0}) (results_of joint side u) results × HaveShapes (table joint) (λ _. Prim.Unit {0}) (store_shapes (table joint)) store

-- proper calls have proper ends
abbrev pub AreProper : JointCore → Side → Answers → Type 0
AreProper joint side answers = (call : Request) (e : End) → IsProper joint side call → answers call ≡ Some e → IsProperEnd joint side call.unit e

-- an input of a pair of equal interfaces, read at its old unit; the new one's inputs have the same shapes
pub record IsPairInput (joint : JointCore) (p : ℕ) (u v : ℕ) (args store : List Value) : Type 0 where
  pub pair : IsPair joint p u v
  pub input : AreInput joint (Pair p) (inputs_of joint Old u) args store
