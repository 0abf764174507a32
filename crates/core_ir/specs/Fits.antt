-- When a joint core is well-formed.
use Rattle.std.specs.Prelude.{◌≡◌, ◌⊎◌, ◌<◌, ℕ, ◌+◌, ◌*◌, Bool, true, false, List, [], ◌∷◌, ◌++◌, map, Some, slice_get}
use Rattle.std.specs.List.{AllByRecursion}
use Rattle.core_ir.specs.Calls.{Among, unit_calls}
use Rattle.core_ir.specs.Fields.{MeetsField, StaysWithin}
use Rattle.core_ir.specs.Inputs.{HasShape, HaveShapes, IsProper, AreProper}
use Rattle.core_ir.specs.Joint.{Side, Node, node_of, core_of, unit_of, bare, table, IsBelow, UnitOwns, Owns}
use Rattle.core_ir.specs.Meaning.{Trapped, Request, Answers, Over, setting_of, entered, unit_run, run, run_calls}
use Rattle.core_ir.specs.Nodes.{CodeNode, nodes_in, goes_on}
use Rattle.core_ir.specs.Pairing.{ArePaired}
use Rattle.core_ir.specs.Places.{begins}
use Rattle.core_ir.specs.declared.cores.CoreObject.{CoreObject}
use Rattle.core_ir.specs.declared.cores.JointCore.{JointCore}
use Rattle.core_ir.specs.declared.units.Code.TheOpen.{Code-F}
use Rattle.core_ir.specs.declared.units.CoreOp.{CoreOp}
use Rattle.core_ir.specs.declared.units.CoreOp.TheVariants.{Const, Copy, Unary, Binary, Convert, Sum, Field, Same, IsNull}
use Rattle.core_ir.specs.declared.units.Index.{Index}
use Rattle.core_ir.specs.declared.units.Shape.{Shape}
use Rattle.core_ir.specs.declared.units.Shape.TheVariants.{Word, Pointer}
use Rattle.core_ir.specs.declared.units.Spot.{Spot}
use Rattle.core_ir.specs.declared.units.Spot.TheVariants.{Cell, Local, Through}
use Rattle.core_ir.specs.declared.units.Unit.{Unit}
use Rattle.rvt_num.specs.Kinds.{promoted_kind}
use Rattle.rvt_num.specs.Operations.{result_kind, is_shift}
use Rattle.rvt_num.specs.declared.kinds.Kind.{Kind}
use Rattle.rvt_num.specs.declared.kinds.Kind.TheVariants.{I32}
use Rattle.rvt_num.specs.declared.operations.UnOp.{UnOp}
use Rattle.rvt_num.specs.declared.operations.UnOp.TheVariants.{IsZero}
use Rattle.rvt_num.specs.declared.values.Trap.{Trap}
use Rattle.rvt_num.specs.declared.values.Value.{Value}

-- ---- registers at their shapes

-- a value of the first shape may be held where the second is wanted: `T *` may be held as `const T *`
abbrev pub Widens : Shape → Shape → Type 0
Widens (Word k) (Word l) = k ≡ l
Widens (Pointer t c) (Pointer s d) = (t ≡ s) × (d ≡ false → c ≡ false)
Widens _ _ = ⊥

-- the register has a shape which may be held at this one
pub record Gives (shapes : List Shape) (r : ℕ) (s : Shape) : Type 0 where
  pub shape : Shape
  pub is_there : slice_get shapes r ≡ Some shape
  pub widens : Widens shape s

-- the register may take a value of this shape
pub record Takes (shapes : List Shape) (r : ℕ) (s : Shape) : Type 0 where
  pub shape : Shape
  pub is_there : slice_get shapes r ≡ Some shape
  pub widens : Widens s shape

pub record IsWord (shapes : List Shape) (r : ℕ) : Type 0 where
  pub kind : Kind
  pub is_there : slice_get shapes r ≡ Some (Word kind)

pub record IsPointer (shapes : List Shape) (r : ℕ) : Type 0 where
  pub pointee : ℕ
  pub to_const : Bool
  pub is_there : slice_get shapes r ≡ Some (Pointer pointee to_const)

abbrev pub AllGive : List Shape → List ℕ → List Shape → Type 0
AllGive shapes [] [] = Prim.Unit {0}
AllGive shapes [] (s ∷ ss) = ⊥
AllGive shapes (r ∷ rs) [] = ⊥
AllGive shapes (r ∷ rs) (s ∷ ss) = Gives shapes r s × AllGive shapes rs ss

abbrev pub AllTake : List Shape → List ℕ → List Shape → Type 0
AllTake shapes [] [] = Prim.Unit {0}
AllTake shapes [] (s ∷ ss) = ⊥
AllTake shapes (r ∷ rs) [] = ⊥
AllTake shapes (r ∷ rs) (s ∷ ss) = Takes shapes r s × AllTake shapes rs ss

-- ---- operations

abbrev pub unary_kind : UnOp → Kind → Kind
unary_kind IsZero kind = I32
unary_kind _ kind = kind

-- what an operation is asked on, and the shape of what it gives; a pointer constant is into an object that the unit may name
abbrev pub OpFits : List CoreObject → (ℕ → Type 0) → List Shape → CoreOp → Shape → Type 0
OpFits objects named shapes (Const v) s = HasShape objects named s v
OpFits objects named shapes (Copy r) s = Gives shapes r s
OpFits objects named shapes (Unary op r) s = (a : IsWord shapes r) × (promoted_kind a.kind ≡ a.kind) × (s ≡ Word (unary_kind op a.kind))
OpFits objects named shapes (Binary op l r) s =
    (a : IsWord shapes l) × (b : IsWord shapes r) × (promoted_kind a.kind ≡ a.kind) × (promoted_kind b.kind ≡ b.kind) × (is_shift op ≡ false → a.kind ≡ b.kind) × (s ≡ Word (result_kind op a.kind))
OpFits objects named shapes (Convert k r) s = IsWord shapes r × (s ≡ Word k)
OpFits objects named shapes (Sum p n cells) s = (a : IsPointer shapes p) × IsWord shapes n × Widens (Pointer a.pointee a.to_const) s
OpFits objects named shapes (Field p cells) s = (a : IsPointer shapes p) × (type : ℕ) × Widens (Pointer type a.to_const) s
OpFits objects named shapes (Same a b) s = IsPointer shapes a × IsPointer shapes b × (s ≡ Word I32)
OpFits objects named shapes (IsNull p) s = IsPointer shapes p × (s ≡ Word I32)

-- ---- places

-- P holds at a cell or register whatever the values of the indexes
abbrev pub AtAll : List Index → ℕ → (ℕ → Type 0) → Type 0
AtAll [] c P = P c
AtAll (i ∷ is) c P = (n : ℕ) → n < i.count → AtAll is (c + n * i.size) P

-- the place holds values of the shape, and where it is written it is in no constant object
abbrev pub SpotFits : List CoreObject → List Shape → Bool → Spot → Shape → Type 0
SpotFits objects shapes writes (Cell o c indexes) s =
    (object : CoreObject) × (slice_get objects o ≡ Some object) × (writes ≡ true → object.constant ≡ false) × AllByRecursion (λ i. IsWord shapes i.register) indexes × AtAll indexes c (λ k. slice_get object.cells k ≡ Some s)
SpotFits objects shapes false (Local r indexes) s = AllByRecursion (λ i. IsWord shapes i.register) indexes × AtAll indexes r (λ k. Gives shapes k s)
SpotFits objects shapes true (Local r indexes) s = AllByRecursion (λ i. IsWord shapes i.register) indexes × AtAll indexes r (λ k. Takes shapes k s)
SpotFits objects shapes writes (Through p cells indexes) s =
    (a : IsPointer shapes p) × (writes ≡ true → a.to_const ≡ false) × AllByRecursion (λ i. IsWord shapes i.register) indexes × ((o : ℕ) (object : CoreObject) (c : ℕ) → slice_get objects o ≡ Some object → object.addressable ≡ true → begins object.starts a.pointee c ≡ true → AtAll indexes (c + cells) (λ k. slice_get object.cells k ≡ Some s))

-- ---- code

-- what a node of a unit's body is asked
abbrev pub NodeFits : JointCore → Side → (ℕ → Type 0) → Unit → CodeNode → Type 0
NodeFits joint side named w (Code-F.Seq parts) = Prim.Unit {0}
NodeFits joint side named w (Code-F.Set r op) = (s : Shape) × (slice_get w.registers r ≡ Some s) × OpFits (table joint) named w.registers op s
NodeFits joint side named w (Code-F.Load r spot) = (s : Shape) × Takes w.registers r s × SpotFits (table joint) w.registers false spot s
NodeFits joint side named w (Code-F.Store spot r) = (s : Shape) × Gives w.registers r s × SpotFits (table joint) w.registers true spot s
NodeFits joint side named w (Code-F.Call u ins outs) = (v : Unit) × (unit_of joint side u ≡ Some v) × AllGive w.registers ins v.inputs × AllTake w.registers outs v.results
NodeFits joint side named w (Code-F.If r a b) = IsWord w.registers r
NodeFits joint side named w (Code-F.Stop rs) = AllGive w.registers rs w.results
NodeFits joint side named w (Code-F.Fail t) = Prim.Unit {0}

-- ---- units and objects

-- for an object, the units of either version that may name it though they don't own it
abbrev pub Helpers : Type 0
Helpers = ℕ → Side → ℕ → Bool

-- a unit may name an object without an owner, one that it owns, and one for which it is a helper
abbrev pub MayName : JointCore → Helpers → Side → ℕ → ℕ → Type 0
MayName joint helpers side u o = (z : Node) → Owns joint z o → UnitOwns joint side u o ⊎ (helpers o side u ≡ true)

abbrev pub IsWordShape : Shape → Type 0
IsWordShape (Word k) = Prim.Unit {0}
IsWordShape (Pointer t c) = ⊥

pub record UnitFits (joint : JointCore) (helpers : Helpers) (side : Side) (u : ℕ) (w : Unit) : Type 0 where
  -- the first registers are the inputs
  pub others : List Shape
  pub registers : w.registers ≡ w.inputs ++ others
  pub body : AllByRecursion (NodeFits joint side (MayName joint helpers side u) w) (nodes_in w.body)
  -- the body isn't left at its end
  pub stops : goes_on w.body ≡ false
  -- a node that owns objects returns no pointers
  pub returns_words : (o : ℕ) → Owns joint (node_of joint side u) o → AllByRecursion IsWordShape w.results

-- the contents of a constant object have the shapes of its cells
pub record ObjectFits (object : CoreObject) : Type 0 where
  pub words : AllByRecursion IsWordShape object.cells
  pub contents : object.constant ≡ true → HaveShapes [] (λ _. ⊥) object.cells object.contents

pub record Fits (joint : JointCore) : Type 0 where
  pub paired : ArePaired joint
  pub same_table : map bare joint.new_side.objects ≡ table joint
  pub objects : (side : Side) → AllByRecursion ObjectFits (core_of joint side).objects
  -- the helpers of an object are called by its owners and by each other alone, and neither their calls nor those of their pair reach
  -- an owner
  pub helpers : Helpers
  pub helper_called : (o : ℕ) (side : Side) (u v : ℕ) → Among v (unit_calls (core_of joint side) u) → helpers o side v ≡ true → UnitOwns joint side u o ⊎ (helpers o side u ≡ true)
  pub helper_reaches : (o : ℕ) (side : Side) (u : ℕ) (z : Node) → helpers o side u ≡ true → Owns joint z o → IsBelow joint (node_of joint side u) z → ⊥
  -- the owners of an object are one node, and it is on no cycle
  pub one_owner : (o : ℕ) (x y : Node) → Owns joint x o → Owns joint y o → x ≡ y
  pub no_cycle : (o : ℕ) (x : Node) → Owns joint x o → IsBelow joint x x → ⊥
  pub units : (side : Side) (u : ℕ) (w : Unit) → unit_of joint side u ≡ Some w → UnitFits joint helpers side u w
  -- whatever the proper call and the proper ends of its own calls, a pointer that is moved on to a field stays within its object
  pub fields : (side : Side) (answers : Answers) (call : Request) (w : Unit) (pointer : Value) (cells : ℕ) → unit_of joint side call.unit ≡ Some w → IsProper joint side call → AreProper joint side answers → MeetsField (setting_of (core_of joint side).objects w) answers w.body (entered (core_of joint side).objects w call.args call.store) pointer cells → StaysWithin (core_of joint side).objects pointer cells
  -- a trap with which a body ends by itself, from any proper call, is one of its own
  pub own_traps : (side : Side) (d : ℕ) (call : Request) (w : Unit) (t : Trap) → unit_of joint side call.unit ≡ Some w → IsProper joint side call → (unit_run (core_of joint side).objects (run (core_of joint side) d) (Some w) call.args call.store).flow ≡ Over (Trapped t) → AllByRecursion (λ q. run (core_of joint side) d q ≡ Some (Trapped t) → ⊥) (run_calls (core_of joint side) d call) → Among t w.own_traps
