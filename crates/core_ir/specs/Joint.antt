-- Two versions side by side: which unit stands in which pair, and which units reach which.
use Rattle.std.specs.Prelude.{◌≡◌, ℕ, suc, Bool, true, cond, IsTrue, List, [], ◌∷◌, map, Option, Some, None, slice_get, nat_eq}
use Rattle.core_ir.specs.Calls.{Among, unit_calls}
use Rattle.core_ir.specs.Cells.{has}
use Rattle.core_ir.specs.declared.cores.Core.{Core}
use Rattle.core_ir.specs.declared.cores.CoreObject.{CoreObject}
use Rattle.core_ir.specs.declared.cores.JointCore.{JointCore}
use Rattle.core_ir.specs.declared.units.Unit.{Unit}

-- the old version or the new one
pub data Side : Type 0 where
  Old : Side
  New : Side

abbrev pub other : Side → Side
other Old = New
other New = Old

abbrev pub core_of : JointCore → Side → Core
core_of joint Old = joint.old
core_of joint New = joint.new_side

-- a unit of a version, if it is there
abbrev pub unit_of : JointCore → Side → ℕ → Option Unit
unit_of joint side u = slice_get (core_of joint side).units u

-- an object without its contents
abbrev pub bare : CoreObject → CoreObject
bare o = record { cells = o.cells; starts = o.starts; constant = o.constant; addressable = o.addressable; contents = [] }

-- the objects of both versions, whose two lists of them differ in contents alone
abbrev pub table : JointCore → List CoreObject
table joint = map bare joint.old.objects

-- ---- pairs

abbrev pub PairOfUnits : Type 0
PairOfUnits = ℕ × ℕ × Bool

abbrev pub member : Side → PairOfUnits → ℕ
member Old p = p.0
member New p = p.1

-- the number of the pair in which a unit stands; the first of the list has the number i
abbrev pub pair_from : Side → ℕ → ℕ → List PairOfUnits → Option ℕ
pair_from side u i [] = None
pair_from side u i (p ∷ ps) = cond (nat_eq (member side p) u) (Some i) (pair_from side u (suc i) ps)

abbrev pub pair_of : JointCore → Side → ℕ → Option ℕ
pair_of joint side u = pair_from side u 0 joint.pairs

-- a pair, or a unit that is in none
pub data Node : Type 0 where
  Pair : ℕ → Node
  Alone : Side → ℕ → Node

abbrev pub node_by : Side → ℕ → Option ℕ → Node
node_by side u (Some p) = Pair p
node_by side u None = Alone side u

abbrev pub node_of : JointCore → Side → ℕ → Node
node_of joint side u = node_by side u (pair_of joint side u)

-- p is a pair of these units, with equal interfaces
abbrev pub IsPair : JointCore → ℕ → ℕ → ℕ → Type 0
IsPair joint p u v = slice_get joint.pairs p ≡ Some (u, v, true)

-- ---- reaching

-- a unit of the first node calls a unit of the second
pub record Calls (joint : JointCore) (x y : Node) : Type 0 where
  pub side : Side
  pub caller : ℕ
  pub callee : ℕ
  pub of_first : node_of joint side caller ≡ x
  pub of_second : node_of joint side callee ≡ y
  pub is_call : Among callee (unit_calls (core_of joint side) caller)

-- by calls, however many, none included
pub data Reaches (joint : JointCore) : Node → Node → Type 0 where
  here : {x : Node} → Reaches joint x x
  onward : {x y z : Node} → Calls joint x y → Reaches joint y z → Reaches joint x z

abbrev pub owned_objects : Option Unit → List ℕ
owned_objects None = []
owned_objects (Some u) = u.owned

-- a unit owns the object
abbrev pub UnitOwns : JointCore → Side → ℕ → ℕ → Type 0
UnitOwns joint side u object = IsTrue (has object (owned_objects (unit_of joint side u)))

-- a unit of the node owns it
pub record Owns (joint : JointCore) (x : Node) (object : ℕ) : Type 0 where
  pub side : Side
  pub unit : ℕ
  pub of_node : node_of joint side unit ≡ x
  pub owned : UnitOwns joint side unit object

-- an object that a node owns which this one reaches, itself included
pub record IsBarred (joint : JointCore) (x : Node) (object : ℕ) : Type 0 where
  pub owner : Node
  pub reached : Reaches joint x owner
  pub owns : Owns joint owner object

-- by one call or more
pub record IsBelow (joint : JointCore) (x y : Node) : Type 0 where
  pub first : Node
  pub is_call : Calls joint x first
  pub reached : Reaches joint first y
