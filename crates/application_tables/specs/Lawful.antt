-- The shapes that a joint core gives to the answers under a name, with which congruent applications make a lawful table.
use Rattle.std.specs.Prelude.{◌≡◌, ◌↔◌, true, List, length, map, Some, slice_get}
use Rattle.std.specs.List.{AllByRecursion}
use Rattle.core_ir.specs.Calls.{Among}
use Rattle.core_ir.specs.Cells.{store_shapes, pick}
use Rattle.core_ir.specs.Inputs.{IsFree}
use Rattle.core_ir.specs.Joint.{Node, table}
use Rattle.core_ir.specs.Tables.{Effects, EntryName, key_cells, node_named, results_named, IsLawful}
use Rattle.core_ir.specs.declared.cores.CoreObject.{CoreObject}
use Rattle.core_ir.specs.declared.cores.JointCore.{JointCore}
use Rattle.core_ir.specs.declared.units.Shape.{Shape}
use Rattle.core_ir.specs.declared.units.Shape.TheVariants.{Word}
use Rattle.rvt_num.specs.declared.values.Trap.{Trap}
use Rattle.sym_values.specs.Valuations.{Valuation}
use Rattle.uf_abstraction.specs.Applications.{LitShape, Target, Application, entries_under}
use Rattle.uf_abstraction.specs.Congruence.{AreCongruent, IsLaidOut}

-- a target of a node: an addressable object into which its ends may point, with its length and whether it is constant
pub record IsTargetOf (joint : JointCore) (x : Node) (target : Target) : Type 0 where
  pub object : CoreObject
  pub is_there : slice_get (table joint) target.0 ≡ Some object
  pub addressable : object.addressable ≡ true
  pub long : length object.cells ≡ target.1
  pub same_constant : object.constant ≡ target.2
  pub free : IsFree joint x target.0

-- the trap kinds of the name's node, its results, the kinds of the cells of its key, and all its targets
pub record IsShapeOf (joint : JointCore) (effects : Effects) (name : EntryName) (s : LitShape) : Type 0 where
  pub traps : (t : Trap) → Among t s.traps ↔ (effects.may_trap (node_named joint name) t ≡ true)
  pub results : s.results ≡ results_named joint name
  pub cells : map Word s.cells ≡ pick (key_cells joint effects (node_named joint name)) (store_shapes (table joint))
  pub targets : (target : Target) → Among target s.targets ↔ IsTargetOf joint (node_named joint name) target

-- each application has the shape of its name
abbrev pub AreShaped : JointCore → Effects → List Application → Type 0
AreShaped joint effects applied = AllByRecursion (λ a. IsShapeOf joint effects a.name a.shape) applied

-- the table of congruent applications is lawful
abbrev pub LawfulLaw : Type 0
LawfulLaw = (joint : JointCore) (effects : Effects) (v : Valuation) (given : EntryName → LitShape) (keys : EntryName → List Shape) (applied : List Application)
    → AllByRecursion (IsLaidOut given keys) applied → AreShaped joint effects applied → AreCongruent v applied → IsLawful joint effects (entries_under joint v applied)
