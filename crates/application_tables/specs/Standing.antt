-- The table for which an assignment stands that makes the test of congruence true.
use Rattle.std.specs.Prelude.{◌≡◌, ℕ, Bool, true, List}
use Rattle.std.specs.List.{AllByRecursion}
use Rattle.aig_build.specs.Circuits.{Node}
use Rattle.core_ir.specs.Calls.{Among}
use Rattle.core_ir.specs.Joint.{Side}
use Rattle.core_ir.specs.Tables.{Effects, EntryName, IsLawful, from_table}
use Rattle.core_ir.specs.declared.cores.JointCore.{JointCore}
use Rattle.core_ir.specs.declared.units.Shape.{Shape}
use Rattle.sym_values.specs.Valuations.{Valuation, IsValuation}
use Rattle.uf_abstraction.specs.Applications.{LitShape, Application, entries_under, AnswerAll}
use Rattle.uf_abstraction.specs.Congruence.{IsLaidOut}
use Rattle.uf_abstraction.specs.Testing.{congruence_built, IsSmall}
use Rattle.application_tables.specs.Lawful.{IsShapeOf, AreShaped}

-- the table of the applications is lawful, and answers each call as they do
pub record IsTable (joint : JointCore) (effects : Effects) (shared : ℕ → Bool) (v : Valuation) (applied : List Application) : Type 0 where
  pub lawful : IsLawful joint effects (entries_under joint v applied)
  pub answers : (side : Side) → AnswerAll joint effects shared side v (from_table joint effects shared side (entries_under joint v applied)) applied

abbrev pub StandingLaw : Type 0
StandingLaw = (joint : JointCore) (effects : Effects) (shared : ℕ → Bool) (v : Valuation) (given : EntryName → LitShape) (keys : EntryName → List Shape) (ns : List Node) (applied : List Application)
    → ((name : EntryName) → AllByRecursion IsSmall (given name).targets) → AllByRecursion (IsLaidOut given keys) applied → AreShaped joint effects applied
    → IsValuation (congruence_built ns applied).nodes v → v (congruence_built ns applied).lit ≡ true → IsTable joint effects shared v applied

-- where the shape that comes with each name is that of its name, the applications have the shapes of their names
abbrev pub ShapedLaw : Type 0
ShapedLaw = (joint : JointCore) (effects : Effects) (given : EntryName → LitShape) (keys : EntryName → List Shape) (applied : List Application)
    → ((a : Application) → Among a applied → IsShapeOf joint effects a.name (given a.name)) → AllByRecursion (IsLaidOut given keys) applied → AreShaped joint effects applied
