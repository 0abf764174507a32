-- An assignment under which applications have the answers that a lawful table gives.
use Rattle.std.specs.Prelude.{◌≡◌, ◌<◌, ◌^◌, ℕ, Bool, true, List, ◌++◌, length}
use Rattle.std.specs.List.{AllByRecursion}
use Rattle.aig_build.specs.Circuits.{Node, IsCircuit, input_count, lit_value}
use Rattle.core_ir.specs.Joint.{Side, IsPair, table}
use Rattle.core_ir.specs.Pairing.{ArePaired}
use Rattle.core_ir.specs.Tables.{Effects, EntryName, Entry, IsLawful, from_table}
use Rattle.core_ir.specs.declared.cores.JointCore.{JointCore}
use Rattle.core_ir.specs.declared.units.Shape.{Shape}
use Rattle.uf_abstraction.specs.Applications.{LitShape, Application, AnswerAll}
use Rattle.uf_abstraction.specs.Congruence.{AreCongruent, IsLaidOut}
use Rattle.uf_abstraction.specs.Testing.{IsSmall}
use Rattle.application_tables.specs.Lawful.{AreShaped}
use Rattle.application_tables.specs.Making.{AreMade}

-- an assignment that begins with these bits, under which the applications are congruent and answered as the table answers
pub record IsRealized (joint : JointCore) (effects : Effects) (shared : ℕ → Bool) (entries : List Entry) (first : List Bool) (now : List Node) (applied : List Application) : Type 0 where
  pub more : List Bool
  pub one_bit_an_input : length (first ++ more) ≡ input_count now
  pub congruent : AreCongruent (lit_value now (first ++ more)) applied
  pub answers : (side : Side) → AnswerAll joint effects shared side (lit_value now (first ++ more)) (from_table joint effects shared side entries) applied

-- the pairs of a shared set are there and have equal interfaces
pub record IsShared (joint : JointCore) (shared : ℕ → Bool) : Type 0 where
  pub pairs : (p : ℕ) → shared p ≡ true → (u : ℕ) × (v : ℕ) × IsPair joint p u v

-- each lawful table and each beginning of an assignment are realized
abbrev pub RealizationLaw : Type 0
RealizationLaw = (joint : JointCore) (effects : Effects) (shared : ℕ → Bool) (given : EntryName → LitShape) (keys : EntryName → List Shape) (start now : List Node) (applied : List Application) (entries : List Entry) (first : List Bool)
    → ArePaired joint → IsShared joint shared → length (table joint) < 2 ^ 32 → ((name : EntryName) → AllByRecursion IsSmall (given name).targets)
    → AllByRecursion (IsLaidOut given keys) applied → AreShaped joint effects applied → IsCircuit start → AreMade start applied now
    → IsLawful joint effects entries → length first ≡ input_count start → IsRealized joint effects shared entries first now applied
