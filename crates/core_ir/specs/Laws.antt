-- What holds of every core that fits, and of one that does.
use Rattle.std.specs.Prelude.{◌≡◌, ◌↔◌, ℕ, Option, Some}
use Rattle.std.specs.List.{AllByRecursion}
use Rattle.core_ir.specs.Fits.{Fits}
use Rattle.core_ir.specs.Inputs.{IsProper, IsProperEnd, AreProper}
use Rattle.core_ir.specs.Joint.{Side, core_of, unit_of}
use Rattle.core_ir.specs.Meaning.{End, Request, Answers, unit_run, unit_end, Ends, EndsWithin}
use Rattle.core_ir.specs.declared.cores.Core.{Core}
use Rattle.core_ir.specs.declared.cores.JointCore.{JointCore}
use Rattle.core_ir.specs.declared.units.Unit.{Unit}

-- the body of a unit makes proper calls, and its end is proper
pub record RunsAreProper (joint : JointCore) (side : Side) (answers : Answers) (call : Request) (u : Option Unit) : Type 0 where
  pub calls : AllByRecursion (IsProper joint side) (unit_run (core_of joint side).objects answers u call.args call.store).calls
  pub end : (e : End) → unit_end (core_of joint side).objects answers u call.args call.store ≡ Some e → IsProperEnd joint side call.unit e

-- so does each proper call, however its calls are answered, if proper calls are answered by proper ends
abbrev pub ProperLaw : Type 0
ProperLaw = (joint : JointCore) (side : Side) (answers : Answers) (call : Request) → Fits joint → AreProper joint side answers → IsProper joint side call → RunsAreProper joint side answers call (unit_of joint side call.unit)

-- a call has an end exactly where it has it within some number of steps
abbrev pub StepsLaw : Type 0
StepsLaw = (core : Core) (call : Request) (e : End) → Ends core call e ↔ ((n : ℕ) × EndsWithin core n call e)
