-- An assignment that makes the test of congruence true stands for a lawful table.
use Rattle.std.proofs.Common.{◌≡◌, List, [], ◌∷◌, sym, subst, refl, inl, inr}
use Rattle.core_ir.specs.Calls.{Among}
use Rattle.core_ir.specs.Tables.{Effects, EntryName}
use Rattle.core_ir.specs.declared.cores.JointCore.{JointCore}
use Rattle.core_ir.specs.declared.units.Shape.{Shape}
use Rattle.uf_abstraction.proofs.FirstEntries.{table}
use Rattle.uf_abstraction.proofs.Functions.{functions}
use Rattle.uf_abstraction.proofs.TestsTell.{congruence_tells}
use Rattle.uf_abstraction.specs.Applications.{LitShape, Application}
use Rattle.uf_abstraction.specs.Congruence.{IsLaidOut}
use Rattle.application_tables.proofs.Lawful.{lawful}
use Rattle.application_tables.specs.Lawful.{IsShapeOf}
use Rattle.application_tables.specs.Standing.{StandingLaw, ShapedLaw}

pub standing : StandingLaw
standing joint effects shared v given keys ns applied small laid shaped valuation true =
    let congruent = (congruence_tells v given keys ns applied small laid).holds valuation true in
    record {
      lawful = lawful joint effects v given keys applied laid shaped congruent;
      answers = λ side. table joint effects shared side v applied (functions v given keys applied laid congruent);
    }

pub shaped : ShapedLaw
shaped joint effects given keys [] f laid = tt
shaped joint effects given keys (a ∷ rest) f laid =
    (subst (IsShapeOf joint effects a.name) (sym laid.0.as_named) (f a (inl refl)), shaped joint effects given keys rest (λ b h. f b (inr h)) laid.1)
