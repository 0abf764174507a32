use Rattle.std.proofs.Common.{◌↔◌, IsTrue, true, Option, refl, subst}
use Rattle.rvt_tree.specs.declared.programs.Function.{Function}
use Rattle.twin_candidates.specs.Marks.{AvoidsMarked}
use Rattle.twin_candidates.proofs.functions.avoids.Goals as goal

pub returns-in_default : goal.returns-in_default
returns-in_default c = subst (λ (f : Option Function). IsTrue true ↔ AvoidsMarked c.args.marks.now f) c.in_default.ensures.value (λ _. tt, λ _. refl)

pub returns : goal.returns
returns c = subst (λ (f : Option Function). IsTrue c.in_ok-yes.yes ↔ AvoidsMarked c.args.marks.now f) c.in-Some.ensures.value c.in_ok-yes.ensures
