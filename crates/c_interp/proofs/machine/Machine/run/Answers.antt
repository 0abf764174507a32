use Rattle.std.proofs.Common.{refl, sym, ap, ◌∙◌}
use Rattle.c_meaning.specs.Runs.{stop_of_call, run}
use Rattle.c_interp.proofs.machine.Machine.run.Goals as goal

pub returns-clause-stop : goal.returns-clause-stop
returns-clause-stop c =
    ap (λ m. run m.program c.args.function c.args.input.now.args.items c.args.input.now.store.items c.args.steps m.calls) (sym c.self.view_is)
    ∙ sym (c.in_ok-begin.ensures c.self.inside.layouts c.args.steps) ∙ ap (stop_of_call c.args.steps) (sym c.in_ok-halt.ensures.end) ∙ c.stop_of.ensures _ _ c.args.steps refl
