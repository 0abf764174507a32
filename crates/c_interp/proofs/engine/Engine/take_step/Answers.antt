use Rattle.std.proofs.Common.{sym, ap, subst}
use Rattle.c_interp.specs.Frames.{happening}
use Rattle.c_interp.proofs.Results.{if_ok}
use Rattle.c_interp.specs.Frames.{HasStepped}
use Rattle.c_interp.proofs.engine.Engine.take_step.Goals as goal

pub returns-in-Calls : goal.returns-in-Calls
returns-in-Calls c =
    if_ok c.call_with_step.result (λ halt h. subst (λ v. HasStepped c.args.layouts.now halt c.call_with_step.new.self c.args.left (happening c.args.layouts.now v c.args.self.now c.args.left)) (sym c.in-Calls.is) h) c.call_with_step.ensures

pub returns-in-Tests : goal.returns-in-Tests
returns-in-Tests c =
    if_ok c.test_with_step.result (λ halt h. subst (λ v. HasStepped c.args.layouts.now halt c.test_with_step.new.self c.args.left (happening c.args.layouts.now v c.args.self.now c.args.left)) (sym c.in-Tests.is) h) c.test_with_step.ensures

pub returns-in-Returns : goal.returns-in-Returns
returns-in-Returns c =
    sym (ap (λ v. happening c.args.layouts.now v c.args.self.now c.args.left) c.in-Returns.is)

pub returns-in-Traps : goal.returns-in-Traps
returns-in-Traps c =
    sym (ap (λ v. happening c.args.layouts.now v c.args.self.now c.args.left) c.in-Traps.is)
