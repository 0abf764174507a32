use Rattle.std.proofs.Common.{subst}
use Rattle.c_interp.proofs.Results.{if_ok}
use Rattle.c_interp.specs.Frames.{HasStepped}
use Rattle.c_interp.proofs.engine.Engine.go.Goals as goal

pub returns-in-Ok : goal.returns-in-Ok
returns-in-Ok c =
    if_ok c.take_step.result (λ halt h. subst (λ o. HasStepped c.args.layouts.now halt c.take_step.new.self c.args.left o) (c.in-Ok.ensures c.args.left) h) c.take_step.ensures
