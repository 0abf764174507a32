use Rattle.std.proofs.Common.{ap, ◌∙◌, arith}
use Rattle.c_interp.specs.Frames.{whole}
use Rattle.c_interp.proofs.Results.{if_ok, on_none}
use Rattle.c_interp.proofs.engine.Engine.do_task.Goals as goal

pub returns-in-Ok-clause-same : goal.returns-in-Ok-clause-same
returns-in-Ok-clause-same c =
    if_ok c.go_on.result (λ event h left. h left ∙ ap (whole c.args.layouts.now c.args.self.now.frames.items) (c.in-Ok.ensures.next c.args.self.now.depth left)) c.go_on.ensures.same

pub returns-in-Ok-clause-lighter : goal.returns-in-Ok-clause-lighter
returns-in-Ok-clause-lighter c =
    if_ok c.go_on.result (λ event. on_none event (λ h. omega (arith, h, c.in-Ok.ensures.weight))) c.go_on.ensures.lighter
