use Rattle.std.proofs.Common.{ap, subst}
use Rattle.c_control.specs.Loops.{Lawful}
use Rattle.c_steps.specs.Steps.{with_left}
use Rattle.c_interp.specs.Frames.{whole}
use Rattle.c_interp.proofs.engine.Engine.test.Goals as goal

pub returns : goal.returns
returns c =
    λ left. ap (whole c.args.layouts.now c.args.self.now.frames.items) (c.in_ok-test.ensures.next c.args.layouts.now (subst Lawful c.program.ensures c.laws_of_loops.ensures) c.args.self.now.depth (with_left c.args.self.now.cells left))
