use Rattle.std.proofs.Common.{ap}
use Rattle.c_steps.specs.Steps.{with_left}
use Rattle.c_interp.proofs.engine.Engine.resume.Goals as goal

pub returns-clause-cells : goal.returns-clause-cells
returns-clause-cells c =
    λ left. ap (λ cells. with_left cells left) c.in_ok-leave.ensures
