use Rattle.std.proofs.Common.{ap, ◌∙◌}
use Rattle.c_meaning.specs.Runs.{stop_of_call}
use Rattle.c_meaning.specs.Runs.{Ended, ByReturn, ByTrap}
use Rattle.c_interp.specs.Frames.{halted}
use Rattle.c_interp.proofs.machine.stop_of.Goals as goal

pub returns-in-Returned : goal.returns-in-Returned
returns-in-Returned c =
    λ store left before e. ap (λ h. stop_of_call before (halted h store left)) c.in-Returned.is ∙ ap (Ended (ByReturn c.in-Returned.number store)) e

pub returns-in-Trapped : goal.returns-in-Trapped
returns-in-Trapped c =
    λ store left before e. ap (λ h. stop_of_call before (halted h store left)) c.in-Trapped.is ∙ ap (Ended (ByTrap c.in-Trapped.trap)) e

pub returns-in-Cut : goal.returns-in-Cut
returns-in-Cut c =
    λ store left before e. ap (λ h. stop_of_call before (halted h store left)) c.in-Cut.is

pub returns-in-Deep : goal.returns-in-Deep
returns-in-Deep c =
    λ store left before e. ap (λ h. stop_of_call before (halted h store left)) c.in-Deep.is
