use Rattle.std.proofs.Common.{sym, ap}
use Rattle.c_steps.specs.Steps.{onward}
use Rattle.c_steps.proofs.progress.goes_on.Goals as goal

pub returns : goal.returns
returns c = sym (ap onward c.in_ok-done.was)
