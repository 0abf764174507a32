use Rattle.std.proofs.Common.{ap, ◌∙◌, arith}
use Rattle.c_tasks.specs.Operands.{operands}
use Rattle.c_tasks.specs.Tasks.{after}
use Rattle.c_tasks.specs.Weights.{tasks_weight}
use Rattle.c_steps.specs.Steps.{with_left}
use Rattle.c_interp.specs.Frames.{whole}
use Rattle.c_interp.proofs.engine.Engine.end_initializer.Goals as goal

pub returns-clause-same : goal.returns-clause-same
returns-clause-same c =
    λ program left. ap (λ tasks. whole program c.args.self.now.frames.items (after program c.args.depth tasks (operands c.end.new.self) (with_left c.args.self.now.cells left))) c.end.ensures.tasks ∙ ap (λ on. whole program c.args.self.now.frames.items (after program c.args.depth c.args.work.tasks.items on (with_left c.args.self.now.cells left))) c.end.ensures.operands

pub returns-clause-lighter : goal.returns-clause-lighter
returns-clause-lighter c =
    omega (arith, ap tasks_weight c.end.ensures.tasks)
