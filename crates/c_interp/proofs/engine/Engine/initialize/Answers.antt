use Rattle.std.proofs.Common.{ap, ◌∙◌, arith}
use Rattle.rvt_tree.specs.Views.{init_view}
use Rattle.c_tasks.specs.Weights.{tasks_weight}
use Rattle.c_interp.proofs.Stacked.{weight_push}
use Rattle.std.proofs.Common.{length}
use Rattle.c_interp.proofs.Declared.{with_only, declares}
use Rattle.c_interp.proofs.engine.Engine.initialize.Goals as goal

pub returns-clause-same : goal.returns-clause-same
returns-clause-same c =
    let count = c.len-count.ensures ∙ c.in_ok-zeros.zeros.ok.0 ∙ ap length c.in_ok-zeros.ensures in
    λ left. declares c.args.layouts.now c.args.self.now c.wait.new.self c.args.variable (init_view c.args.init.now) c.len-count.result left c.activation-work.result (record c.activation-work.result { tasks = c.put.new.tasks }) c.fill.new.work
    c.in_ok-wait.ensures.frames c.in_ok-wait.ensures.depth c.in_ok-wait.ensures.tasks c.in_ok-wait.ensures.operands (c.in_ok-wait.ensures.cells ∙ c.clear.ensures)
    c.activation-work.ensures.tasks (c.activation-work.ensures.operands ∙ ap with_only c.in_ok-zeros.ensures) count c.in_ok-put.ensures.next c.in_ok-fill.ensures.next

pub returns-clause-lighter : goal.returns-clause-lighter
returns-clause-lighter c =
    omega (arith, ap tasks_weight c.in_ok-wait.ensures.tasks, weight_push _ _ _ c.in_ok-wait.ensures.frames, c.in_ok-fill.ensures.weight, c.in_ok-put.ensures.weight, ap tasks_weight c.activation-work.ensures.tasks)
