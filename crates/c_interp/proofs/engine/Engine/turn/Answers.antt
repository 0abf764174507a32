use Rattle.std.proofs.Common.{sym, ap, ◌∙◌, arith}
use Rattle.c_tasks.specs.Operands.{operands}
use Rattle.c_tasks.specs.Tasks.{after, step}
use Rattle.c_tasks.specs.Weights.{tasks_weight}
use Rattle.c_steps.specs.Steps.{with_left}
use Rattle.c_interp.specs.Frames.{whole}
use Rattle.c_interp.proofs.Results.{if_ok, on_none}
use Rattle.c_interp.proofs.engine.Engine.turn.Goals as goal

pub fall_off-requires : goal.fall_off-requires
fall_off-requires c =
    c.in-None.ensures.empty

pub returns-in-Some-clause-same : goal.returns-in-Some-clause-same
returns-in-Some-clause-same c =
    if_ok c.do_task.result (λ event h left. h left ∙ sym (ap (whole c.args.layouts.now c.args.self.now.frames.items) (ap (λ next. next (operands c.args.self.now.work) (with_left c.args.self.now.cells left)) (c.in-Some.ensures.next c.args.layouts.now c.args.self.now.depth) ∙ ap (λ on. step c.args.layouts.now c.args.self.now.depth c.in-Some.task (after c.args.layouts.now c.args.self.now.depth c.take_task.new.work.tasks.items) on (with_left c.args.self.now.cells left)) (sym c.in-Some.ensures.operands)))) c.do_task.ensures.same

pub returns-in-Some-clause-lighter : goal.returns-in-Some-clause-lighter
returns-in-Some-clause-lighter c =
    if_ok c.do_task.result (λ event. on_none event (λ h. omega (arith, h, c.in-Some.ensures.weight))) c.do_task.ensures.lighter

pub returns-in-None-clause-same : goal.returns-in-None-clause-same
returns-in-None-clause-same c =
    if_ok c.fall_off.result (λ event h left. h left ∙ ap (whole c.args.layouts.now c.args.self.now.frames.items) (ap (λ tasks. after c.args.layouts.now c.args.self.now.depth tasks (operands c.take_task.new.work) (with_left c.args.self.now.cells left)) (c.in-None.ensures.empty ∙ sym c.in-None.ensures.none) ∙ ap (λ on. after c.args.layouts.now c.args.self.now.depth c.args.self.now.work.tasks.items on (with_left c.args.self.now.cells left)) c.in-None.ensures.operands)) c.fall_off.ensures.same

pub returns-in-None-clause-lighter : goal.returns-in-None-clause-lighter
returns-in-None-clause-lighter c =
    if_ok c.fall_off.result (λ event. on_none event (λ h. omega (arith, h, ap tasks_weight (c.in-None.ensures.empty ∙ sym c.in-None.ensures.none)))) c.fall_off.ensures.lighter
