use Rattle.std.proofs.Common.{sym, ap, ◌∙◌, arith}
use Rattle.c_meaning.specs.Expressions.{result_value}
use Rattle.c_tasks.specs.Operands.{operands, with_value}
use Rattle.c_tasks.specs.Weights.{tasks_weight}
use Rattle.c_interp.specs.Frames.{frames_weight}
use Rattle.c_interp.proofs.Resumed.{resumes}
use Rattle.c_interp.proofs.engine.Engine.come_back.Goals as goal

pub returns-in_ok-give-in-Some-clause-same : goal.returns-in_ok-give-in-Some-clause-same
returns-in_ok-give-in-Some-clause-same c =
    λ left. resumes c.args.layouts.now (record c.resume.new.self { work = c.give.new.self }) c.in-Some.caller c.args.number c.args.self.now.cells left c.last_caller.new.frames.items (c.in_ok-resume-in-Some.ensures.frames) (c.in_ok-resume-in-Some.ensures.depth) (c.in_ok-give-in-Some.ensures.tasks ∙ c.in_ok-resume-in-Some.ensures.tasks) (c.in_ok-give-in-Some.ensures.operands ∙ ap (λ v. with_value v (operands c.resume.new.self.work)) c.result_value.ensures ∙ ap (with_value (result_value c.args.number)) c.in_ok-resume-in-Some.ensures.operands) (c.in_ok-resume-in-Some.ensures.cells left) ∙ sym (c.in-Some.ensures.some c.args.layouts.now c.args.number c.args.self.now.cells.store left)

pub returns-in_ok-give-in-Some-clause-lighter : goal.returns-in_ok-give-in-Some-clause-lighter
returns-in_ok-give-in-Some-clause-lighter c =
    omega (arith, c.in-Some.ensures.lighter, ap tasks_weight (c.in_ok-give-in-Some.ensures.tasks ∙ c.in_ok-resume-in-Some.ensures.tasks), ap frames_weight c.in_ok-resume-in-Some.ensures.frames)

pub returns-in-None-clause-same : goal.returns-in-None-clause-same
returns-in-None-clause-same c =
    λ left. sym (c.in-None.ensures.none c.args.layouts.now c.args.number c.args.self.now.cells.store left)
