use Rattle.std.proofs.Common.{None, sym, ap, ◌∙◌, arith}
use Rattle.c_meaning.specs.Outcomes.{go_on}
use Rattle.c_tasks.specs.Operands.{with_value}
use Rattle.c_tasks.specs.Weights.{tasks_weight}
use Rattle.c_interp.specs.Frames.{in_caller, whole, frames_weight, on_result, fallen_off}
use Rattle.c_interp.proofs.Stacked.{whole_trapped}
use Rattle.c_interp.proofs.Resumed.{resumes}
use Rattle.c_interp.proofs.engine.Engine.end_call.Goals as goal

pub returns-then-returns-clause-same : goal.returns-then-returns-clause-same
returns-then-returns-clause-same c =
    λ left. sym (ap (λ b. whole c.args.layouts.now c.args.self.now.frames.items (go_on (on_result c.args.layouts.now c.args.caller) (fallen_off b (in_caller c.args.layouts.now c.args.caller.callee c.args.caller.saved c.args.self.now.cells.store left)))) c.if-returns.true ∙ whole_trapped c.args.layouts.now c.args.self.now.frames.items _ left)

pub returns-clause-same : goal.returns-clause-same
returns-clause-same c =
    λ left. resumes c.args.layouts.now (record c.resume.new.self { work = c.give.new.self }) c.args.caller None c.args.self.now.cells left c.args.self.now.frames.items (c.in_ok-resume.ensures.frames) (c.in_ok-resume.ensures.depth) (c.in_ok-give.ensures.tasks ∙ c.in_ok-resume.ensures.tasks) (c.in_ok-give.ensures.operands ∙ ap (with_value _) c.in_ok-resume.ensures.operands) (c.in_ok-resume.ensures.cells left) ∙ sym (ap (λ b. whole c.args.layouts.now c.args.self.now.frames.items (go_on (on_result c.args.layouts.now c.args.caller) (fallen_off b (in_caller c.args.layouts.now c.args.caller.callee c.args.caller.saved c.args.self.now.cells.store left)))) c.if-returns.false)

pub returns-clause-lighter : goal.returns-clause-lighter
returns-clause-lighter c =
    omega (arith, ap tasks_weight (c.in_ok-give.ensures.tasks ∙ c.in_ok-resume.ensures.tasks), ap frames_weight c.in_ok-resume.ensures.frames)
