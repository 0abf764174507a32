use Rattle.std.proofs.Common.{sym, ap, ◌∙◌}
use Rattle.c_meaning.specs.Runs.{stepping, body_of}
use Rattle.c_tasks.specs.Operands.{operands}
use Rattle.c_tasks.specs.Tasks.{after, ending}
use Rattle.c_interp.proofs.Results.{on_ok}
use Rattle.c_interp.proofs.engine.begin_body.Goals as goal

pub returns-in-Some : goal.returns-in-Some
returns-in-Some c =
    on_ok c.put.result (λ h program d s. ap (λ next. next (operands c.args.work.now) s) (h program d) ∙ sym (ap (λ b. ending program d (body_of program (stepping program d) b) (after program d c.args.work.now.tasks.items) (operands c.args.work.now) s) c.in-Some.is)) c.put.ensures.next

pub returns-in-None : goal.returns-in-None
returns-in-None c =
    λ program d s. ap (λ tasks. after program d tasks (operands c.end.new.self) s) c.end.ensures.tasks ∙ ap (λ on. after program d c.args.work.now.tasks.items on s) c.end.ensures.operands ∙ sym (ap (λ b. ending program d (body_of program (stepping program d) b) (after program d c.args.work.now.tasks.items) (operands c.args.work.now) s) c.in-None.is)
