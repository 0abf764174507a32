use Rattle.std.proofs.Common.{ap, ◌∙◌}
use Rattle.c_meaning.specs.Outcomes.{Normally, Broke, Continued}
use Rattle.c_meaning.specs.Statements.{after_group}
use Rattle.c_tasks.specs.Operands.{operands, with_manner, manner_of}
use Rattle.c_tasks.specs.Tasks.{after}
use Rattle.c_tasks.proofs.Sequences.{becomes_with}
use Rattle.c_control.specs.Groups.{leaving_switch}
use Rattle.c_control.proofs.Manners.{same_manner, by_manner}
use Rattle.c_control.proofs.groups.leave_switch.Goals as goal

pub returns-in-Broke-clause-next : goal.returns-in-Broke-clause-next
returns-in-Broke-clause-next c =
    becomes_with (λ program d. leaving_switch program d) c.args.work.now c.end.new.self (with_manner Normally (operands c.args.work.now)) c.end.ensures.tasks c.end.ensures.operands (λ program d next s. by_manner program d after_group Broke next (operands c.args.work.now) s (ap manner_of c.in-Broke.is))

pub returns-in-Normally-clause-next : goal.returns-in-Normally-clause-next
returns-in-Normally-clause-next c =
    λ program d s. same_manner (after program d c.args.work.now.tasks.items) (operands c.args.work.now) Normally s (ap manner_of c.in-Normally.is) ∙ by_manner program d after_group Normally (after program d c.args.work.now.tasks.items) (operands c.args.work.now) s (ap manner_of c.in-Normally.is)

pub returns-in-Continued-clause-next : goal.returns-in-Continued-clause-next
returns-in-Continued-clause-next c =
    λ program d s. same_manner (after program d c.args.work.now.tasks.items) (operands c.args.work.now) Continued s (ap manner_of c.in-Continued.is) ∙ by_manner program d after_group Continued (after program d c.args.work.now.tasks.items) (operands c.args.work.now) s (ap manner_of c.in-Continued.is)
