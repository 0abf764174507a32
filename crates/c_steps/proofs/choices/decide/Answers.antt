use Rattle.std.proofs.Common.{ap, subst, ◌∙◌, arith}
use Rattle.rvt_tree.specs.Views.{stmt_view}
use Rattle.c_meaning.specs.Stores.{holds}
use Rattle.c_tasks.specs.Operands.{operands, without_value}
use Rattle.c_tasks.specs.Tasks.{ending, decided, running_part}
use Rattle.c_tasks.specs.Weights.{tasks_weight}
use Rattle.c_tasks.specs.declared.tasks.Part.TheVariants as P
use Rattle.c_control.specs.Loops.{Lawful}
use Rattle.c_steps.proofs.Moves.{advances_from}
use Rattle.c_steps.proofs.choices.decide.Goals as goal

pub returns-clause-next : goal.returns-clause-next
returns-clause-next c =
    advances_from c.args.layouts.now (λ d. ending c.args.layouts.now d (decided c.args.layouts.now d (stmt_view c.args.s.now) c.holds-test.result)) (λ d. running_part c.args.layouts.now d P.Decide (stmt_view c.args.s.now)) c.args.work.now c.take_value.new.self c.decide.new.work (without_value (operands c.args.work.now)) c.take_value.ensures.tasks c.take_value.ensures.operands (λ d next s. ap (λ b. ending c.args.layouts.now d (decided c.args.layouts.now d (stmt_view c.args.s.now) b) next (without_value (operands c.args.work.now)) s) (c.holds-test.ensures ∙ ap holds c.take_value.ensures.value)) (c.in_ok-decide.ensures.next c.args.layouts.now (subst Lawful c.program.ensures c.laws_of_loops.ensures))

pub returns-clause-weight : goal.returns-clause-weight
returns-clause-weight c =
    omega (arith, c.in_ok-decide.ensures.weight, ap tasks_weight c.take_value.ensures.tasks)
