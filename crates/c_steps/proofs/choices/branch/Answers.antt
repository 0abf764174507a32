use Rattle.std.proofs.Common.{ap, ◌∙◌, arith}
use Rattle.rvt_tree.specs.Views.{stmt_view}
use Rattle.c_meaning.specs.Stores.{holds}
use Rattle.c_tasks.specs.Operands.{operands, without_value}
use Rattle.c_tasks.specs.Tasks.{step}
use Rattle.c_tasks.specs.Weights.{tasks_weight}
use Rattle.c_tasks.specs.declared.tasks.Task.TheVariants as T
use Rattle.c_control.specs.Branches.{branching_by}
use Rattle.c_steps.proofs.Moves.{becomes_from}
use Rattle.std.proofs.Common.{option_map}
use Rattle.c_steps.proofs.Branched.{branched}
use Rattle.c_steps.proofs.choices.branch.Goals as goal

pub returns-clause-next : goal.returns-clause-next
returns-clause-next c =
    becomes_from (λ program d. branching_by program d c.holds-test.result (stmt_view c.args.first.now.value) (option_map (λ s. stmt_view s.now.value) c.args.second)) (λ program d. step program d (T.Branch c.args.first c.args.second)) c.args.work.now c.take_value.new.self c.branch-work.new.work (without_value (operands c.args.work.now)) c.take_value.ensures.tasks c.take_value.ensures.operands (λ program d next s. branched program d (stmt_view c.args.first.now.value) (option_map (λ s. stmt_view s.now.value) c.args.second) (operands c.args.work.now) c.holds-test.result next s (c.holds-test.ensures ∙ ap holds c.take_value.ensures.value)) c.in_ok-branch.ensures.next

pub returns-clause-weight : goal.returns-clause-weight
returns-clause-weight c =
    omega (arith, c.in_ok-branch.ensures.weight, ap tasks_weight c.take_value.ensures.tasks)
