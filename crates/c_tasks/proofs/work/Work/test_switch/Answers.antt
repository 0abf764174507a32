use Rattle.std.proofs.Common.{refl}
use Rattle.rvt_tree.specs.Views.{expr_view, groups_view}
use Rattle.c_tasks.specs.Tasks.{evaluating, selecting}
use Rattle.c_tasks.proofs.Sequences.{becomes_then}
use Rattle.c_tasks.proofs.ValueForms.{on_ok}
use Rattle.c_tasks.proofs.work.Work.test_switch.Goals as goal

pub returns-clause-next : goal.returns-clause-next
returns-clause-next c =
    on_ok c.evaluate.result (λ h. becomes_then (λ program d. selecting program d (groups_view c.args.groups.now.value)) (λ program d. evaluating program d (expr_view c.args.e.now)) (λ program d next. evaluating program d (expr_view c.args.e.now) (selecting program d (groups_view c.args.groups.now.value) next)) c.args.self.now c.evaluate.new.self c.put.new.tasks.items c.in_ok-put.ensures.next h (λ program d next on s. refl)) c.evaluate.ensures.next
