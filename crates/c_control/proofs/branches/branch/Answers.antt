use Rattle.std.proofs.Common.{false, sym, ap, ◌∙◌, subst}
use Rattle.std.specs.Prelude.{option_map}
use Rattle.rvt_tree.specs.Views.{stmt_view}
use Rattle.c_meaning.specs.Outcomes.{Normally}
use Rattle.c_tasks.specs.Operands.{operands, with_manner}
use Rattle.c_tasks.specs.Tasks.{running_statement, after, TasksBecome}
use Rattle.c_tasks.proofs.Sequences.{becomes_with}
use Rattle.c_tasks.proofs.ValueForms.{on_ok}
use Rattle.c_control.specs.Branches.{branching_by}
use Rattle.c_control.proofs.branches.branch.Goals as goal

pub returns-then-holds-clause-next : goal.returns-then-holds-clause-next
returns-then-holds-clause-next c =
    on_ok c.put.result (λ h program d s. ap (λ next. next (operands c.args.work.now) s) ((subst (λ x. TasksBecome (λ program d. running_statement program d (stmt_view x)) c.args.work.now.tasks.items c.put.new.tasks.items) c.deref.ensures h) program d) ∙ sym (ap (λ b. branching_by program d b (stmt_view c.args.first.now.value) (option_map (λ x. stmt_view x.now.value) c.args.second) (after program d c.args.work.now.tasks.items) (operands c.args.work.now) s) c.if-holds.true)) c.put.ensures.next

pub returns-in-Some-clause-next : goal.returns-in-Some-clause-next
returns-in-Some-clause-next c =
    on_ok c.put-in-Some.result (λ h program d s. ap (λ next. next (operands c.args.work.now) s) ((subst (λ x. TasksBecome (λ program d. running_statement program d (stmt_view x)) c.args.work.now.tasks.items c.put-in-Some.new.tasks.items) c.deref-in-Some.ensures h) program d) ∙ sym (ap (λ b. branching_by program d b (stmt_view c.args.first.now.value) (option_map (λ x. stmt_view x.now.value) c.args.second) (after program d c.args.work.now.tasks.items) (operands c.args.work.now) s) c.if-holds.false ∙ ap (λ o. branching_by program d false (stmt_view c.args.first.now.value) (option_map (λ x. stmt_view x.now.value) o) (after program d c.args.work.now.tasks.items) (operands c.args.work.now) s) c.in-Some.is)) c.put-in-Some.ensures.next

pub returns-in-None-clause-next : goal.returns-in-None-clause-next
returns-in-None-clause-next c =
    becomes_with (λ program d. branching_by program d c.args.holds (stmt_view c.args.first.now.value) (option_map (λ x. stmt_view x.now.value) c.args.second)) c.args.work.now c.end.new.self (with_manner Normally (operands c.args.work.now)) c.end.ensures.tasks c.end.ensures.operands (λ program d next s. sym (ap (λ b. branching_by program d b (stmt_view c.args.first.now.value) (option_map (λ x. stmt_view x.now.value) c.args.second) next (operands c.args.work.now) s) c.if-holds.false ∙ ap (λ o. branching_by program d false (stmt_view c.args.first.now.value) (option_map (λ x. stmt_view x.now.value) o) next (operands c.args.work.now) s) c.in-None.is))
